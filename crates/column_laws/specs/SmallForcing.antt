-- The problem of a small drawing, written out, to check by hand what lines force.
use Rattle.std.specs.Prelude.{Bool, true, false, ℕ, List, [], ◌∷◌, pos, Some}
use Rattle.solid_model.specs.declared.decision.Decision.{Decision}
use Rattle.solid_model.specs.declared.segment.Style.{Style}
use Rattle.solid_model.specs.declared.segment.Style.TheVariants.{Dashed, Solid}
use Rattle.solid_model.specs.Blocks.{ProblemParts}
use Rattle.solid_model.specs.Panels.{PanelStyles}

-- three lines of two segments each, all drawn
abbrev pub all_drawn : List Style
all_drawn = Solid ∷ Solid ∷ Solid ∷ Solid ∷ Solid ∷ Solid ∷ []

-- a square in four
abbrev pub square_in_four : PanelStyles
square_in_four = record { level = all_drawn; upright = all_drawn }

-- and so with half of the stroke in the middle hidden
abbrev pub half_hidden : PanelStyles
half_hidden = record { level = all_drawn; upright = Solid ∷ Solid ∷ Solid ∷ Dashed ∷ Solid ∷ Solid ∷ [] }

-- The quartered cube of which the rear half of a stroke is hidden from above. Its blocks are its eight cells.
abbrev pub quartered_half_hidden : ProblemParts
quartered_half_hidden = record {
  grid = record {
    xs = pos 0 ∷ pos 1 ∷ pos 2 ∷ [];
    ys = pos 0 ∷ pos 1 ∷ pos 2 ∷ [];
    zs = pos 0 ∷ pos 1 ∷ pos 2 ∷ [];
    panels = record { front = square_in_four; top = half_hidden; side = square_in_four };
  };
  blocks = record {
    sizes = record { x = 2; y = 2; z = 2 };
    numbers = Some 0 ∷ Some 1 ∷ Some 2 ∷ Some 3 ∷ Some 4 ∷ Some 5 ∷ Some 6 ∷ Some 7 ∷ [];
    count = 8;
  };
}

-- that a block is full, or empty
abbrev pub decision : ℕ → Bool → Decision
decision block full = record { block = block; full = full }

-- what its lines force: the upper cells at the rear are full, and so those before them are empty
abbrev pub upper_cells : List Decision
upper_cells = decision 6 true ∷ decision 7 true ∷ decision 4 false ∷ decision 5 false ∷ []
