-- The lines of a small grid, written out.
use Rattle.std.specs.Prelude.{Bool, ℕ, [], ◌∷◌, pos}
use Rattle.solid_model.specs.declared.segment.Style.TheVariants.{Blank, Solid}
use Rattle.solid_model.specs.declared.frame.View.{View}
use Rattle.solid_model.specs.declared.line_id.LineId.{LineId}
use Rattle.solid_model.specs.Panels.{PanelStyles, GridParts}

-- a panel of which the first style is told alone: its view shows something
abbrev pub told_first : PanelStyles
told_first = record { level = Solid ∷ []; upright = [] }

-- a panel of a view that shows nothing
abbrev pub missing : PanelStyles
missing = record { level = Blank ∷ []; upright = Blank ∷ [] }

-- a grid of two cells along x and one along y and z; but for views that show nothing, which lines it has doesn't lie in their styles
abbrev pub two_cells : GridParts
two_cells = record {
  xs = pos 0 ∷ pos 1 ∷ pos 2 ∷ [];
  ys = pos 0 ∷ pos 1 ∷ [];
  zs = pos 0 ∷ pos 1 ∷ [];
  panels = record { front = told_first; top = told_first; side = told_first };
}

-- the line of a view at a position and a cell
abbrev pub line : View → Bool → ℕ → ℕ → LineId
line v upright at cell = record { view = v; upright = upright; at = at; cell = cell }
