-- A small problem, written out, to check a log by hand.
use Rattle.std.specs.Prelude.{ℕ, List, [], ◌∷◌, pos, Some, codes}
use Rattle.solid_model.specs.declared.segment.Style.TheVariants.{Blank, Dashed, Solid}
use Rattle.solid_model.specs.Blocks.{ProblemParts}
use Rattle.solid_model.specs.Panels.{PanelStyles}

-- three cells wide and two high: the outline, and the notch in the middle of its upper row
abbrev pub notch_above : PanelStyles
notch_above = record {
  level = Solid ∷ Solid ∷ Solid ∷ Blank ∷ Solid ∷ Blank ∷ Solid ∷ Solid ∷ Solid ∷ [];
  upright = Solid ∷ Solid ∷ Blank ∷ Solid ∷ Blank ∷ Solid ∷ Solid ∷ Solid ∷ [];
}

-- the same with the notch in the middle of its lower row
abbrev pub notch_below : PanelStyles
notch_below = record {
  level = Solid ∷ Solid ∷ Solid ∷ Blank ∷ Solid ∷ Blank ∷ Solid ∷ Solid ∷ Solid ∷ [];
  upright = Solid ∷ Solid ∷ Solid ∷ Blank ∷ Solid ∷ Blank ∷ Solid ∷ Solid ∷ [];
}

-- two cells wide and high, with a notch hidden at the upper left
abbrev pub notch_behind : PanelStyles
notch_behind = record {
  level = Solid ∷ Solid ∷ Dashed ∷ Blank ∷ Solid ∷ Solid ∷ [];
  upright = Solid ∷ Solid ∷ Blank ∷ Dashed ∷ Solid ∷ Solid ∷ [];
}

-- A bar with a notch in the middle of its upper front edge. All its cells are one block, and the notch is the other one.
abbrev pub notched_bar : ProblemParts
notched_bar = record {
  grid = record {
    xs = pos 0 ∷ pos 1 ∷ pos 2 ∷ pos 4 ∷ [];
    ys = pos 0 ∷ pos 1 ∷ pos 3 ∷ [];
    zs = pos 0 ∷ pos 2 ∷ pos 3 ∷ [];
    panels = record { front = notch_above; top = notch_below; side = notch_behind };
  };
  blocks = record {
    sizes = record { x = 3; y = 2; z = 2 };
    numbers = Some 0 ∷ Some 0 ∷ Some 0 ∷ Some 0 ∷ Some 0 ∷ Some 0 ∷ Some 0 ∷ Some 1 ∷ Some 0 ∷ Some 0 ∷ Some 0 ∷ Some 0 ∷ [];
    count = 2;
  };
}

-- The lines of its log. Where the bar is full, the stroke to the right of the notch shows that the notch is empty, and that is the
-- solid; where it is empty, the last stroke of its front can't be met.
abbrev pub bar_log : List ℕ
bar_log = codes "log 1 blocks 2\nsplit 0\nforce 1 0 front u 2 1\nsolid\nfail front u 3 1\nend 1"
