-- Problems of small drawings of which two views alone show something, written out to check by hand.
use Rattle.std.specs.Prelude.{◌==◌, Bool, ℕ, List, [], ◌∷◌, map, pos, Some, None}
use Rattle.column_laws.specs.SmallForcing.{square_in_four}
use Rattle.solid_model.specs.declared.segment.Style.TheVariants.{Blank, Dashed, Solid}
use Rattle.solid_model.specs.Blocks.{ProblemParts}
use Rattle.solid_model.specs.Panels.{PanelStyles, PanelsStyles}

-- the choice whose values these letters tell, a 1 for a full block and a 0 for an empty one
abbrev pub told_choice : List ℕ → List Bool
told_choice letters = map (λ letter. letter == 49) letters

-- two cells wide and high, and nothing drawn
abbrev pub nothing_in_four : PanelStyles
nothing_in_four = record {
  level = Blank ∷ Blank ∷ Blank ∷ Blank ∷ Blank ∷ Blank ∷ [];
  upright = Blank ∷ Blank ∷ Blank ∷ Blank ∷ Blank ∷ Blank ∷ [];
}

-- what is seen of two cells one above the other, or one behind the other, with a stroke between them
abbrev pub one_on_another : PanelStyles
one_on_another = record { level = Solid ∷ Solid ∷ Solid ∷ []; upright = Solid ∷ Solid ∷ Solid ∷ Solid ∷ [] }

-- the unit cube without its view from the top: one block
abbrev pub cube_without_top : ProblemParts
cube_without_top = record {
  grid = record {
    xs = pos 0 ∷ pos 1 ∷ [];
    ys = pos 0 ∷ pos 1 ∷ [];
    zs = pos 0 ∷ pos 1 ∷ [];
    panels = record {
      front = record { level = Solid ∷ Solid ∷ []; upright = Solid ∷ Solid ∷ [] };
      top = record { level = Blank ∷ Blank ∷ []; upright = Blank ∷ Blank ∷ [] };
      side = record { level = Solid ∷ Solid ∷ []; upright = Solid ∷ Solid ∷ [] };
    };
  };
  blocks = record { sizes = record { x = 1; y = 1; z = 1 }; numbers = Some 0 ∷ []; count = 1 };
}

-- the quartered cube where this is seen of it: two by two by two cells, each a block
abbrev pub quartered_by : PanelsStyles → ProblemParts
quartered_by panels = record {
  grid = record {
    xs = pos 0 ∷ pos 1 ∷ pos 2 ∷ [];
    ys = pos 0 ∷ pos 1 ∷ pos 2 ∷ [];
    zs = pos 0 ∷ pos 1 ∷ pos 2 ∷ [];
    panels = panels;
  };
  blocks = record {
    sizes = record { x = 2; y = 2; z = 2 };
    numbers = Some 0 ∷ Some 1 ∷ Some 2 ∷ Some 3 ∷ Some 4 ∷ Some 5 ∷ Some 6 ∷ Some 7 ∷ [];
    count = 8;
  };
}

-- the quartered cube without its front, its view from the top, or its side
abbrev pub quartered_without_front : ProblemParts
quartered_without_front = quartered_by (record { front = nothing_in_four; top = square_in_four; side = square_in_four })

abbrev pub quartered_without_top : ProblemParts
quartered_without_top = quartered_by (record { front = square_in_four; top = nothing_in_four; side = square_in_four })

abbrev pub quartered_without_side : ProblemParts
quartered_without_side = quartered_by (record { front = square_in_four; top = square_in_four; side = nothing_in_four })

-- A step, three wide, of which its side alone would show which half is high: without its side it may be the one, the other, or
-- neither.
abbrev pub step_without_side : ProblemParts
step_without_side = record {
  grid = record {
    xs = pos 0 ∷ pos 3 ∷ [];
    ys = pos 0 ∷ pos 1 ∷ pos 2 ∷ [];
    zs = pos 0 ∷ pos 1 ∷ pos 2 ∷ [];
    panels = record { front = one_on_another; top = one_on_another; side = nothing_in_four };
  };
  blocks = record {
    sizes = record { x = 1; y = 2; z = 2 };
    numbers = Some 0 ∷ Some 1 ∷ Some 2 ∷ Some 3 ∷ [];
    count = 4;
  };
}

-- A bar with a cell behind its end and one above that, without its side. In front an edge of it is hidden.
abbrev pub bar_without_side : ProblemParts
bar_without_side = record {
  grid = record {
    xs = pos 0 ∷ pos 1 ∷ pos 3 ∷ [];
    ys = pos 0 ∷ pos 1 ∷ pos 2 ∷ [];
    zs = pos 0 ∷ pos 1 ∷ pos 2 ∷ [];
    panels = record {
      front = record {
        level = Solid ∷ Solid ∷ Solid ∷ Solid ∷ Solid ∷ Blank ∷ [];
        upright = Solid ∷ Solid ∷ Dashed ∷ Solid ∷ Solid ∷ Blank ∷ [];
      };
      top = record {
        level = Solid ∷ Solid ∷ Solid ∷ Solid ∷ Solid ∷ Blank ∷ [];
        upright = Solid ∷ Solid ∷ Blank ∷ Solid ∷ Solid ∷ Blank ∷ [];
      };
      side = nothing_in_four;
    };
  };
  blocks = record {
    sizes = record { x = 2; y = 2; z = 2 };
    numbers = Some 0 ∷ Some 0 ∷ Some 1 ∷ None ∷ None ∷ None ∷ Some 2 ∷ None ∷ [];
    count = 3;
  };
}
