-- A small sheet, written out.
use Rattle.std.specs.Prelude.{List, [], ◌∷◌, ℕ, pos}
use Rattle.solid_model.specs.declared.frame.View.{View}
use Rattle.solid_model.specs.declared.frame.View.TheVariants.{Front, Top}
use Rattle.solid_model.specs.declared.segment.Style.{Style}
use Rattle.solid_model.specs.declared.segment.Style.TheVariants.{Dashed, Solid}
use Rattle.solid_model.specs.Line.{Line}

-- a line of a view, from (x0, y0) to (x1, y1)
abbrev pub small_line : View → Style → ℕ → ℕ → ℕ → ℕ → Line
small_line v style x0 y0 x1 y1 = record { of = v; style = style; x0 = pos x0; y0 = pos y0; x1 = pos x1; y1 = pos y1; number = 1 }

-- In front a level solid line from 5 to 7, overlapped by a dashed one that runs back from 8 to 6, and an upright one that
-- stands there again, running back; below and to the left a line of no length. From above only such a line; nothing from the
-- side.
abbrev pub small_sheet : List Line
small_sheet = small_line Front Solid 5 7 7 7 ∷ small_line Front Dashed 8 7 6 7
    ∷ small_line Front Solid 5 7 5 8 ∷ small_line Front Dashed 5 8 5 7
    ∷ small_line Front Solid 3 3 3 3 ∷ small_line Top Solid 1 1 1 1 ∷ []
