-- A made solid has a cell, and its drawing keeps what a drawing of three views keeps.
use Rattle.std.proofs.Common.{ℕ, List, [], ◌∷◌, refl}
use Rattle.drawing_maker.specs.Made.{made_cubes, made_solid}
use Rattle.drawing_maker.specs.Rows.{coordinates_of_ticks, row_ticks}
use Rattle.drawing_maker.proofs.MadeGrid.{made_drawing}
use Rattle.solid_model.specs.declared.cell.Axis.TheVariants.{X}
use Rattle.solid_model.specs.declared.cell.Cell.{Cell}
use Rattle.solid_model.specs.Cells.{IsSolid}
use Rattle.solid_model.specs.DrawnStyle.{solid_drawing}
use Rattle.solid_model.specs.Runs.{IsDrawing}

pub made_is_drawing : (n : ℕ) → IsDrawing (solid_drawing (made_solid n))
made_is_drawing n = made_drawing n (λ a. coordinates_of_ticks (row_ticks (made_cubes n))) (λ a. refl)

-- what draws something has a cell
drawn_is_solid : (s : List Cell) → IsDrawing (solid_drawing s) → IsSolid s
drawn_is_solid [] is = let some = (is.sees X).3 in absurd (some.2 refl)
drawn_is_solid (c ∷ cs) is = tt

pub made_is_solid : (n : ℕ) → IsSolid (made_solid n)
made_is_solid n = drawn_is_solid (made_solid n) (made_is_drawing n)
