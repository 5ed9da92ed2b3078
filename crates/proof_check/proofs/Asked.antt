-- What a grid is asked for.
use Rattle.std.proofs.Common.{◌⊎◌, inl, inr, ◌<◌, ◌≤◌, IsTrue, arith}
use Rattle.line_demands.proofs.ColumnPlaces.{line_within}
use Rattle.solid_model.specs.declared.cell.Axis.{Axis}
use Rattle.solid_model.specs.Demands.{has_line}
use Rattle.solid_model.specs.GridBox.{grid_sizes, axis_across, axis_along}
use Rattle.solid_model.specs.Panels.{GridParts}
use Rattle.completeness_logs.specs.declared.entry.LinePlace.{LinePlace}
use Rattle.completeness_logs.specs.Logs.{line_placed}

-- no grid has a line so far away
pub far : (g : GridParts) → ((a : Axis) → grid_sizes g a ≤ 63) → (place : LinePlace) → (255 < place.at) ⊎ (255 < place.cell)
    → IsTrue (has_line g (line_placed place)) → ⊥
far g few place which has =
    let within = line_within g (line_placed place) has in
    elim which as (λ _. ⊥) [
      | inl l ↦ (let f = few (axis_across place.view place.upright) in omega (arith, l, within.0, f))
      | inr l ↦ (let f = few (axis_along place.view place.upright) in omega (arith, l, within.1, f))
    ]
