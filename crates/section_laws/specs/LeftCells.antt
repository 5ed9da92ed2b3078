-- Grid cells that stand for what a plane leaves of a solid.
use Rattle.std.specs.Prelude.{◌≡◌, ◌<◌, Bool, false, ℕ, List, ℤ}
use Rattle.solid_model.specs.declared.cell.Cell.{Cell}
use Rattle.solid_model.specs.declared.frame.Frame.{Frame}
use Rattle.solid_model.specs.declared.segment.Segment.{Segment}
use Rattle.solid_model.specs.declared.segment.Style.{Style}
use Rattle.solid_model.specs.Cells.{is_full}
use Rattle.solid_model.specs.Draws.{Draws}
use Rattle.solid_model.specs.Grid.{Coordinates, gaps_along, IsUnionOf}
use Rattle.section_laws.specs.Sections.{left_by, visible_style}
use Rattle.section_laws.specs.Shaded.{AreLeftCells}

-- nothing is left of the solid whose grid cells are chosen
abbrev pub LeavesNothing : Frame → Coordinates → List Bool → ℤ → Bool → Type 0
LeavesNothing f coordinates chosen plane area = (s : List Cell) → IsUnionOf coordinates chosen (is_full s)
    → (c : Cell) → is_full (left_by f plane area s) c ≡ false

-- or what is left draws, hidden edges left out, just what the solid of these grid cells draws
abbrev pub DrawsWhatIsLeft : Frame → Coordinates → List Bool → ℤ → Bool → List Bool → Type 0
DrawsWhatIsLeft f coordinates chosen plane area kept = (s other : List Cell) → IsUnionOf coordinates chosen (is_full s)
    → IsUnionOf coordinates kept (is_full other) → (g : Segment) (style : Style)
    → Draws f (is_full (left_by f plane area s)) g style → Draws f (is_full other) g (visible_style style)

-- whichever grid cells are chosen, that of the solid of those which a gap of the grid leaves of them
pub record IsLeftFrom (f : Frame) (coordinates : Coordinates) (plane : ℤ) (area : Bool) (gap : ℕ) : Type 0 where
  pub within : gap < gaps_along coordinates f.away.axis
  pub draws : (chosen kept : List Bool) → AreLeftCells area f.away coordinates gap chosen kept → DrawsWhatIsLeft f coordinates chosen plane area kept
