-- A cut solid draws, hidden edges left out, what the solid of its shaded grid cells draws.
use Rattle.std.proofs.Common.{ℕ, List, Bool, ℤ, ◌-ℤ◌, pos, ◌<ℤ◌}
use Rattle.lemmas.specs.Lists.{Ascends}
use Rattle.solid_model.specs.declared.cell.Axis.{Axis}
use Rattle.solid_model.specs.declared.cell.Cell.{Cell}
use Rattle.solid_model.specs.declared.frame.Frame.{Frame}
use Rattle.solid_model.specs.declared.segment.Segment.{Segment}
use Rattle.solid_model.specs.declared.segment.Style.{Style}
use Rattle.solid_model.specs.Cells.{is_full}
use Rattle.solid_model.specs.Draws.{Draws}
use Rattle.solid_model.specs.Frames.{IsFrame}
use Rattle.solid_model.specs.Grid.{Coordinates, IsUnionOf}
use Rattle.solid_model.specs.Segments.{line_of}
use Rattle.section_laws.specs.Sections.{rest_behind, visible_style}
use Rattle.section_laws.specs.Shaded.{AreShaded, IsCutGap}
use Rattle.section_laws.proofs.CutDrawing.{seen_drawn}
use Rattle.section_laws.proofs.ShadedUnion.{shades}

pub section_drawn : (f : Frame) → IsFrame f → (coordinates : Coordinates) → ((a : Axis) → Ascends ◌<ℤ◌ (coordinates a))
    → (chosen shaded : List Bool) (first : ℕ) → AreShaded f.away coordinates first chosen shaded → (s other : List Cell)
    → IsUnionOf coordinates chosen (is_full s) → IsUnionOf coordinates shaded (is_full other) → (plane : ℤ) → IsCutGap f.away (coordinates f.away.axis) plane first
    → (g : Segment) (style : Style) → Draws f (is_full (rest_behind f plane s)) g style → Draws f (is_full other) g (visible_style style)
section_drawn f is coordinates ascends chosen shaded first are s other union union_too plane in_first g style = seen_drawn f is plane s other g _ _
    (shades f is coordinates ascends g (line_of g) chosen shaded first are s other union union_too plane in_first)
    (shades f is coordinates ascends g (line_of g -ℤ pos 1) chosen shaded first are s other union union_too plane in_first) style
