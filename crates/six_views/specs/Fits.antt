-- Which solids fit further views and sections. `AreSolidsOf` is one case of `AreSolidsThat`, which stands here and not beside it,
-- since nothing below this crate asks which solids fit: there it would be proved again for nothing with all that stands on it.
use Rattle.std.specs.Prelude.{Bool, List, Option, Some, None}
use Rattle.dxf_entities.specs.declared.layer.Cut.{Cut}
use Rattle.dxf_entities.specs.declared.layer.Layer.{Layer}
use Rattle.solid_model.specs.declared.cell.Cell.{Cell}
use Rattle.solid_model.specs.declared.frame.Frame.{Frame}
use Rattle.solid_model.specs.declared.frame.View.{View}
use Rattle.solid_model.specs.declared.segment.Segment.{Segment}
use Rattle.solid_model.specs.declared.segment.Style.{Style}
use Rattle.solid_model.specs.Cells.{is_full, SameCells}
use Rattle.solid_model.specs.Draws.{DrawsView}
use Rattle.solid_model.specs.Drawings.{drawing_of}
use Rattle.solid_model.specs.Line.{Line}
use Rattle.lemmas.specs.Lists.{Member, Each, Ascends}
use Rattle.solid_model.specs.Matching.{Matches}
use Rattle.solid_model.specs.Moved.{IsMovedToZero}
use Rattle.solid_model.specs.Orders.{IsInStatedForm, SolidPrecedes}
use Rattle.further_views.specs.Further.{IsAsked}
use Rattle.section_laws.specs.Sections.{left_by, visible_style}
use Rattle.six_views.specs.SightFrames.{sight_frame}

-- seen in the frame, and moved to least coordinates 0, the solid is what is shown in a view
abbrev pub ShowsMoved : Frame → (Cell → Bool) → (Segment → Style) → View → Type 0
ShowsMoved f full shown v = (drawing : Segment → Style) × DrawsView f full drawing v × IsMovedToZero drawing shown v

-- so is what a cut leaves of it, hidden edges left out
abbrev pub ShowsLeft : Frame → Cut → List Cell → (Segment → Style) → View → Type 0
ShowsLeft f c s shown v = (drawing : Segment → Style) × DrawsView f (is_full (left_by f c.at c.area s)) drawing v
    × IsMovedToZero (λ g. visible_style (drawing g)) shown v

-- whole, or cut
abbrev pub ShowsCut : Option Cut → Frame → List Cell → (Segment → Style) → View → Type 0
ShowsCut None f s shown v = ShowsMoved f (is_full s) shown v
ShowsCut (Some c) f s shown v = ShowsLeft f c s shown v

-- the solid shows this as a layer does
abbrev pub ShowsLayer : Layer → List Cell → (Segment → Style) → Type 0
ShowsLayer l s shown = ShowsCut l.cut (sight_frame l) s shown l.view

-- The lines of the layers beside the three main ones, each as lines of its view: a layer is asked for where they cover something.
-- A solid fits them where it shows what they do as each layer that is asked for.
abbrev pub Fits : (Layer → List Line) → List Cell → Type 0
Fits further s = (l : Layer) → IsAsked further l → ShowsLayer l s (drawing_of (further l))

-- all solids that have a property: each in the stated form, in the stated order, none left out
pub record AreSolidsThat (P : List Cell → Type 0) (solids : List (List Cell)) : Type 0 where
  pub each : Each (λ s. P s × IsInStatedForm s) solids
  pub ordered : Ascends SolidPrecedes solids
  pub complete : (s : List Cell) → P s → (t : List Cell) × Member solids t × SameCells s t

-- all that match a drawing and fit further views and sections
abbrev pub AreFittingSolids : (Segment → Style) → (Layer → List Line) → List (List Cell) → Type 0
AreFittingSolids drawing further = AreSolidsThat (λ s. Matches drawing s × Fits further s)

-- some solids that have a property: each in the stated form, in the stated order
pub record AreSomeSolidsThat (P : List Cell → Type 0) (solids : List (List Cell)) : Type 0 where
  pub each : Each (λ s. P s × IsInStatedForm s) solids
  pub ordered : Ascends SolidPrecedes solids

-- some that match a drawing and fit further views and sections
abbrev pub AreSomeFittingSolids : (Segment → Style) → (Layer → List Line) → List (List Cell) → Type 0
AreSomeFittingSolids drawing further = AreSomeSolidsThat (λ s. Matches drawing s × Fits further s)
