-- Which solids a drawing shows.
use Rattle.std.specs.Prelude.{List}
use Rattle.solid_model.specs.declared.cell.Cell.{Cell}
use Rattle.solid_model.specs.declared.segment.Segment.{Segment}
use Rattle.solid_model.specs.declared.segment.Style.{Style}
use Rattle.solid_model.specs.Cells.{is_full, IsSolid, SameCells}
use Rattle.solid_model.specs.Draws.{Draws}
use Rattle.solid_model.specs.Frames.{frame_of}
use Rattle.solid_model.specs.Moved.{Shows}
use Rattle.lemmas.specs.Lists.{Member, Each, Ascends}
use Rattle.solid_model.specs.Orders.{IsInStatedForm, SolidPrecedes}

-- A solid matches a drawing, which gives each unit segment of each view a style, where its own drawing is the same in each view that
-- shows something: one that shows nothing demands nothing.
abbrev pub Matches : (Segment → Style) → List Cell → Type 0
Matches drawing s = IsSolid s × ((g : Segment) → Shows drawing g.view → Draws (frame_of g.view) (is_full s) g (drawing g))

-- all matching solids: each in the stated form, in the stated order, none left out
pub record AreSolidsOf (drawing : Segment → Style) (solids : List (List Cell)) : Type 0 where
  pub matching : Each (λ s. Matches drawing s × IsInStatedForm s) solids
  pub ordered : Ascends SolidPrecedes solids
  pub complete : (s : List Cell) → Matches drawing s → (t : List Cell) × Member solids t × SameCells s t

-- some of them: each in the stated form, in the stated order
pub record AreSomeSolidsOf (drawing : Segment → Style) (solids : List (List Cell)) : Type 0 where
  pub matching : Each (λ s. Matches drawing s × IsInStatedForm s) solids
  pub ordered : Ascends SolidPrecedes solids
