-- What is still shown was shown before.
use Rattle.std.proofs.Common.{◌≡◌, refl, sym, subst, ◌∙◌}
use Rattle.solid_model.specs.declared.segment.Segment.{Segment}
use Rattle.solid_model.specs.declared.segment.Style.{Style}
use Rattle.solid_model.specs.declared.frame.View.{View}
use Rattle.solid_model.specs.Cells.{is_full}
use Rattle.solid_model.specs.Draws.{Draws}
use Rattle.solid_model.specs.Frames.{frame_of}
use Rattle.solid_model.specs.Moved.{Shows}
use Rattle.solid_model.proofs.laws.matching.fewer_views_allow_more.Goals as goal

shown_before : (drawing fewer : Segment → Style) → ((g : Segment) → Shows fewer g.view → fewer g ≡ drawing g) → (v : View) → Shows fewer v → Shows drawing v
shown_before drawing fewer same v (h, at, shown) = (h, at, λ blank. shown (same h (h, refl, shown) ∙ blank))

pub returns : goal.returns
returns c = λ drawing fewer same s m. (
  m.0,
  λ g shows.
      subst (Draws (frame_of g.view) (is_full s) g) (sym (same g shows)) (m.1 g (shown_before drawing fewer same g.view shows)),
)
