-- The computed style is drawn, and no other is.
use Rattle.solid_model.specs.DrawnStyle.{drawn_style}
use Rattle.solid_model.proofs.Styles.{drawn_style_drawn, one_style}
use Rattle.solid_model.proofs.Views.{views_are_frames}
use Rattle.solid_model.proofs.laws.drawings.each_segment_has_one_style.Goals as goal

pub returns-clause-views : goal.returns-clause-views
returns-clause-views c = views_are_frames

pub returns-clause-some : goal.returns-clause-some
returns-clause-some c = λ f is s g. (drawn_style f s g, drawn_style_drawn f is s g)

pub returns-clause-one : goal.returns-clause-one
returns-clause-one c = one_style

pub returns-clause-computed : goal.returns-clause-computed
returns-clause-computed c = drawn_style_drawn
