-- Where each view shows something, each segment is asked for.
use Rattle.solid_model.proofs.laws.matching.three_views_are_matched_segment_by_segment.Goals as goal

pub returns : goal.returns
returns c = λ drawing shown s. ((λ m. (m.0, λ g. m.1 g (shown g.view))), (λ m. (m.0, λ g shows. m.1 g)))
