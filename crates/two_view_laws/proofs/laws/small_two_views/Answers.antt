use Rattle.std.proofs.Common.{refl}
use Rattle.two_view_laws.proofs.laws.small_two_views.Goals as goal

pub returns-clause-front : goal.returns-clause-front
returns-clause-front c = refl

pub returns-clause-front_nodes : goal.returns-clause-front_nodes
returns-clause-front_nodes c = refl

pub returns-clause-top : goal.returns-clause-top
returns-clause-top c = refl

pub returns-clause-top_nodes : goal.returns-clause-top_nodes
returns-clause-top_nodes c = refl

pub returns-clause-side : goal.returns-clause-side
returns-clause-side c = refl

pub returns-clause-side_nodes : goal.returns-clause-side_nodes
returns-clause-side_nodes c = refl
