-- Each text comes out of its definition.
use Rattle.std.proofs.Common.{refl}
use Rattle.std.specs.Fmt.{digits}
use Rattle.report.proofs.laws.small_search_texts.Goals as goal

pub returns-clause-whole : goal.returns-clause-whole
unfolding digits
returns-clause-whole c = refl

pub returns-clause-nodes : goal.returns-clause-nodes
unfolding digits
returns-clause-nodes c = refl

pub returns-clause-solids : goal.returns-clause-solids
unfolding digits
returns-clause-solids c = refl

pub returns-clause-solid : goal.returns-clause-solid
unfolding digits
returns-clause-solid c = refl

pub returns-clause-page : goal.returns-clause-page
unfolding digits
returns-clause-page c = refl

pub returns-clause-trial : goal.returns-clause-trial
unfolding digits
returns-clause-trial c = refl

pub returns-clause-none : goal.returns-clause-none
unfolding digits
returns-clause-none c = refl

pub returns-clause-fitting : goal.returns-clause-fitting
unfolding digits
returns-clause-fitting c = refl
