-- Each text comes out of its definition.
use Rattle.std.proofs.Common.{refl}
use Rattle.std.specs.Fmt.{digits}
use Rattle.report.proofs.laws.small_fault_texts.Goals as goal

pub returns-clause-code : goal.returns-clause-code
unfolding digits
returns-clause-code c = refl

pub returns-clause-line : goal.returns-clause-line
unfolding digits
returns-clause-line c = refl

pub returns-clause-axis : goal.returns-clause-axis
unfolding digits
returns-clause-axis c = refl
