use Rattle.std.proofs.Common.{◌∙◌, sym, refl}
use Rattle.std.proofs.lemmas.Bool.{false≢true}
use Rattle.std.proofs.lemmas.Option.{none-some}
use Rattle.proof_check.proofs.asking.all_met.Goals as goal

pub returns-in-None : goal.returns-in-None
returns-in-None c = ((λ _. c.broken_line.ensures.none.0 c.in-None.is), (λ _. refl))

pub returns-in-Some : goal.returns-in-Some
returns-in-Some c = ((λ t. absurd (false≢true t)), (λ met. absurd (none-some _ (sym (c.broken_line.ensures.none.1 met) ∙ c.in-Some.is))))
