-- Those of different lengths differ, and those of one length are compared.
use Rattle.std.proofs.Common.{◌≡◌, ◌↔◌, Bool, List, IsTrue, true, false, length, refl, sym, ◌∙◌, ap}
use Rattle.std.proofs.lemmas.Bool.{false≢true}
use Rattle.lemmas.proofs.Truth.{same_by}
use Rattle.search_end.proofs.left.same_choice.Goals as goal

-- no test that answers no holds where they differ
differ : (a b : List Bool) → (a ≡ b → ⊥) → IsTrue false ↔ (a ≡ b)
differ a b other = ((λ e. absurd (false≢true e)), (λ e. absurd (other e)))

pub returns-then-len-clause-value : goal.returns-then-len-clause-value
returns-then-len-clause-value c = same_by false c.args.a.now c.args.b.now (λ e. absurd (false≢true e)) (λ e. absurd (c.if-len.true (c.len.ensures ∙ ap length e ∙ sym c.len-2.ensures)))

pub returns-then-len-clause-same : goal.returns-then-len-clause-same
returns-then-len-clause-same c = differ c.args.a.now c.args.b.now (λ e. c.if-len.true (c.len.ensures ∙ ap length e ∙ sym c.len-2.ensures))

pub returns-in-Equal-clause-value : goal.returns-in-Equal-clause-value
returns-in-Equal-clause-value c = same_by true c.args.a.now c.args.b.now (λ e. c.in-Equal.ensures.equal.0 refl) (λ e. refl)

pub returns-in-Equal-clause-same : goal.returns-in-Equal-clause-same
returns-in-Equal-clause-same c = ((λ e. c.in-Equal.ensures.equal.0 refl), (λ e. refl))

pub returns-in_default-clause-value : goal.returns-in_default-clause-value
returns-in_default-clause-value c = same_by false c.args.a.now c.args.b.now (λ e. absurd (false≢true e)) (λ e. absurd (c.in_default.not-Equal (c.compare.ensures.equal.1 e)))

pub returns-in_default-clause-same : goal.returns-in_default-clause-same
returns-in_default-clause-same c = differ c.args.a.now c.args.b.now (λ e. c.in_default.not-Equal (c.compare.ensures.equal.1 e))
