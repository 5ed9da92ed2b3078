-- Each round is written out; each inside node stands on one.
use Rattle.std.proofs.Common.{◌≡◌, inl, inr, ℕ, zero, suc, List, [], ◌∷◌, refl, arith, rules}
use Rattle.lemmas.specs.Lists.{Member}
use Rattle.rounds.specs.Succession.{IsInside, IsInsideRound}
use Rattle.rounds.specs.SmallRounds.{small_inside, small_next, small_rounds}
use Rattle.rounds.proofs.laws.small_succession.Goals as goal

three : IsInsideRound 6 small_inside small_next (0 ∷ 4 ∷ 2 ∷ [])
three = record {
  from = record {
    some = omega arith;
    steps = refl;
    back = refl;
    once = ((λ e. omega arith, (λ e. omega arith, tt)), ((λ e. omega arith, tt), (tt, tt)));
  };
  within = ((omega arith, refl), ((omega arith, refl), ((omega arith, refl), tt)));
  least = (omega arith, (omega arith, (omega arith, tt)));
}

alone : (a : ℕ) → IsInside 6 small_inside a → small_next a ≡ a → IsInsideRound 6 small_inside small_next (a ∷ [])
alone a on e = record {
  from = record { some = omega arith; steps = refl; back = e; once = (tt, tt) };
  within = (on, tt);
  least = (omega arith, tt);
}

on_one : (a : ℕ) → IsInside 6 small_inside a → (r : List ℕ) × Member small_rounds r × Member r a
on_one zero on = (0 ∷ 4 ∷ 2 ∷ [], inl refl, inl refl)
on_one (suc zero) on = (1 ∷ [], inr (inl refl), inl refl)
on_one (suc (suc zero)) on = (0 ∷ 4 ∷ 2 ∷ [], inl refl, inr (inr (inl refl)))
on_one (suc (suc (suc zero))) on = absurd (search rules)
on_one (suc (suc (suc (suc zero)))) on = (0 ∷ 4 ∷ 2 ∷ [], inl refl, inr (inl refl))
on_one (suc (suc (suc (suc (suc zero))))) on = (5 ∷ [], inr (inr (inl refl)), inl refl)
on_one (suc (suc (suc (suc (suc (suc a)))))) on = let l = on.0 in absurd (omega arith)

pub returns-clause-rounds : goal.returns-clause-rounds
returns-clause-rounds c = record {
  each = (three, (alone 1 (omega arith, refl) refl, (alone 5 (omega arith, refl) refl, tt)));
  ordered = ((omega arith, (omega arith, tt)), ((omega arith, tt), (tt, tt)));
  complete = on_one;
  apart = ((λ a m k. grind arith, (λ a m k. grind arith, tt)), ((λ a m k. grind arith, tt), (tt, tt)));
}
