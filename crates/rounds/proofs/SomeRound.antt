-- Each inside node of a succession has a round.
use Rattle.std.proofs.Common.{◌≡◌, ◌≢◌, inl, inr, ℕ, zero, suc, ◌+◌, ◌<◌, Bool, List, refl, sym, ap, subst, ◌∙◌, arith}
use Rattle.std.proofs.lemmas.Bool.{cases_eq}
use Rattle.lemmas.specs.Lists.{Member, Each, Ascends}
use Rattle.lemmas.proofs.Lists.{each-from, ascends-push}
use Rattle.lemmas.proofs.WithoutRepeats.{no_longer}
use Rattle.rounds.specs.Succession.{IsInside, IsSuccession, node_ahead, run, IsRoundFrom}
use Rattle.rounds.proofs.Runs.{run-push, length-run, member-node_ahead, member-run, node_ahead-apart}

-- so many steps of counting from 0 on lead to that number
counted : (n : ℕ) → node_ahead suc n 0 ≡ n
counted zero = refl
counted (suc n) = ap suc (counted n)

module _ (nodes : ℕ) (inside : ℕ → Bool) (next : ℕ → ℕ) (h : IsSuccession nodes inside next) (a : ℕ)
    (on : IsInside nodes inside a) where
  -- steps stay inside
  inside_further : (n : ℕ) → IsInside nodes inside (node_ahead next n a)
  inside_further zero = on
  inside_further (suc n) = h.kept (node_ahead next n a) (inside_further n)

  -- and so does a run
  each_inside : (n : ℕ) → Each (IsInside nodes inside) (run next n a)
  each_inside n = each-from (IsInside nodes inside) (run next n a)
      (λ b m. let (k, l, e) = member-run next n a b m in subst (IsInside nodes inside) e (inside_further k))

  -- a run without repeats is no longer than there are nodes
  few : (n : ℕ) → Ascends ◌≢◌ (run next n a) → n < nodes + 1
  few n once =
      let shorter = no_longer (run next n a) (run suc nodes 0) once (λ b m.
      let (k, l, e) = member-run next n a b m in
      let within = subst (IsInside nodes inside) e (inside_further k) in
      subst (Member (run suc nodes 0)) (counted b) (member-node_ahead suc nodes b 0 within.0)) in
      let p = length-run next n a in
      let q = length-run suc nodes 0 in
      omega (arith, shorter, p, q)

  -- Where a run has no repeats, and the node after it isn't its first, that node is none of them: else the nodes before them
  -- would be one.
  not_on_run : (n k : ℕ) → Ascends ◌≢◌ (run next n a) → k < n → node_ahead next n a ≢ a → node_ahead next k a ≢ node_ahead next n a
  not_on_run zero k once l other = absurd (omega arith)
  not_on_run (suc n) zero once l other = λ e. other (sym e)
  not_on_run (suc n) (suc k) once l other = λ e.
      node_ahead-apart next (suc n) k n a once (omega arith) (omega arith)
      (h.one_to_one (node_ahead next k a) (node_ahead next n a) (inside_further k) (inside_further n) e)

  -- so the run with that node has no repeats either
  once_more : (n : ℕ) → Ascends ◌≢◌ (run next n a) → node_ahead next n a ≢ a → Ascends ◌≢◌ (run next (suc n) a)
  once_more n once other = subst (Ascends ◌≢◌) (sym (run-push next n a))
      (ascends-push ◌≢◌ (run next n a) (node_ahead next n a) once
      (each-from (λ b. b ≢ node_ahead next n a) (run next n a) (λ b m.
      let (k, l, e) = member-run next n a b m in subst (λ c. c ≢ node_ahead next n a) e (not_on_run n k once l other))))

  abbrev HasRound : Type 0
  HasRound = (round : List ℕ) × IsRoundFrom next a round × Each (IsInside nodes inside) round

  -- a run that comes back
  comes_back : (n : ℕ) → 0 < n → Ascends ◌≢◌ (run next n a) → node_ahead next n a ≡ a → HasRound
  comes_back n some once e =
      let long = length-run next n a in (
        run next n a,
        record {
          some = omega arith;
          steps = ap (λ k. run next k a) (sym long);
          back = ap (λ k. node_ahead next k a) long ∙ e;
          once = once;
        },
        each_inside n,
      )

  -- longer and longer runs: one comes back before there are more nodes on it than there are
  go_on : (left n : ℕ) → left + n ≡ nodes + 1 → 0 < n → Ascends ◌≢◌ (run next n a) → HasRound
  go_on zero n sum some once = let l = few n once in absurd (omega arith)
  go_on (suc left) n sum some once = elim (cases_eq (node_ahead next n a) a) as (λ _. HasRound) [
    | inl e ↦ comes_back n some once e
    | inr other ↦ go_on left (suc n) (omega arith) (omega arith) (once_more n once other)
  ]

  -- so the node has a round
  pub some_round : HasRound
  some_round = go_on nodes 1 refl (omega arith) (tt, tt)
