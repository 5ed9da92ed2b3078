-- There is at most one list of rounds.
use Rattle.std.proofs.Common.{◌≡◌, ◌≢◌, inl, inr, ℕ, zero, suc, ◌+◌, ◌-◌, ◌<◌, ◌≤◌, Bool, List, length, refl, sym, ap, subst, ◌∙◌, arith}
use Rattle.std.proofs.lemmas.Bool.{cases_lt}
use Rattle.lemmas.specs.Lists.{Member, Ascends}
use Rattle.lemmas.proofs.Lists.{IsWithin, each-at, same_ascending}
use Rattle.rounds.specs.Succession.{IsInside, node_ahead, run, first, IsRoundFrom, IsInsideRound, AreRounds}
use Rattle.rounds.proofs.Runs.{member-node_ahead, member-run, node_ahead-apart}
use Rattle.rounds.proofs.Traced.{member_start}

module _ (next : ℕ → ℕ) where
  -- some steps on from so many, and as many on together
  pub node_ahead-further : (j k n a : ℕ) → j + k ≡ n → node_ahead next j (node_ahead next k a) ≡ node_ahead next n a
  node_ahead-further zero k n a e = ap (λ i. node_ahead next i a) (let q : k ≡ n = omega arith in q)
  node_ahead-further (suc j) k n a e =
      ap next (node_ahead-further j k (j + k) a refl) ∙ ap (λ i. node_ahead next i a) (let q : suc (j + k) ≡ n = omega arith in q)

  -- a round is closed under steps
  pub stays_on : (start : ℕ) (round : List ℕ) → IsRoundFrom next start round → (a : ℕ) → Member round a → Member round (next a)
  stays_on start round h a m =
      let n = length round in
      let (k, l, e) = member-run next n start a (subst (λ r. Member r a) h.steps m) in
      let leads : node_ahead next (suc k) start ≡ next a = ap next e in
      elim (cases_lt (suc k) n) as (λ _. Member round (next a)) [
        | inl before ↦ (let on = member-node_ahead next n (suc k) start before in
            subst (Member round) leads (subst (λ r. Member r (node_ahead next (suc k) start)) (sym h.steps) on))
        | inr last ↦ (let same : n ≡ suc k = omega arith in
            let it : start ≡ next a = sym h.back ∙ ap (λ i. node_ahead next i start) same ∙ leads in
            subst (Member round) it (member_start next start round h))
      ]

  -- and under more of them
  pub further_on : (start : ℕ) (round : List ℕ) → IsRoundFrom next start round → (k a : ℕ) → Member round a
      → Member round (node_ahead next k a)
  further_on start round h zero a m = m
  further_on start round h (suc k) a m = stays_on start round h (node_ahead next k a) (further_on start round h k a m)

  -- a round on which a node of another stands has the start of the other
  pub has_start : (start : ℕ) (round : List ℕ) → IsRoundFrom next start round
      → (other : ℕ) (others : List ℕ) → IsRoundFrom next other others
      → (a : ℕ) → Member round a → Member others a → Member others start
  has_start start round h other others k a m on =
      let n = length round in
      let (i, l, e) = member-run next n start a (subst (λ r. Member r a) h.steps m) in
      let back : node_ahead next (n - i) a ≡ start =
      ap (node_ahead next (n - i)) (sym e) ∙ node_ahead-further (n - i) i n start (omega arith) ∙ h.back in
      subst (Member others) back (further_on other others k (n - i) a on)

  -- a round from a start is no longer than another from there
  no_longer_round : (start : ℕ) (round others : List ℕ) → IsRoundFrom next start round → IsRoundFrom next start others
      → length others ≤ length round
  no_longer_round start round others h k = elim (cases_lt (length round) (length others)) as (λ _. length others ≤ length round) [
    | inl shorter ↦ absurd
        (node_ahead-apart next (length others) 0 (length round) start (subst (Ascends ◌≢◌) k.steps k.once) h.some shorter
        (sym h.back))
    | inr l ↦ l
  ]

  -- a node has one round
  pub one_round_from : (start : ℕ) (round others : List ℕ) → IsRoundFrom next start round → IsRoundFrom next start others
      → round ≡ others
  one_round_from start round others h k =
      let p = no_longer_round start round others h k in
      let q = no_longer_round start others round k h in
      let same : length round ≡ length others = omega arith in
      h.steps ∙ ap (λ n. run next n start) same ∙ sym k.steps

module _ (nodes : ℕ) (inside : ℕ → Bool) (next : ℕ → ℕ) where
  -- no round that shares a node with another begins later
  no_later : (r s : List ℕ) → IsInsideRound nodes inside next r → IsInsideRound nodes inside next s → (a : ℕ) → Member r a → Member s a
      → first s ≤ first r
  no_later r s h k a m on =
      each-at (λ b. first s ≤ b) s (first r) k.least (has_start next (first r) r h.from (first s) s k.from a m on)

  -- rounds that share a node are one
  pub one_round : (r s : List ℕ) → IsInsideRound nodes inside next r → IsInsideRound nodes inside next s → (a : ℕ) → Member r a → Member s a
      → r ≡ s
  one_round r s h k a m on =
      let p = no_later r s h k a m on in
      let q = no_later s r k h a on m in
      let same : first s ≡ first r = omega arith in
      one_round_from next (first r) r s h.from (subst (λ b. IsRoundFrom next b s) same k.from)

  -- each listed round stands in any other list of rounds
  listed_too : (rounds others : List (List ℕ)) → AreRounds nodes inside next rounds → AreRounds nodes inside next others
      → IsWithin rounds others
  listed_too rounds others h k r m =
      let it = each-at (IsInsideRound nodes inside next) rounds r h.each m in
      let begins = member_start next (first r) r it.from in
      let (s, listed, on) = k.complete (first r) (each-at (IsInside nodes inside) r (first r) it.within begins) in
      let same = one_round r s it (each-at (IsInsideRound nodes inside next) others s k.each listed) (first r) begins on in
      subst (Member others) (sym same) listed

  -- two lists of rounds are one
  pub one_list : (rounds others : List (List ℕ)) → AreRounds nodes inside next rounds → AreRounds nodes inside next others
      → rounds ≡ others
  one_list rounds others h k =
      same_ascending (λ r s. first r < first s) (λ r s l m. omega arith) rounds others h.ordered k.ordered
      (listed_too rounds others h k) (listed_too others rounds k h)
