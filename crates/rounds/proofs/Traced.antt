-- All rounds, traced one after another.
use Rattle.std.proofs.Common.{◌≡◌, ◌⊎◌, inl, inr, ℕ, zero, suc, ◌+◌, ◌<◌, ◌≤◌, Bool, false, IsTrue, List, [], ◌∷◌, ◌++◌, length, replicate, refl, sym, ap, subst, ◌∙◌, arith}
use Rattle.std.proofs.lemmas.Bool.{both_ways, cases_lt}
use Rattle.std.proofs.lemmas.List.{get_or-replicate, get_or_past, length-replicate}
use Rattle.lemmas.specs.Lists.{Member}
use Rattle.lemmas.proofs.Lists.{member-append_left, member-push_last, member-push, each-at, each-from, each-weaker, each-push, ascends-push}
use Rattle.rounds.specs.NodeMarks.{has_mark, IsTraced, AreTraced}
use Rattle.rounds.specs.Succession.{IsInside, run, first, IsRoundFrom, IsInsideRound, AreRounds}

-- a round begins with its start
pub first_start : (next : ℕ → ℕ) (start : ℕ) (round : List ℕ) → IsRoundFrom next start round → first round ≡ start
first_start next start round h = at (length round) h.some h.steps
  where
    at : (n : ℕ) → 0 < n → round ≡ run next n start → first round ≡ start
    at zero l e = absurd (omega arith)
    at (suc n) l e = ap first e

-- which is a member
pub member_start : (next : ℕ → ℕ) (start : ℕ) (round : List ℕ) → IsRoundFrom next start round → Member round start
member_start next start round h = at (length round) h.some h.steps
  where
    at : (n : ℕ) → 0 < n → round ≡ run next n start → Member round start
    at zero l e = absurd (omega arith)
    at (suc n) l e = subst (λ r. Member r start) (sym e) (inl refl)

-- before the first mark none has one
none_marked : (size a : ℕ) → has_mark (replicate size false) a ≡ false
none_marked size a = elim (cases_lt a size) as (λ _. has_mark (replicate size false) a ≡ false) [
  | inl l ↦ get_or-replicate size a false false l
  | inr l ↦ get_or_past (replicate size false) a false (let e = length-replicate size false in omega arith)
]

module _ (nodes : ℕ) (inside : ℕ → Bool) (next : ℕ → ℕ) where
  -- before the first node
  pub traced_begin : AreTraced nodes inside next (replicate nodes false) [] 0
  traced_begin = record {
    size = length-replicate nodes false;
    each = tt;
    ordered = tt;
    earlier = tt;
    apart = tt;
    complete = λ a l. absurd (omega arith);
    marked = λ a. (λ m. absurd (both_ways (has_mark (replicate nodes false) a) (none_marked nodes a) m), λ p. absurd p.1);
    closed = λ a it m. absurd (both_ways (has_mark (replicate nodes false) (next a)) (none_marked nodes (next a)) m);
  }

  module _ (marks : List Bool) (rounds : List (List ℕ)) (node : ℕ) (h : AreTraced nodes inside next marks rounds node) where
    -- a node that isn't inside, or has a mark
    pub traced_skip : (IsTrue (inside node) → IsTrue (has_mark marks node)) → AreTraced nodes inside next marks rounds (node + 1)
    traced_skip had = record {
      size = h.size;
      each = h.each;
      ordered = h.ordered;
      earlier = each-weaker (λ r. first r < node) (λ r. first r < node + 1) rounds (λ r l. omega arith) h.earlier;
      apart = h.apart;
      complete = λ a l on. elim (cases_lt a node) as (λ _. IsTrue (has_mark marks a)) [
        | inl before ↦ h.complete a before on
        | inr after ↦ (let same : node ≡ a = omega arith in
            subst (λ b. IsTrue (inside b) → IsTrue (has_mark marks b)) same had on)
      ];
      marked = h.marked;
      closed = h.closed;
    }

    -- the round of a node that has no mark
    module _ (more : List Bool) (round : List ℕ) (on : IsTrue (inside node)) (none : has_mark marks node ≡ false)
        (traced : IsTraced nodes inside next node marks more round) where
      begins : first round ≡ node
      begins = first_start next node round traced.turns

      unmarked_before : (a : ℕ) → Member round a → has_mark marks a ≡ false
      unmarked_before a m = each-at (λ b. has_mark marks b ≡ false) round a traced.marking.fresh m

      later : (a : ℕ) → Member round a → node ≤ a
      later a m = elim (cases_lt a node) as (λ _. node ≤ a) [
        | inl before ↦ (let it = each-at (IsInside nodes inside) round a traced.within m in
            absurd (both_ways (has_mark marks a) (unmarked_before a m) (h.complete a before it.1)))
        | inr after ↦ after
      ]

      is_round : IsInsideRound nodes inside next round
      is_round = record {
        from = subst (λ a. IsRoundFrom next a round) (sym begins) traced.turns;
        within = traced.within;
        least = each-from (λ a. first round ≤ a) round (λ a m. let l = later a m in let e = begins in omega arith);
      }

      not_shared : (r : List ℕ) → Member rounds r → (a : ℕ) → Member r a → Member round a → ⊥
      not_shared r listed a m now = both_ways (has_mark marks a) (unmarked_before a now) ((h.marked a).1 (r, listed, m))

      complete : (a : ℕ) → a < node + 1 → IsTrue (inside a) → IsTrue (has_mark more a)
      complete a l it = elim (cases_lt a node) as (λ _. IsTrue (has_mark more a)) [
        | inl before ↦ (traced.marking.marked a).1 (inl (h.complete a before it))
        | inr after ↦ (let same : node ≡ a = omega arith in
            (traced.marking.marked a).1 (inr (subst (Member round) same (member_start next node round traced.turns))))
      ]

      abbrev OnSome : ℕ → Type 0
      OnSome a = (r : List ℕ) × Member (rounds ++ round ∷ []) r × Member r a

      there : (a : ℕ) → IsTrue (has_mark marks a) ⊎ Member round a → OnSome a
      there a (inl was) = let (r, listed, m) = (h.marked a).0 was in (r, member-append_left rounds (round ∷ []) r listed, m)
      there a (inr now) = (round, member-push_last rounds round, now)

      back : (a : ℕ) → OnSome a → IsTrue (has_mark marks a) ⊎ Member round a
      back a (r, listed, m) = elim (member-push rounds round r listed) as (λ _. IsTrue (has_mark marks a) ⊎ Member round a) [
        | inl old ↦ inl ((h.marked a).1 (r, old, m))
        | inr e ↦ inr (subst (λ s. Member s a) (sym e) m)
      ]

      pub traced_more : AreTraced nodes inside next more (rounds ++ round ∷ []) (node + 1)
      traced_more = record {
        size = traced.marking.size ∙ h.size;
        each = each-push (IsInsideRound nodes inside next) rounds round h.each is_round;
        ordered = ascends-push (λ r s. first r < first s) rounds round h.ordered
            (each-weaker (λ r. first r < node) (λ r. first r < first round) rounds
            (λ r l. let e = begins in omega arith) h.earlier);
        earlier = each-push (λ r. first r < node + 1) rounds round
            (each-weaker (λ r. first r < node) (λ r. first r < node + 1) rounds (λ r l. omega arith) h.earlier)
            (let e = begins in omega arith);
        apart = ascends-push (λ r s. (a : ℕ) → Member r a → Member s a → ⊥) rounds round h.apart
            (each-from (λ r. (a : ℕ) → Member r a → Member round a → ⊥) rounds not_shared);
        complete = complete;
        marked = λ a. (λ m. there a ((traced.marking.marked a).0 m), λ p. (traced.marking.marked a).1 (back a p));
        closed = traced.closed;
      }

  -- past the last node
  pub traced_all : (marks : List Bool) (rounds : List (List ℕ)) → AreTraced nodes inside next marks rounds nodes
      → AreRounds nodes inside next rounds
  traced_all marks rounds h = record {
    each = h.each;
    ordered = h.ordered;
    complete = λ a on. (h.marked a).0 (h.complete a on.0 on.1);
    apart = h.apart;
  }

-- nodes that aren't inside are passed over
pub traced_onward : (nodes : ℕ) (inside : ℕ → Bool) (next : ℕ → ℕ) (marks : List Bool) (rounds : List (List ℕ)) (node later : ℕ)
    → AreTraced nodes inside next marks rounds node → node ≤ later → ((a : ℕ) → node ≤ a → a < later → inside a ≡ false)
    → AreTraced nodes inside next marks rounds later
traced_onward nodes inside next marks rounds node later h onward none = record {
  size = h.size;
  each = h.each;
  ordered = h.ordered;
  earlier = each-weaker (λ r. first r < node) (λ r. first r < later) rounds (λ r l. omega arith) h.earlier;
  apart = h.apart;
  complete = λ a l on. elim (cases_lt a node) as (λ _. IsTrue (has_mark marks a)) [
    | inl before ↦ h.complete a before on
    | inr after ↦ absurd (both_ways (inside a) (none a after l) on)
  ];
  marked = h.marked;
  closed = h.closed;
}
