-- One round, traced from its start on.
use Rattle.std.proofs.Common.{◌≡◌, ◌≢◌, ◌⊎◌, inl, inr, ℕ, suc, ◌<◌, Bool, true, false, IsTrue, List, [], ◌∷◌, ◌++◌, length, set, refl, sym, ap, ap₂, subst, ◌∙◌, arith}
use Rattle.std.proofs.lemmas.Bool.{both_ways}
use Rattle.std.proofs.lemmas.List.{length-append}
use Rattle.lemmas.specs.Lists.{Member}
use Rattle.lemmas.proofs.Lists.{each-push, each-from, ascends-push}
use Rattle.rounds.specs.NodeMarks.{has_mark, AreClosedBack, Marks, Traces, IsTraced}
use Rattle.rounds.specs.Succession.{IsInside, IsOneToOne, node_ahead, run}
use Rattle.rounds.proofs.Runs.{run-push}
use Rattle.rounds.proofs.Marked.{no_mark, marks_begin, marked_now, as_before, stays_marked, new_or_marked, marks_more}

module _ (nodes : ℕ) (inside : ℕ → Bool) (next : ℕ → ℕ) (start : ℕ) (before : List Bool) where
  -- the start is listed and has got a mark
  pub traces_begin : IsInside nodes inside start → start < length before → has_mark before start ≡ false
      → AreClosedBack nodes inside next before → IsInside nodes inside (next start)
      → Traces nodes inside next start before (set before start true) (start ∷ []) (next start)
  traces_begin on within none closed on_next = record {
    marking = marks_more before before [] start begun within none;
    some = omega arith;
    steps = refl;
    here = refl;
    once = (tt, tt);
    within = (on, tt);
    stays = on_next;
    ahead = λ other. as_before before before [] start begun within none (next start) other
        ∙ no_mark before (next start) (λ m. both_ways (has_mark before start) none (closed start on m));
    behind = (start, on, marked_now before before [] start begun within none, refl);
    closed = λ a it m. elim (new_or_marked before before [] start begun within none (next a) m)
        as (λ _. IsTrue (has_mark (set before start true) a) ⊎ (next a ≡ start)) [
          | inl e ↦ inr e
          | inr was ↦ inl (stays_marked before before [] start begun within none a (closed a it was))
        ];
  }
    where
      begun : Marks before before []
      begun = marks_begin before

  module _ (one_to_one : IsOneToOne nodes inside next) (marks : List Bool) (round : List ℕ) (node : ℕ)
      (h : Traces nodes inside next start before marks round node) where
    -- the node before the one that comes next has a mark
    pub marked_behind : (a : ℕ) → IsInside nodes inside a → next a ≡ node → IsTrue (has_mark marks a)
    marked_behind a it e =
        let (b, on, m, leads) = h.behind in
        subst (λ c. IsTrue (has_mark marks c)) (one_to_one b a on it (leads ∙ sym e)) m

    -- one node more
    module _ (other : node ≢ start) (within : node < length marks) (on_next : IsInside nodes inside (next node)) where
      none : has_mark marks node ≡ false
      none = h.ahead other

      longer : length (round ++ node ∷ []) ≡ suc (length round)
      longer = let e = length-append round (node ∷ []) in omega arith

      stays : (a : ℕ) → IsTrue (has_mark marks a) → IsTrue (has_mark (set marks node true) a)
      stays a m = stays_marked before marks round node h.marking within none a m

      steps : round ++ node ∷ [] ≡ run next (suc (length round)) start
      steps = ap₂ (λ xs a. xs ++ a ∷ []) h.steps h.here ∙ sym (run-push next (length round) start)

      not_on : (a : ℕ) → Member round a → a ≢ node
      not_on a m e =
          both_ways (has_mark marks node) none (subst (λ b. IsTrue (has_mark marks b)) e ((h.marking.marked a).1 (inr m)))

      not_itself : next node ≢ node
      not_itself e = both_ways (has_mark marks node) none (marked_behind node h.stays e)

      ahead : next node ≢ start → has_mark (set marks node true) (next node) ≡ false
      ahead other_too = as_before before marks round node h.marking within none (next node) not_itself
          ∙ no_mark marks (next node) (λ m. elim (h.closed node h.stays m) as (λ _. ⊥) [
            | inl marked ↦ both_ways (has_mark marks node) none marked
            | inr e ↦ other_too e
          ])

      closed : (a : ℕ) → IsInside nodes inside a → IsTrue (has_mark (set marks node true) (next a))
          → IsTrue (has_mark (set marks node true) a) ⊎ (next a ≡ start)
      closed a it m = elim (new_or_marked before marks round node h.marking within none (next a) m)
          as (λ _. IsTrue (has_mark (set marks node true) a) ⊎ (next a ≡ start)) [
            | inl e ↦ inl (stays a (marked_behind a it e))
            | inr was ↦ elim (h.closed a it was) as (λ _. IsTrue (has_mark (set marks node true) a) ⊎ (next a ≡ start)) [
              | inl marked ↦ inl (stays a marked)
              | inr e ↦ inr e
            ]
          ]

      pub traces_more : Traces nodes inside next start before (set marks node true) (round ++ node ∷ []) (next node)
      traces_more = record {
        marking = marks_more before marks round node h.marking within none;
        some = let e = longer in omega arith;
        steps = steps ∙ ap (λ n. run next n start) (sym longer);
        here = ap next h.here ∙ ap (λ n. node_ahead next n start) (sym longer);
        once = ascends-push ◌≢◌ round node h.once (each-from (λ a. a ≢ node) round not_on);
        within = each-push (IsInside nodes inside) round node h.within h.stays;
        stays = on_next;
        ahead = ahead;
        behind = (node, h.stays, marked_now before marks round node h.marking within none, refl);
        closed = closed;
      }

    -- back at the start
    pub traces_end : node ≡ start → IsTraced nodes inside next start before marks round
    traces_end e = record {
      marking = h.marking;
      turns = record { some = h.some; steps = h.steps; back = sym h.here ∙ e; once = h.once };
      within = h.within;
      closed = λ a it m. elim (h.closed a it m) as (λ _. IsTrue (has_mark marks a)) [
        | inl marked ↦ marked
        | inr last ↦ marked_behind a it (last ∙ sym e)
      ];
    }
