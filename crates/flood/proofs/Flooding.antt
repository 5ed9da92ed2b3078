-- What holds of a flood from its beginning to its end.
use Rattle.std.proofs.Common.{◌≡◌, ◌⊎◌, inl, inr, ℕ, ◌<◌, List, [], ◌∷◌, ◌++◌, length, set, Some, refl, sym, subst, ◌∙◌}
use Rattle.std.proofs.lemmas.List.{get_or-set_same}
use Rattle.std.proofs.lemmas.Option.{same_Some}
use Rattle.lemmas.specs.Chains.{Reaches}
use Rattle.lemmas.specs.Lists.{Member}
use Rattle.lemmas.proofs.Chains.{reaches-itself, reaches-then_step, reaches-keeps}
use Rattle.lemmas.proofs.Lists.{member-append_left, member-push_last, member-push}
use Rattle.flood.specs.NodeMarks.{no_mark, mark_of, IsMarked, AreClosed, Spreads, Floods}
use Rattle.flood.proofs.Spreading.{still_marked, spreads_one}

module _ (step : ℕ → ℕ → Type 0) (start number : ℕ) (small : number < no_mark) (before : List ℕ) where
  -- from a node that has the number, and is alone on the stack
  pub floods_begin : start < length before → mark_of before start ≡ no_mark → AreClosed step before
      → Floods step start number before (set before start number) (start ∷ [])
  floods_begin within none closed = record {
    size = h.size;
    kept = h.kept;
    fresh = λ a m. elim (h.fresh a m) as (λ _. IsMarked before a ⊎ ((mark_of marks a ≡ number) × Reaches step start a)) [
      | inl old ↦ inl old
      | inr (e, it, on) ↦ inr (e, reached a it)
    ];
    seeded = get_or-set_same before start number no_mark within;
    pending = λ a m. elim (h.fresh a m) as (λ _. Member (start ∷ []) a ⊎ ((b : ℕ) → step a b → IsMarked marks b)) [
      | inl old ↦ inr (λ b s. let there = closed a b old s in still_marked before marks b (h.kept b there) there)
      | inr (e, it, on) ↦ inl on
    ];
    stacked = λ a k. elim (h.stacked a k) as (λ _. IsMarked marks a × Reaches step start a) [
      | inl none ↦ absurd none
      | inr it ↦ (h.marked a it, reached a it)
    ];
  }
    where
      marks : List ℕ
      marks = set before start number

      h : Spreads (λ b. Some start ≡ Some b) number before [] marks (start ∷ [])
      h = spreads_one (Some start) start number before [] refl within none small

      reached : (a : ℕ) → Some start ≡ Some a → Reaches step start a
      reached a it = subst (Reaches step start) (same_Some start a it) (reaches-itself step start)

  -- the node that lay on top is taken, and its neighbours get marks
  pub floods_more : (node : ℕ) (marks stack more_marks more_stack : List ℕ) → Floods step start number before marks (stack ++ node ∷ [])
      → Spreads (step node) number marks stack more_marks more_stack → Floods step start number before more_marks more_stack
  floods_more node marks stack more_marks more_stack h k = record {
    size = k.size ∙ h.size;
    kept = λ a m. k.kept a (still_marked before marks a (h.kept a m) m) ∙ h.kept a m;
    fresh = λ a m. fresh a (k.fresh a m);
    seeded = k.kept start (subst (λ n. n < no_mark) (sym h.seeded) small) ∙ h.seeded;
    pending = λ a m. pending a (k.fresh a m);
    stacked = λ a on. stacked a (k.stacked a on);
  }
    where
      stays : (a : ℕ) → IsMarked marks a → IsMarked more_marks a
      stays a m = still_marked marks more_marks a (k.kept a m) m

      reached : (a : ℕ) → step node a → Reaches step start a
      reached a s = reaches-then_step step start node a (h.stacked node (member-push_last stack node)).1 s

      Fresh : ℕ → Type 0
      Fresh a = IsMarked before a ⊎ ((mark_of more_marks a ≡ number) × Reaches step start a)

      fresh : (a : ℕ) → IsMarked marks a ⊎ ((mark_of more_marks a ≡ number) × step node a × Member more_stack a) → Fresh a
      fresh a (inl m) = elim (h.fresh a m) as (λ _. Fresh a) [ inl old ↦ inl old | inr (e, r) ↦ inr (k.kept a m ∙ e, r) ]
      fresh a (inr (e, s, on)) = inr (e, reached a s)

      Pending : ℕ → Type 0
      Pending a = Member more_stack a ⊎ ((b : ℕ) → step a b → IsMarked more_marks b)

      taken : (a : ℕ) → Member stack a ⊎ (node ≡ a) → Pending a
      taken a (inl on) = inl (k.waiting a on)
      taken a (inr it) = inr (λ b s. k.marked b (subst (λ n. step n b) (sym it) s))

      pending : (a : ℕ) → IsMarked marks a ⊎ ((mark_of more_marks a ≡ number) × step node a × Member more_stack a) → Pending a
      pending a (inl m) = elim (h.pending a m) as (λ _. Pending a) [
        | inl on ↦ taken a (member-push stack node a on)
        | inr closed ↦ inr (λ b s. stays b (closed b s))
      ]
      pending a (inr (e, s, on)) = inl on

      stacked : (a : ℕ) → Member stack a ⊎ step node a → IsMarked more_marks a × Reaches step start a
      stacked a (inl on) = let was = h.stacked a (member-append_left stack (node ∷ []) a on) in (stays a was.0, was.1)
      stacked a (inr s) = (k.marked a s, reached a s)

  module _ (marks : List ℕ) (h : Floods step start number before marks []) where
    -- at its end steps lead from marked nodes to marked ones
    pub floods_closed : AreClosed step marks
    floods_closed a b m s = elim (h.pending a m) as (λ _. IsMarked marks b) [ inl none ↦ absurd none | inr closed ↦ closed b s ]

    -- and what a chain leads to has a mark
    pub floods_there : (b : ℕ) → Reaches step start b → IsMarked marks b
    floods_there b chain = reaches-keeps step (IsMarked marks) floods_closed start b (subst (λ n. n < no_mark) (sym h.seeded) small) chain
