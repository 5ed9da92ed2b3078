-- Marks that are given one after another.
use Rattle.std.proofs.Common.{◌≡◌, ◌⊎◌, inl, inr, ℕ, ◌<◌, List, [], ◌∷◌, ◌++◌, length, set, Option, Some, sym, ap, subst, ◌∙◌, arith}
use Rattle.std.proofs.lemmas.Bool.{cases_lt, cases_eq}
use Rattle.std.proofs.lemmas.List.{get_or-set_same, get_or-set_other, get_or_past, length-set}
use Rattle.std.proofs.lemmas.Option.{same_Some}
use Rattle.lemmas.specs.Lists.{Member}
use Rattle.lemmas.proofs.Lists.{member-append_left, member-push_last, member-push}
use Rattle.flood.specs.NodeMarks.{no_mark, mark_of, IsMarked, Spreads}

-- a node that has a mark stands in the list
pub marked_within : (marks : List ℕ) (a : ℕ) → IsMarked marks a → a < length marks
marked_within marks a m = elim (cases_lt a (length marks)) as (λ _. a < length marks) [
  | inl l ↦ l
  | inr past ↦ (let none : mark_of marks a ≡ no_mark = get_or_past marks a no_mark past in absurd (omega arith))
]

-- a node whose mark stays still has a mark
pub still_marked : (marks more : List ℕ) (a : ℕ) → mark_of more a ≡ mark_of marks a → IsMarked marks a → IsMarked more a
still_marked marks more a kept m = subst (λ n. n < no_mark) (sym kept) m

-- a node that had no mark gets one
pub spreads_one : (neighbour : Option ℕ) (node number : ℕ) (marks stack : List ℕ)
    → neighbour ≡ Some node → node < length marks
    → mark_of marks node ≡ no_mark → number < no_mark → Spreads (λ b. neighbour ≡ Some b) number marks stack (set marks node number) (stack ++ node ∷ [])
spreads_one neighbour node number marks stack is within none small = record {
  size = length-set marks node number;
  kept = λ a m. get_or-set_other marks node a number no_mark (λ e. not_it a e m);
  fresh = λ a m. by a m (cases_eq a node);
  marked = λ a e. marked_at a (same_Some node a (sym is ∙ e));
  stacked = λ a k. elim (member-push stack node a k) as (λ _. Member stack a ⊎ (neighbour ≡ Some a)) [ inl l ↦ inl l | inr e ↦ inr (is ∙ ap Some e) ];
  waiting = λ a k. member-append_left stack (node ∷ []) a k;
}
  where
    not_it : (a : ℕ) → a ≡ node → IsMarked marks a → ⊥
    not_it a e m = let none_here : mark_of marks a ≡ no_mark = ap (mark_of marks) e ∙ none in absurd (omega arith)

    own : mark_of (set marks node number) node ≡ number
    own = get_or-set_same marks node number no_mark within

    marked_at : (a : ℕ) → node ≡ a → IsMarked (set marks node number) a
    marked_at a e = subst (IsMarked (set marks node number)) e (subst (λ n. n < no_mark) (sym own) small)

    by : (a : ℕ) → IsMarked (set marks node number) a → (a ≡ node) ⊎ (a ≡ node → ⊥)
        → IsMarked marks a ⊎ ((mark_of (set marks node number) a ≡ number) × (neighbour ≡ Some a) × Member (stack ++ node ∷ []) a)
    by a m (inl e) =
        let on = subst (Member (stack ++ node ∷ [])) (sym e) (member-push_last stack node) in
        inr (ap (mark_of (set marks node number)) e ∙ own, is ∙ ap Some (sym e), on)
    by a m (inr other) = inl (subst (λ n. n < no_mark) (get_or-set_other marks node a number no_mark other) m)
