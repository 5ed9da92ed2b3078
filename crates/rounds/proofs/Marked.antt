-- Nodes that get marks one after another.
use Rattle.std.proofs.Common.{◌≡◌, ◌≢◌, ◌⊎◌, inl, inr, ℕ, ◌<◌, Bool, true, false, IsTrue, List, [], ◌∷◌, ◌++◌, length, set, refl, sym, ap, subst, ◌∙◌}
use Rattle.std.proofs.lemmas.Bool.{both_ways, cases_eq}
use Rattle.std.proofs.lemmas.List.{get_or-set_same, get_or-set_other, length-set}
use Rattle.lemmas.specs.Lists.{Member}
use Rattle.lemmas.proofs.Lists.{member-append_left, member-push_last, member-push, each-push}
use Rattle.rounds.specs.NodeMarks.{has_mark, Marks}

-- a node that isn't marked has no mark
pub no_mark : (marks : List Bool) (a : ℕ) → (IsTrue (has_mark marks a) → ⊥) → has_mark marks a ≡ false
no_mark marks a not = at (has_mark marks a) not
  where
    at : (u : Bool) → (IsTrue u → ⊥) → u ≡ false
    at true not = absurd (not refl)
    at false not = refl

-- no node has got a mark
pub marks_begin : (before : List Bool) → Marks before before []
marks_begin before = record {
  size = refl;
  marked = λ a. (λ m. inl m, λ m. elim m as (λ _. IsTrue (has_mark before a)) [ inl was ↦ was | inr none ↦ absurd none ]);
  fresh = tt;
}

module _ (before marks : List Bool) (these : List ℕ) (node : ℕ) (h : Marks before marks these) (within : node < length marks)
    (none : has_mark marks node ≡ false) where
  -- the node has a mark then
  pub marked_now : IsTrue (has_mark (set marks node true) node)
  marked_now = get_or-set_same marks node true false within

  -- and the others have as before
  pub as_before : (a : ℕ) → a ≢ node → has_mark (set marks node true) a ≡ has_mark marks a
  as_before a other = get_or-set_other marks node a true false other

  -- a mark stays
  pub stays_marked : (a : ℕ) → IsTrue (has_mark marks a) → IsTrue (has_mark (set marks node true) a)
  stays_marked a m = as_before a (λ e. both_ways (has_mark marks a) (ap (has_mark marks) e ∙ none) m) ∙ m

  -- what has a mark then is the node, or had one
  pub new_or_marked : (a : ℕ) → IsTrue (has_mark (set marks node true) a) → (a ≡ node) ⊎ IsTrue (has_mark marks a)
  new_or_marked a m = elim (cases_eq a node) as (λ _. (a ≡ node) ⊎ IsTrue (has_mark marks a)) [
    | inl e ↦ inl e
    | inr other ↦ inr (sym (as_before a other) ∙ m)
  ]

  -- one node more
  pub marks_more : Marks before (set marks node true) (these ++ node ∷ [])
  marks_more = record {
    size = length-set marks node true ∙ h.size;
    marked = λ a. (λ m. there a (new_or_marked a m), λ m. back a m);
    fresh = each-push (λ a. has_mark before a ≡ false) these node h.fresh
        (no_mark before node (λ m. both_ways (has_mark marks node) none ((h.marked node).1 (inl m))));
  }
    where
      Now : ℕ → Type 0
      Now a = IsTrue (has_mark before a) ⊎ Member (these ++ node ∷ []) a

      there : (a : ℕ) → (a ≡ node) ⊎ IsTrue (has_mark marks a) → Now a
      there a (inl e) = inr (subst (Member (these ++ node ∷ [])) (sym e) (member-push_last these node))
      there a (inr m) = elim ((h.marked a).0 m) as (λ _. Now a) [
        | inl was ↦ inl was
        | inr listed ↦ inr (member-append_left these (node ∷ []) a listed)
      ]

      back : (a : ℕ) → Now a → IsTrue (has_mark (set marks node true) a)
      back a (inl was) = stays_marked a ((h.marked a).1 (inl was))
      back a (inr listed) = elim (member-push these node a listed) as (λ _. IsTrue (has_mark (set marks node true) a)) [
        | inl old ↦ stays_marked a ((h.marked a).1 (inr old))
        | inr e ↦ subst (λ b. IsTrue (has_mark (set marks node true) b)) e marked_now
      ]
