-- The places of a frontier.
use Rattle.std.proofs.Common.{◌≡◌, inl, inr, ℕ, suc, ◌+◌, ◌-◌, ◌<◌, ◌≤◌, ◌==◌, Bool, cond, List, [], ◌∷◌, ◌++◌, length, get_or, set, drop, refl, sym, ◌∙◌, ap, subst, arith}
use Rattle.std.proofs.lemmas.Bool.{cases_eq, cases_lt, eq-eqb, ne_eqb, cond_both, eqb-true, eqb-false}
use Rattle.std.proofs.lemmas.List.{get_or-set_same, get_or-set_other, drop_more, drop-append-le, length-drop, length-append, get_or_append_left, get_or_push, get_or_past}
use Rattle.std.specs.Prelude.{if◌then◌else◌}
use Rattle.search_core.specs.Frontier.{count_of, count_without, passed, IsFrontier}
use Rattle.lemmas.specs.Counts.{times_listed}

-- ---- how often a number stands in a list

pub times_in-append : (k : ℕ) (xs ys : List ℕ) → times_listed k (xs ++ ys) ≡ times_listed k xs + times_listed k ys
times_in-append k [] ys = omega arith
times_in-append k (x ∷ xs) ys = omega (arith, times_in-append k xs ys)

-- at most as often as the list is long
times_in-most : (k : ℕ) (xs : List ℕ) → times_listed k xs ≤ length xs
times_in-most k [] = omega arith
times_in-most k (x ∷ xs) = cond_both (x == k) 1 0 (λ n. n + times_listed k xs ≤ suc (length xs)) (λ e. omega (arith, times_in-most k xs)) (λ e. omega (arith, times_in-most k xs))

-- ---- counts

-- a count that is set
pub count-set : (counts : List ℕ) (at n k : ℕ) → at < length counts → count_of (set counts at n) k ≡ (if k == at then n else count_of counts k)
count-set counts at n k l = cond_both (k == at) n (count_of counts k) (λ m. count_of (set counts at n) k ≡ m)
    (λ e. ap (count_of (set counts at n)) (eqb-true k at e) ∙ get_or-set_same counts at n 0 l)
    (λ e. get_or-set_other counts at k n 0 (eqb-false k at e))

-- a place that is counted is within the counts
pub count-within : (counts : List ℕ) (k : ℕ) → 0 < count_of counts k → k < length counts
count-within counts k h = elim (cases_lt k (length counts)) as (λ _. k < length counts) [ inl l ↦ l | inr m ↦ absurd (omega (arith, get_or_past counts k 0 m)) ]

-- ---- the frontier

module _ (put counts : List ℕ) (first : ℕ) (q : IsFrontier put counts first) where
  -- a place doesn't stand in it more often than it was put
  pub counted_at_most : (k : ℕ) → count_of counts k ≤ length put
  counted_at_most k = omega (arith, q.behind k, times_in-most k (drop first put), length-drop first put)

  -- where none is first, none stands in it
  pub none_counted : length put ≤ first → (k : ℕ) → count_of counts k ≡ 0
  none_counted h k = omega (arith, not_counted)
    where
      not_counted : count_of counts k ≤ 0
      not_counted = omega (arith, q.behind k, times_in-most k (drop first put), length-drop first put)

  -- one more is put
  pub frontier-put : (place n : ℕ) → place < length counts → n ≡ count_of counts place + 1 → IsFrontier (put ++ place ∷ []) (set counts place n) first
  frontier-put place n l e = record {
    within = omega (arith, q.within, length-append put (place ∷ []));
    behind = λ k.
        let tail : times_listed k (drop first (put ++ place ∷ [])) ≡ times_listed k (drop first put) + times_listed k (place ∷ [])
        = ap (times_listed k) (drop-append-le first put (place ∷ []) q.within) ∙ times_in-append k (drop first put) (place ∷ []) in
        rw (count-set counts place n k l) (cond_both (k == place) n (count_of counts k) (λ m. m ≤ times_listed k (drop first (put ++ place ∷ [])))
        (λ e. one k (eqb-true k place e) tail)
        (λ e. omega (arith, tail, q.behind k)));
    there = λ h. elim (cases_lt first (length put)) as (λ _. 0 < count_of (set counts place n) (get_or (put ++ place ∷ []) first 0)) [
      | inl m ↦ rw (get_or_append_left put (place ∷ []) 0 first m) (more (get_or put first 0) (q.there m))
      | inr m ↦ (let is : length put ≡ first = (let w = q.within in omega arith) in rw (get_or_push put place 0 first is) (rw (get_or-set_same counts place n 0 l) (omega arith)))
    ];
  }
    where
      one : (k : ℕ) → k ≡ place → times_listed k (drop first (put ++ place ∷ [])) ≡ times_listed k (drop first put) + times_listed k (place ∷ []) → n ≤ times_listed k (drop first (put ++ place ∷ []))
      one k same tail =
          let here : times_listed k (place ∷ []) ≡ 1 = ap (λ (b : Bool). cond b 1 0 + 0) (eq-eqb place k (sym same)) in
          let was : count_of counts place ≤ times_listed k (drop first put) = subst (λ j. count_of counts j ≤ times_listed k (drop first put)) same (q.behind k) in
          omega (arith, tail)

      more : (k : ℕ) → 0 < count_of counts k → 0 < count_of (set counts place n) k
      more k h = rw (count-set counts place n k l) (cond_both (k == place) n (count_of counts k) (λ m. 0 < m) (λ same. omega arith) (λ other. h))

-- passing over places that aren't counted leaves what is counted behind them
passed_behind : (count : ℕ → ℕ) (k : ℕ) (ks : List ℕ) → count k ≤ times_listed k ks → count k ≤ times_listed k (passed count ks)
passed_behind count k [] h = h
passed_behind count k (j ∷ ks) h = elim (cases_eq (count j) 0) as (λ _. count k ≤ times_listed k (if count j == 0 then passed count ks else j ∷ ks)) [
  | inl none ↦ rw (eq-eqb (count j) 0 none) (passed_behind count k ks (elim (cases_eq j k) as (λ _. count k ≤ times_listed k ks) [
    | inl same ↦ (let here : count k ≡ 0 = ap count (sym same) ∙ none in omega arith)
    | inr other ↦ (let tail : times_listed k (j ∷ ks) ≡ 0 + times_listed k ks = ap (λ (b : Bool). cond b 1 0 + times_listed k ks) (ne_eqb j k other) in omega (arith, tail))
  ]))
  | inr some ↦ rw (ne_eqb (count j) 0 some) h
]

-- a place that isn't counted is passed over,
pub passed_none : (count : ℕ → ℕ) (ks : List ℕ) (at : ℕ) → at < length ks → count (get_or ks at 0) ≡ 0 → passed count (drop at ks) ≡ passed count (drop (at + 1) ks)
passed_none count ks at l none = ap (passed count) (drop_more ks at 0 l)
    ∙ ap (λ (b : Bool). if b then passed count (drop (at + 1) ks) else get_or ks at 0 ∷ drop (at + 1) ks) (eq-eqb (count (get_or ks at 0)) 0 none)

-- and one that is counted isn't
pub passed_some : (count : ℕ → ℕ) (ks : List ℕ) (at : ℕ) → at < length ks → 0 < count (get_or ks at 0) → passed count (drop at ks) ≡ drop at ks
passed_some count ks at l some = ap (passed count) (drop_more ks at 0 l)
    ∙ ap (λ (b : Bool). if b then passed count (drop (at + 1) ks) else get_or ks at 0 ∷ drop (at + 1) ks) (ne_eqb (count (get_or ks at 0)) 0 (λ e. omega arith))
    ∙ sym (drop_more ks at 0 l)

-- one stands in it once less, and the first is looked for
pub frontier-take : (put counts : List ℕ) (first next place n : ℕ) → IsFrontier put counts first → place < length counts → n ≡ count_of counts place - 1
    → next ≤ length put → passed (count_without counts place) (drop first put) ≡ drop next put
    → (next < length put → 0 < count_without counts place (get_or put next 0)) → IsFrontier put (set counts place n) next
frontier-take put counts first next place n q l less high is there = record {
  within = high;
  there = λ h. rw (after (get_or put next 0)) (there h);
  behind = λ k. rw (after k) (subst (λ (ks : List ℕ). count_without counts place k ≤ times_listed k ks) is (passed_behind (count_without counts place) k (drop first put) (fewer k)));
}
  where
    after : (k : ℕ) → count_of (set counts place n) k ≡ count_without counts place k
    after k = count-set counts place n k l ∙ cond_both (k == place) n (count_of counts k) (λ m. m ≡ count_without counts place k)
        (λ e. rw e (less ∙ ap (λ (j : ℕ). count_of counts j - 1) (sym (eqb-true k place e)))) (λ e. rw e refl)

    fewer : (k : ℕ) → count_without counts place k ≤ times_listed k (drop first put)
    fewer k = cond_both (k == place) (count_of counts k - 1) (count_of counts k) (λ m. m ≤ times_listed k (drop first put)) (λ e. (let h = q.behind k in omega arith)) (λ e. q.behind k)

-- a count that rises where a place is put
pub counted_once_more : (k place n : ℕ) → (if k == place then n + 1 else n) ≡ n + times_listed k (place ∷ [])
counted_once_more k place n = elim (cases_eq k place) as (λ _. (if k == place then n + 1 else n) ≡ n + times_listed k (place ∷ [])) [
  | inl e ↦ rw (eq-eqb k place e, eq-eqb place k (sym e)) (omega arith)
  | inr ne ↦ rw (ne_eqb k place ne, ne_eqb place k (λ e. ne (sym e))) (omega arith)
]
