-- Columns whose depths are stretched draw the same style.
use Rattle.std.proofs.Common.{◌≡◌, ◌≢◌, Bool, true, false, ℤ, ◌≤ℤ◌, ◌<ℤ◌, refl, sym, subst, ◌∙◌, arith}
use Rattle.std.proofs.lemmas.Bool.{both_ways, false_from_ne_true}
use Rattle.std.proofs.lemmas.Int.{ints, by_lt_z}
use Rattle.solid_model.specs.declared.segment.Style.{Style}
use Rattle.solid_model.specs.declared.segment.Style.TheVariants.{Blank, Dashed, Solid}
use Rattle.solid_model.specs.Columns.{IsFirstFull, HaveSameFirstFull, ColumnsDraw}
use Rattle.lemmas.proofs.Tests.{same_tests}

-- farther depths come from farther ones
abbrev pub KeepsOrder : (ℤ → ℤ → Type 0) → Type 0
KeepsOrder comes = (k n d e : ℤ) → comes k d → comes n e → d <ℤ e → k <ℤ n

-- The second column is the first one, stretched: the depths that come from a depth are as full as it is, each full depth
-- comes from some depth, and of those that come from a full depth one is first.
pub record IsStretched (comes : ℤ → ℤ → Type 0) (column stretched : ℤ → Bool) : Type 0 where
  pub same : (k d : ℤ) → comes k d → stretched k ≡ column d
  pub from : (k : ℤ) → stretched k ≡ true → (d : ℤ) × comes k d
  pub first : (d : ℤ) → column d ≡ true → (k : ℤ) × comes k d × ((n : ℤ) → comes n d → k ≤ℤ n)

module _ (comes : ℤ → ℤ → Type 0) (keeps : KeepsOrder comes) where
  -- a depth that comes from a first full one, and of these the first, is a first full one
  first_stretched : (column stretched : ℤ → Bool) → IsStretched comes column stretched → (d k : ℤ) → comes k d → ((n : ℤ) → comes n d → k ≤ℤ n)
      → IsFirstFull column d → IsFirstFull stretched k
  first_stretched column stretched is d k at least first = (is.same k d at ∙ first.0, λ n l. false_from_ne_true (stretched n) (λ full. nearer n l full (is.from n full)))
    where
      nearer : (n : ℤ) → n <ℤ k → stretched n ≡ true → (e : ℤ) × comes n e → ⊥
      nearer n l full (e, from) = by_lt_z e d
          (λ before. both_ways (column e) (first.1 e before) (sym (is.same n e from) ∙ full))
          (λ not_before. by_lt_z d e
          (λ after. let m = keeps k n d e at from after in omega (arith, ints))
          (λ not_after. let same : e ≡ d = omega (arith, ints) in let m = least n (subst (comes n) same from) in omega (arith, ints)))

  -- a first full depth comes from a first full one
  first_from : (column stretched : ℤ → Bool) → IsStretched comes column stretched → (d k : ℤ) → comes k d → IsFirstFull stretched k → IsFirstFull column d
  first_from column stretched is d k at first = (
    sym (is.same k d at) ∙ first.0,
    λ e l. false_from_ne_true (column e) (λ full.
        let n = is.first e full in
        both_ways (stretched n.0) (first.1 n.0 (keeps n.0 k e d n.1 at l)) (is.same n.0 e n.1 ∙ full)),
  )

  module _ (a b a_long b_long : ℤ → Bool) (is_a : IsStretched comes a a_long) (is_b : IsStretched comes b b_long) where
    -- a first full depth of one column is that of the other, if it is so before the columns are stretched
    kept : HaveSameFirstFull a b → (k : ℤ) → IsFirstFull a_long k → IsFirstFull b_long k
    kept same k first =
        let d = is_a.from k first.0 in
        let on_b = (same d.0).0 (first_from a a_long is_a d.0 k d.1 first) in
        first_stretched b b_long is_b d.0 k d.1 (λ n at. by_lt_z n k
        (λ l. absurd (both_ways (a_long n) (first.1 n l) (is_a.same n d.0 at ∙ sym (is_a.same k d.0 d.1) ∙ first.0))) (λ l. l)) on_b

    -- and the other way round
    kept_back : HaveSameFirstFull a_long b_long → (d : ℤ) → IsFirstFull a d → IsFirstFull b d
    kept_back same d first =
        let k = is_a.first d first.0 in
        first_from b b_long is_b d k.0 k.1 ((same k.0).0 (first_stretched a a_long is_a d k.0 k.1 k.2 first))

    -- a full depth of a column is full in the other, if the columns are equal before they are stretched
    full_too : ((d : ℤ) → a d ≡ b d) → (k : ℤ) → a_long k ≡ true → b_long k ≡ true
    full_too same k full =
        let d = is_a.from k full in
        is_b.same k d.0 d.1 ∙ sym (same d.0) ∙ sym (is_a.same k d.0 d.1) ∙ full

    -- where the columns differ at a full depth, they differ when they are stretched
    differ_too : (d : ℤ) → a d ≡ true → a d ≢ b d → (k : ℤ) × (a_long k ≢ b_long k)
    differ_too d full differ =
        let k = is_a.first d full in
        (k.0, λ same. differ (sym (is_a.same k.0 d k.1) ∙ same ∙ is_b.same k.0 d k.1))

-- so they draw what they draw before
pub stretched_draw : (comes : ℤ → ℤ → Type 0) → KeepsOrder comes → (a b a_long b_long : ℤ → Bool)
    → IsStretched comes a a_long → IsStretched comes b b_long → (style : Style) → ColumnsDraw a b style → ColumnsDraw a_long b_long style
stretched_draw comes keeps a b a_long b_long is_a is_b Blank same = λ k. same_tests (a_long k) (b_long k)
    (full_too comes keeps a b a_long b_long is_a is_b same k)
    (full_too comes keeps b a b_long a_long is_b is_a (λ d. sym (same d)) k)
stretched_draw comes keeps a b a_long b_long is_a is_b Dashed ((d, differ), same) =
    (parting (a d) (b d) refl refl, λ k. (kept comes keeps a b a_long b_long is_a is_b same k, kept comes keeps b a b_long a_long is_b is_a (λ n. ((same n).1, (same n).0)) k))
  where
    parting : (x y : Bool) → a d ≡ x → b d ≡ y → (k : ℤ) × (a_long k ≢ b_long k)
    parting true y p q = differ_too comes keeps a b a_long b_long is_a is_b d p differ
    parting false true p q = let k = differ_too comes keeps b a b_long a_long is_b is_a d q (λ e. differ (sym e)) in (k.0, λ e. k.1 (sym e))
    parting false false p q = absurd (differ (p ∙ sym q))
stretched_draw comes keeps a b a_long b_long is_a is_b Solid differ = λ same. differ (λ d.
    (kept_back comes keeps a b a_long b_long is_a is_b same d, kept_back comes keeps b a b_long a_long is_b is_a (λ k. ((same k).1, (same k).0)) d))
