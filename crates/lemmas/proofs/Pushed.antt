-- Lists that are made one by one: what holds of each by its place.
use Rattle.std.proofs.Common.{◌≡◌, inl, inr, ℕ, ◌+◌, ◌<◌, List, [], ◌∷◌, ◌++◌, length, get_or, ap, sym, subst, ◌∙◌, arith}
use Rattle.std.proofs.lemmas.Bool.{cases_lt}
use Rattle.std.proofs.lemmas.List.{length-append, get_or_append_left}
use Rattle.std.proofs.Math.Seq.{get_or-append_seam}

-- there are so many, and P holds of each and its place
pub record HoldsSoFar {A : Type 0} (P : ℕ → A → Type 0) (xs : List A) (n : ℕ) : Type 0 where
  pub count : length xs ≡ n
  pub each : (p : ℕ) (d : A) → p < n → P p (get_or xs p d)

-- one more
pub holds_more : {A : Type 0} (P : ℕ → A → Type 0) (xs more : List A) (n : ℕ) (x : A) → HoldsSoFar P xs n → P n x → more ≡ xs ++ x ∷ [] → HoldsSoFar P more (n + 1)
holds_more {A} P xs more n x so_far holds e = record {
  count = ap length e ∙ length-append xs (x ∷ []) ∙ ap (λ m. m + 1) so_far.count;
  each = λ p d l. subst (λ ys. P p (get_or ys p d)) (sym e) (elim (cases_lt p n) as (λ _. P p (get_or (xs ++ x ∷ []) p d)) [
    | inl earlier ↦ subst (P p) (sym (get_or_append_left xs (x ∷ []) d p (omega (arith, so_far.count)))) (so_far.each p d earlier)
    | inr later ↦ (let last : length xs ≡ p = omega (arith, so_far.count) in
        let end : n ≡ p = omega arith in
        subst (λ m. P m (get_or (xs ++ x ∷ []) m d)) last
        (subst (P (length xs)) (sym (get_or-append_seam xs x [] d)) (subst (λ m. P m x) (end ∙ sym last) holds)))
  ]);
}
