-- Truth values, and tests for the same ones.
use Rattle.std.proofs.Common.{◌≡◌, Bool, true, false, true≢false, not, ◌&&◌, List, [], ◌∷◌, refl, sym, ap₂}
use Rattle.std.specs.Bool.{Decides}
use Rattle.std.proofs.lemmas.Bool.{both_ways, false≢true, false_from_ne_true}
use Rattle.std.proofs.lemmas.Bool.Decides.{Decides-and, Decides-like}
use Rattle.lemmas.specs.Truth.{agree, same_values}

-- a value isn't true with its opposite,
pub never_both : (r : Bool) → r ≡ true → not r ≡ true → ⊥
never_both true e f = false≢true f
never_both false e f = absurd (false≢true e)

-- and one that isn't true has a true opposite
pub not_from_never : (r : Bool) → (r ≡ true → ⊥) → not r ≡ true
not_from_never true none = absurd (none refl)
not_from_never false none = refl

-- two values that are true together are the same
pub same_truth : (a b : Bool) → (a ≡ true → b ≡ true) → (b ≡ true → a ≡ true) → a ≡ b
same_truth true b to from = sym (to refl)
same_truth false true to from = from refl
same_truth false false to from = refl

-- two values agree where they are the same
pub Decides-agree : (x y : Bool) → Decides (agree x y) (x ≡ y)
Decides-agree true true = (λ e. refl, λ e. refl)
Decides-agree true false = (λ e. absurd (false≢true e), λ e. absurd (true≢false e))
Decides-agree false true = (λ e. absurd (false≢true e), λ e. absurd (false≢true e))
Decides-agree false false = (λ e. refl, λ e. refl)

-- the test for one list is right
pub Decides-same_values : (xs ys : List Bool) → Decides (same_values xs ys) (xs ≡ ys)
Decides-same_values [] [] = (λ e. refl, λ e. refl)
Decides-same_values [] (y ∷ ys) = (λ e. absurd (false≢true e), λ e. cc)
Decides-same_values (x ∷ xs) [] = (λ e. absurd (false≢true e), λ e. cc)
Decides-same_values (x ∷ xs) (y ∷ ys) =
    Decides-like (agree x y && same_values xs ys) (λ both. ap₂ ◌∷◌ both.0 both.1) (λ e. (cc, cc))
    (Decides-and (agree x y) (same_values xs ys) (Decides-agree x y) (Decides-same_values xs ys))

-- and a test that is true exactly of the same list is this one
pub same_by : (t : Bool) (xs ys : List Bool) → (t ≡ true → xs ≡ ys) → (xs ≡ ys → t ≡ true) → t ≡ same_values xs ys
same_by true xs ys to from = sym ((Decides-same_values xs ys).1 (to refl))
same_by false xs ys to from = sym (false_from_ne_true (same_values xs ys) (λ e. both_ways false refl (from ((Decides-same_values xs ys).0 e))))
