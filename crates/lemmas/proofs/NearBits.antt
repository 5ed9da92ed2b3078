-- The bits of a number down to its lowest one.
use Rattle.std.proofs.Common.{◌≡◌, inl, inr, ◌==◌, ◌&&◌, Bool, true, false, ℕ, zero, suc, ◌+◌, ◌-◌, ◌/◌, ◌%◌, ◌^◌, ◌<◌, ◌≤◌, refl, ap, ap₂, sym, subst, ◌∙◌, arith}
use Rattle.std.specs.Int.{bit_at}
use Rattle.std.proofs.lemmas.Bool.{both_ways, and_parts, and_from, eqb-true, eq-eqb, eqb-false, cases_lt}
use Rattle.std.proofs.lemmas.Nat.Bits.{bit_at_xor, bit_at-suc, bit_at_lowest, bit_at-zero, bit_at_ones}
use Rattle.lemmas.specs.Bits.{is_set, near}
use Rattle.lemmas.proofs.WordBits.{zeros, zeros_of_none, lowest_set, below_lowest}
use Rattle.lemmas.specs.Counts.{one_if}

-- no bit is set below a place
abbrev is_clear : ℕ → ℕ → Bool
is_clear n zero = true
is_clear n (suc k) = (n % 2 == 0) && is_clear (n / 2) k

-- a number and the one before it differ just where none is set below
differs : (k n : ℕ) → 0 < n → (bit_at n k + bit_at (n - 1) k) % 2 ≡ one_if (is_clear n k)
differs zero n some = ap₂ (λ (x y : ℕ). (x + y) % 2) (bit_at_lowest n) (bit_at_lowest (n - 1)) ∙ omega arith
differs (suc k) n some = ap₂ (λ (x y : ℕ). (x + y) % 2) (bit_at-suc n k) (bit_at-suc (n - 1) k) ∙ by (n % 2 == 0) refl (differs k (n / 2))
  where
    by : (b : Bool) → (n % 2 == 0) ≡ b → (0 < n / 2 → (bit_at (n / 2) k + bit_at (n / 2 - 1) k) % 2 ≡ one_if (is_clear (n / 2) k))
        → (bit_at (n / 2) k + bit_at ((n - 1) / 2) k) % 2 ≡ one_if (b && is_clear (n / 2) k)
    by true e rest = let even = eqb-true (n % 2) 0 e in let half : (n - 1) / 2 ≡ n / 2 - 1 = omega arith in
        ap (λ (m : ℕ). (bit_at (n / 2) k + bit_at m k) % 2) half ∙ rest (omega arith)
    by false e rest = let odd = eqb-false (n % 2) 0 e in let half : (n - 1) / 2 ≡ n / 2 = omega arith in
        ap (λ (m : ℕ). (bit_at (n / 2) k + bit_at m k) % 2) half ∙ (let b = bit_at (n / 2) k in omega arith)

clear_of_none : (k : ℕ) → is_clear 0 k ≡ true
clear_of_none zero = refl
clear_of_none (suc k) = clear_of_none k

near_is : (n k : ℕ) → n < 2 ^ 64 → k < 64 → is_set (near n) k ≡ is_clear n k
near_is n k fits within = ap (λ x. x == 1) (bit_at_xor n (less n) k ∙ elim (cases_lt 0 n) as (λ _. (bit_at n k + bit_at (less n) k) % 2 ≡ one_if (is_clear n k)) [
  | inl some ↦ (let e : less n ≡ n - 1 = omega arith in ap (λ (m : ℕ). (bit_at n k + bit_at m k) % 2) e ∙ differs k n some)
  | inr none ↦ (let e : n ≡ 0 = omega arith in
      subst (λ (m : ℕ). (bit_at m k + bit_at (less m) k) % 2 ≡ one_if (is_clear m k)) (sym e)
      (ap₂ (λ (x y : ℕ). (x + y) % 2) (bit_at-zero k) (bit_at_ones 64 k within) ∙ ap one_if (sym (clear_of_none k))))
]) ∙ test (is_clear n k)
  where
    less : ℕ → ℕ
    less m = (m + (2 ^ 64 - 1)) % 2 ^ 64

    test : (b : Bool) → (one_if b == 1) ≡ b
    test true = refl
    test false = refl

clear_from : (n k : ℕ) → is_clear n k ≡ true → (j : ℕ) → j < k → is_set n j ≡ false
clear_from n zero e j l = absurd (omega arith)
clear_from n (suc k) e zero l = ap (λ x. x == 1) (bit_at_lowest n ∙ eqb-true (n % 2) 0 (and_parts _ _ e).0)
clear_from n (suc k) e (suc j) l = ap (λ x. x == 1) (bit_at-suc n j) ∙ clear_from (n / 2) k (and_parts _ _ e).1 j (omega arith)

clear_to : (n k : ℕ) → ((j : ℕ) → j < k → is_set n j ≡ false) → is_clear n k ≡ true
clear_to n zero clear = refl
clear_to n (suc k) clear = and_from _ _ (eq-eqb (n % 2) 0 (even (clear 0 (omega arith)))) (clear_to (n / 2) k (λ j l. ap (λ x. x == 1) (sym (bit_at-suc n j)) ∙ clear (suc j) (omega arith)))
  where
    even : is_set n 0 ≡ false → n % 2 ≡ 0
    even e = let other = eqb-false (bit_at n 0) 1 e in let is = bit_at_lowest n in omega (arith, is, other)

module _ (n k : ℕ) (fits : n < 2 ^ 64) (within : k < 64) where
  -- down to the lowest bit all are,
  pub near_to : k ≤ zeros n → is_set (near n) k ≡ true
  near_to l = near_is n k fits within ∙ clear_to n k (λ j m. below_lowest n fits j (omega arith))

  -- and no others
  pub near_from : is_set (near n) k ≡ true → k ≤ zeros n
  near_from set = elim (cases_lt (zeros n) k) as (λ _. k ≤ zeros n) [
    | inl l ↦ absurd (both_ways (is_set n (zeros n)) (clear_from n k (sym (near_is n k fits within) ∙ set) (zeros n) l)
        (lowest_set n fits (λ none. (let all = zeros_of_none n none in omega (arith, all)))).0)
    | inr l ↦ l
  ]
