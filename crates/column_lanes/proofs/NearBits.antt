-- Bits of a number down to the lowest one of another number, and behind it.
use Rattle.std.proofs.Common.{div-le_self, ◌≡◌, ◌≢◌, ◌↔◌, inl, inr, ◌==◌, ◌&&◌, not, true, false, ℕ, ◌+◌, ◌-◌, ◌/◌, ◌%◌, ◌^◌, ◌<◌, ◌≤◌, if◌then◌else◌, bit_and, ap, sym, ◌∙◌, arith}
use Rattle.std.specs.Int.{bit_at}
use Rattle.std.specs.Int.Bits.{and_lt}
use Rattle.std.proofs.lemmas.Bool.{false≢true, both_ways, and_parts, and_from, cases_lt, not_from_false, not-true, false_from_ne_true}
use Rattle.std.proofs.lemmas.Nat.{xor_lt}
use Rattle.std.proofs.lemmas.Nat.Bits.{bit_at-lt, bit_at_xor, bit_at_above}
use Rattle.solid_model.proofs.KnownBits.{behind, some_bit}
use Rattle.lemmas.specs.Bits.{is_set, near}
use Rattle.lemmas.proofs.NearBits.{near_to, near_from}
use Rattle.lemmas.proofs.WordBits.{set_both, not_zero, zeros, zeros_of_none, lowest_set, lowest_at_most}
use Rattle.column_lanes.specs.Meets.{bits_without}

-- the bits of the one without those of the other
pub set_apart : (a b k : ℕ) → is_set (bits_without a b) k ≡ (is_set a k && not (is_set b k))
set_apart a b k =
    ap (λ x. x == 1) (bit_at_xor a (bit_and a b) k ∙ ap (λ (y : ℕ). (bit_at a k + y) % 2) (is_one (bit_at (bit_and a b) k) (bit_at-lt (bit_and a b) k) ∙ ap (λ t. if t then 1 else 0) (set_both a b k)))
    ∙ of_two (bit_at a k) (bit_at b k) (bit_at-lt a k) (bit_at-lt b k)
  where
    of_two : (x y : ℕ) → x < 2 → y < 2 → ((x + (if (x == 1) && (y == 1) then 1 else 0)) % 2 == 1) ≡ ((x == 1) && not (y == 1))
    of_two x y l m = grind arith

    is_one : (x : ℕ) → x < 2 → x ≡ (if x == 1 then 1 else 0)
    is_one x l = grind arith

pub near_fits : (n : ℕ) → n < 2 ^ 64 → near n < 2 ^ 64
near_fits n fits = xor_lt 64 n ((n + (2 ^ 64 - 1)) % 2 ^ 64) fits (omega arith)

pub apart_fits : (a b : ℕ) → a < 2 ^ 64 → b < 2 ^ 64 → bits_without a b < 2 ^ 64
apart_fits a b l m = xor_lt 64 a (bit_and a b) l (and_lt 64 a b l m)

module _ (d n : ℕ) (d_fits : d < 2 ^ 64) (n_fits : n < 2 ^ 64) where
  -- some bit of d is one of those down to the lowest of n, just where the lowest of d is
  pub some_near : (bit_and d (near n) ≢ 0) ↔ ((d ≢ 0) × (zeros d ≤ zeros n))
  some_near = (
    (λ some.
        let lowest = lowest_set (bit_and d (near n)) (and_lt 64 d (near n) d_fits (near_fits n n_fits)) some in
        let parts = and_parts _ _ (sym (set_both d (near n) (zeros (bit_and d (near n)))) ∙ lowest.0) in
        let low = lowest_at_most d d_fits _ parts.0 in
        let high = near_from n _ n_fits lowest.1 parts.1 in
        (not_zero d _ parts.0, omega arith)),
    (λ both.
        let lowest = lowest_set d d_fits both.0 in
        not_zero (bit_and d (near n)) (zeros d) (set_both d (near n) (zeros d) ∙ and_from _ _ lowest.0 (near_to n (zeros d) n_fits lowest.1 both.1))),
  )

  -- some bit of d is none of them, just where n has a lowest one, and d a bit behind it
  pub some_behind : (bits_without d (near n) ≢ 0) ↔ ((n ≢ 0) × (d / 2 ^ zeros n / 2 ≢ 0))
  some_behind = (
    (λ some.
        let k : ℕ = zeros (bits_without d (near n)) in
        let lowest = lowest_set (bits_without d (near n)) (apart_fits d (near n) d_fits (near_fits n n_fits)) some in
        let parts = and_parts _ _ (sym (set_apart d (near n) k) ∙ lowest.0) in
        let far : zeros n < k = past k lowest.1 (not-true _ parts.1) in
        let there : zeros n + 1 + (k - (zeros n + 1)) ≡ k = omega (arith, far) in (
          (λ none. let all = zeros_of_none n none in omega (arith, all, far, lowest.1)),
          not_zero (d / 2 ^ zeros n / 2) (k - (zeros n + 1)) (behind d (zeros n) (k - (zeros n + 1)) ∙ ap (is_set d) there ∙ parts.0),
        )),
    (λ both.
        let found = some_bit (d / 2 ^ zeros n / 2) (less (d / 2 ^ zeros n) (less_by (2 ^ zeros n))) both.1 in
        let k : ℕ = zeros n + 1 + found.0 in
        let set : is_set d k ≡ true = sym (behind d (zeros n) found.0) ∙ found.1 in
        not_zero (bits_without d (near n)) k (set_apart d (near n) k ∙ and_from _ _ set (not_from_false _ (clear k set (omega arith))))),
  )
    where
      past : (k : ℕ) → k < 64 → is_set (near n) k ≡ false → zeros n < k
      past k within out = elim (cases_lt (zeros n) k) as (λ _. zeros n < k) [
        | inl l ↦ l
        | inr l ↦ absurd (both_ways _ out (near_to n k n_fits within l))
      ]

      within_word : (k : ℕ) → is_set d k ≡ true → k < 64
      within_word k there = elim (cases_lt k 64) as (λ _. k < 64) [
        | inl l ↦ l
        | inr l ↦ absurd (false≢true (sym (ap (λ b. b == 1) (bit_at_above d 64 k d_fits l)) ∙ there))
      ]

      clear : (k : ℕ) → is_set d k ≡ true → zeros n < k → is_set (near n) k ≡ false
      clear k set far = false_from_ne_true _ (λ there. (let low = near_from n k n_fits (within_word k set) there in omega (arith, low, far)))

      less : (m : ℕ) → m < 2 ^ 64 → m / 2 < 2 ^ 64
      less m l = omega arith

      less_by : (m : ℕ) → d / m < 2 ^ 64
      less_by m = (let l = div-le_self d m in omega (arith, l))
