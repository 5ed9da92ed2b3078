-- Truth values kept as bits: with how many values two lists begin alike, the first of the values alone, and one in another's place.
use Rattle.std.proofs.Common.{◌≡◌, ◌≢◌, inl, inr, Bool, true, false, cond, ◌==◌, ℕ, zero, suc, ◌+◌, ◌*◌, ◌/◌, ◌%◌, ◌^◌, ◌-◌, ◌<◌, ◌≤◌, min, List, [], ◌∷◌, length, get_or, set, take, drop, bit_and, bit_or, bit_xor, w64, refl, sym, ap, ap₂, subst, ◌∙◌, arith}
use Rattle.std.proofs.lemmas.Bool.{cases_lt, cases_eq, eq-eqb, ne_eqb}
use Rattle.std.proofs.lemmas.List.{ext_get_or, get_or-take, length-take, length-drop, length-set, get_or-set_same, get_or-set_other, take_all}
use Rattle.std.proofs.lemmas.List.Sums.{common_prefix_len-le, common_prefix_len-drop_no}
use Rattle.std.proofs.lemmas.Nat.Bits.{bit_at_xor, bit_at-lt, bit_at_set_same, bit_at_set_other, bit_at_clear_same, bit_at_clear_other}
use Rattle.std.specs.Int.{bit_at, bit_not}
use Rattle.std.specs.List.{common_prefix_len}
use Rattle.lemmas.specs.Bits.{is_set, bit_of, first_bits}
use Rattle.lemmas.specs.Truth.{agree}
use Rattle.lemmas.proofs.KeptBits.{length-first_bits, first_bits_at}
use Rattle.lemmas.proofs.Truth.{Decides-agree}

-- ---- lists that begin alike

-- lists that begin with the same values have these in common, and what they have in common after them
shared_on : (xs ys : List Bool) (k : ℕ) → k ≤ length xs → k ≤ length ys → take k xs ≡ take k ys
    → common_prefix_len agree xs ys ≡ k + common_prefix_len agree (drop k xs) (drop k ys)
shared_on xs ys zero a b e = omega arith
shared_on [] ys (suc k) a b e = absurd (omega arith)
shared_on (x ∷ xs) [] (suc k) a b e = absurd (omega arith)
shared_on (x ∷ xs) (y ∷ ys) (suc k) a b e =
    let rest = shared_on xs ys k (omega arith) (omega arith) (ap (drop 1) e) in
    let first : agree x y ≡ true = (Decides-agree x y).1 (ap (λ zs. get_or zs 0 false) e) in
    omega (arith, rest, ap (λ t. cond t (1 + common_prefix_len agree xs ys) 0) first)

-- no more than these, where one of them ends
pub shared_to_end : (xs ys : List Bool) (k : ℕ) → k ≡ min (length xs) (length ys) → take k xs ≡ take k ys → common_prefix_len agree xs ys ≡ k
shared_to_end xs ys k end e =
    let rest = common_prefix_len-le agree (drop k xs) (drop k ys) in
    omega (arith, shared_on xs ys k (omega arith) (omega arith) e, rest.0, rest.1, length-drop k xs, length-drop k ys)

-- nor where the next values differ
pub shared_to_other : (xs ys : List Bool) (k : ℕ) → k < length xs → k < length ys → take k xs ≡ take k ys
    → agree (get_or xs k false) (get_or ys k false) ≡ false → common_prefix_len agree xs ys ≡ k
shared_to_other xs ys k a b e differ =
    omega (arith, shared_on xs ys k (omega arith) (omega arith) e, common_prefix_len-drop_no agree xs ys k false false a b differ)

-- they begin with so many same values
pub shared_taken : (xs ys : List Bool) (k : ℕ) → k ≤ common_prefix_len agree xs ys → take k xs ≡ take k ys
shared_taken xs ys zero l = refl
shared_taken [] ys (suc k) l = absurd (omega arith)
shared_taken (x ∷ xs) [] (suc k) l = absurd (omega arith)
shared_taken (x ∷ xs) (y ∷ ys) (suc k) l = on x y l (shared_taken xs ys k)
  where
    on : (x y : Bool) → suc k ≤ cond (agree x y) (1 + common_prefix_len agree xs ys) 0
        → (k ≤ common_prefix_len agree xs ys → take k xs ≡ take k ys) → x ∷ take k xs ≡ y ∷ take k ys
    on true true l rest = ap (λ zs. true ∷ zs) (rest (omega arith))
    on true false l rest = absurd (omega arith)
    on false true l rest = absurd (omega arith)
    on false false l rest = ap (λ zs. false ∷ zs) (rest (omega arith))

-- ---- words that begin alike

-- words of which the first are the same have the same bits there
pub bit_same : (xs ys : List ℕ) (n k : ℕ) → take n xs ≡ take n ys → k < n * 64 → bit_of xs k ≡ bit_of ys k
bit_same xs ys n k e l =
    let within : k / 64 < n = omega arith in
    ap (λ word. is_set word (k % 64)) (sym (get_or-take n xs (k / 64) 0 within) ∙ ap (λ zs. get_or zs (k / 64) 0) e ∙ get_or-take n ys (k / 64) 0 within)

-- where two words have no bit of their exclusive or, they have the same bit
pub bit_alike : (a b k : ℕ) → bit_at (bit_xor a b) k ≡ 0 → is_set a k ≡ is_set b k
bit_alike a b k none = ap (λ bit. bit == 1) (omega (arith, bit_at_xor a b k, bit_at-lt a k, bit_at-lt b k))

-- and where they have one, they differ
pub bit_apart : (a b k : ℕ) → bit_at (bit_xor a b) k ≡ 1 → agree (is_set a k) (is_set b k) ≡ false
bit_apart a b k one = elim (cases_lt (bit_at a k) 1) as (λ _. agree (is_set a k) (is_set b k) ≡ false) [
  | inl l ↦ bits 0 1 (omega arith) (omega (arith, bit_at_xor a b k, bit_at-lt b k))
  | inr m ↦ bits 1 0 (omega (arith, bit_at-lt a k)) (omega (arith, bit_at_xor a b k, bit_at-lt a k, bit_at-lt b k))
]
  where
    bits : (m n : ℕ) → bit_at a k ≡ m → bit_at b k ≡ n → agree (is_set a k) (is_set b k) ≡ agree (m == 1) (n == 1)
    bits m n e f = ap₂ (λ x y. agree (x == 1) (y == 1)) e f

-- the same words, and then a word with the same first bits
pub bits_same : (xs ys : List ℕ) (n t : ℕ) → take n xs ≡ take n ys → t ≤ 64
    → ((i : ℕ) → i < t → is_set (get_or xs n 0) i ≡ is_set (get_or ys n 0) i) → (k : ℕ) → k < n * 64 + t → bit_of xs k ≡ bit_of ys k
bits_same xs ys n t e few next k l = elim (cases_lt k (n * 64)) as (λ _. bit_of xs k ≡ bit_of ys k) [
  | inl earlier ↦ bit_same xs ys n k e earlier
  | inr later ↦ (let word : n ≡ k / 64 = omega arith in
      subst (λ m. is_set (get_or xs m 0) (k % 64) ≡ is_set (get_or ys m 0) (k % 64)) word (next (k % 64) (omega arith)))
]

-- values with the same first bits begin with the same values
pub values_same : (xs ys : List ℕ) (m n k : ℕ) → k ≤ m → k ≤ n → ((i : ℕ) → i < k → bit_of xs i ≡ bit_of ys i)
    → take k (first_bits xs m) ≡ take k (first_bits ys n)
values_same xs ys m n k a b same = ext_get_or false _ _
    (omega (arith, length-take k (first_bits xs m), length-take k (first_bits ys n), length-first_bits xs m, length-first_bits ys n))
    (λ i h.
    let l : i < k = omega (arith, length-take k (first_bits xs m)) in
    get_or-take k (first_bits xs m) i false l ∙ first_bits_at xs m i (omega arith) ∙ same i l
    ∙ sym (first_bits_at ys n i (omega arith)) ∙ sym (get_or-take k (first_bits ys n) i false l))

-- words that are the same up to one whose first bits are: so many values are the same, if there are so many
pub shared_up_to : (xs ys : List ℕ) (m n w t : ℕ) → take w xs ≡ take w ys → w * 64 < min m n → t < 64
    → ((i : ℕ) → i < t → is_set (get_or xs w 0) i ≡ is_set (get_or ys w 0) i) → agree (is_set (get_or xs w 0) t) (is_set (get_or ys w 0) t) ≡ false
    → w * 64 + min (min m n - w * 64) t ≡ common_prefix_len agree (first_bits xs m) (first_bits ys n)
shared_up_to xs ys m n w t alike within few next differ = elim (cases_lt (w * 64 + t) (min m n))
    as (λ _. w * 64 + min (min m n - w * 64) t ≡ common_prefix_len agree (first_bits xs m) (first_bits ys n)) [
      | inl l ↦ (let there = shared_to_other (first_bits xs m) (first_bits ys n) (w * 64 + t)
          (omega (arith, length-first_bits xs m)) (omega (arith, length-first_bits ys n))
          (values_same xs ys m n (w * 64 + t) (omega arith) (omega arith) same) (last l) in omega arith)
      | inr g ↦ (let there = shared_to_end (first_bits xs m) (first_bits ys n) (min m n) (omega (arith, length-first_bits xs m, length-first_bits ys n))
          (values_same xs ys m n (min m n) (omega arith) (omega arith) (λ i l. same i (omega arith))) in omega arith)
    ]
  where
    same : (i : ℕ) → i < w * 64 + t → bit_of xs i ≡ bit_of ys i
    same = bits_same xs ys w t alike (omega arith) next

    bit : (zs : List ℕ) → bit_of zs (w * 64 + t) ≡ is_set (get_or zs w 0) t
    bit zs = let word : (w * 64 + t) / 64 ≡ w = omega arith in let place : (w * 64 + t) % 64 ≡ t = omega arith in
        ap₂ (λ i j. is_set (get_or zs i 0) j) word place

    last : w * 64 + t < min m n → agree (get_or (first_bits xs m) (w * 64 + t) false) (get_or (first_bits ys n) (w * 64 + t) false) ≡ false
    last l = ap₂ agree (first_bits_at xs m (w * 64 + t) (omega arith) ∙ bit xs) (first_bits_at ys n (w * 64 + t) (omega arith) ∙ bit ys) ∙ differ

-- ---- the first of the values

-- the first words keep the first of the values
pub values_first : (words : List ℕ) (m n k : ℕ) → k ≤ m → k ≤ n * 64 → first_bits (take n words) k ≡ take k (first_bits words m)
values_first words m n k a b =
    sym (take_all k (first_bits (take n words) k) (omega (arith, length-first_bits (take n words) k)))
    ∙ values_same (take n words) words k m k (omega arith) a (λ i l.
    ap (λ word. is_set word (i % 64)) (get_or-take n words (i / 64) 0 (omega arith)))

-- ---- a value in another's place

-- a word in which this bit is so, and the others are as they were
pub record HasBit (word bit : ℕ) (value : Bool) (after : ℕ) : Type 0 where
  pub same : is_set after bit ≡ value
  pub other : (i : ℕ) → i < 64 → i ≢ bit → is_set after i ≡ is_set word i

pub with_bit : (word bit : ℕ) → bit < 64 → HasBit word bit true (bit_or word (1 * 2 ^ bit % 2 ^ 64))
with_bit word bit within = record {
  same = eq-eqb _ 1 (bit_at_set_same w64 word bit within);
  other = λ i l apart. ap (λ n. n == 1) (bit_at_set_other w64 word bit within i apart);
}

pub without_bit : (word bit : ℕ) → bit < 64 → HasBit word bit false (bit_and word (bit_not w64 (1 * 2 ^ bit % 2 ^ 64)))
without_bit word bit within = record {
  same = ap (λ n. n == 1) (bit_at_clear_same w64 word bit within);
  other = λ i l apart. ap (λ n. n == 1) (bit_at_clear_other w64 word bit within i l apart);
}

-- with such a word in its place, the values have this one in its place
pub values_with : (words : List ℕ) (count at : ℕ) (value : Bool) (word : ℕ) → at < count → count ≤ 64 * length words
    → HasBit (get_or words (at / 64) 0) (at % 64) value word → first_bits (set words (at / 64) word) count ≡ set (first_bits words count) at value
values_with words count at value word within enough has = ext_get_or false _ _
    (length-first_bits after count ∙ sym (length-set (first_bits words count) at value ∙ length-first_bits words count))
    (λ k h. one k (omega (arith, length-first_bits after count)) ∙ sym (two k (omega (arith, length-first_bits after count))))
  where
    after : List ℕ
    after = set words (at / 64) word

    -- the value of each place
    wanted : ℕ → Bool
    wanted k = cond (k == at) value (bit_of words k)

    here : (k : ℕ) → k ≡ at → get_or after (k / 64) 0 ≡ word
    here k e = ap (λ i. get_or after (i / 64) 0) e ∙ get_or-set_same words (at / 64) word 0 (omega arith)

    one : (k : ℕ) → k < count → get_or (first_bits after count) k false ≡ wanted k
    one k l = first_bits_at after count k l ∙ elim (cases_eq k at) as (λ _. bit_of after k ≡ wanted k) [
      | inl e ↦ ap₂ is_set (here k e) (ap (λ i. i % 64) e) ∙ has.same ∙ sym (ap (λ t. cond t value (bit_of words k)) (eq-eqb k at e))
      | inr apart ↦ beside k l apart ∙ sym (ap (λ t. cond t value (bit_of words k)) (ne_eqb k at apart))
    ]
      where
        beside : (k : ℕ) → k < count → k ≢ at → bit_of after k ≡ bit_of words k
        beside k l apart = elim (cases_eq (k / 64) (at / 64)) as (λ _. bit_of after k ≡ bit_of words k) [
          | inl e ↦ (let bit : k % 64 ≢ at % 64 = λ f. apart (omega arith) in
              ap (λ m. is_set m (k % 64)) (ap (λ i. get_or after i 0) e ∙ get_or-set_same words (at / 64) word 0 (omega arith))
              ∙ has.other (k % 64) (omega arith) bit ∙ ap (λ i. is_set (get_or words i 0) (k % 64)) (sym e))
          | inr other ↦ ap (λ m. is_set m (k % 64)) (get_or-set_other words (at / 64) (k / 64) word 0 other)
        ]

    two : (k : ℕ) → k < count → get_or (set (first_bits words count) at value) k false ≡ wanted k
    two k l = elim (cases_eq k at) as (λ _. get_or (set (first_bits words count) at value) k false ≡ wanted k) [
      | inl e ↦ ap (λ i. get_or (set (first_bits words count) at value) i false) e
          ∙ get_or-set_same (first_bits words count) at value false (omega (arith, length-first_bits words count))
          ∙ sym (ap (λ t. cond t value (bit_of words k)) (eq-eqb k at e))
      | inr apart ↦ get_or-set_other (first_bits words count) at k value false apart ∙ first_bits_at words count k l
          ∙ sym (ap (λ t. cond t value (bit_of words k)) (ne_eqb k at apart))
    ]
