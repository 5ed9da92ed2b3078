-- Truth values kept as bits: each by its place, and words that are listed one by one.
use Rattle.std.proofs.Common.{◌≡◌, Bool, false, ℕ, ◌+◌, ◌*◌, ◌/◌, ◌%◌, ◌<◌, ◌≤◌, List, length, get_or, ap, ◌∙◌, arith}
use Rattle.std.proofs.lemmas.List.{ext_get_or}
use Rattle.std.proofs.lemmas.List.FromFn.{length-map-range_with_len, get_or-map-range_with_len}
use Rattle.lemmas.specs.Bits.{is_set, bit_of, first_bits}
use Rattle.lemmas.proofs.Pushed.{HoldsSoFar}

-- there are as many values as are counted
pub length-first_bits : (words : List ℕ) (count : ℕ) → length (first_bits words count) ≡ count
unfolding first_bits
length-first_bits words count = length-map-range_with_len (bit_of words) 0 count

-- and each is a bit
pub first_bits_at : (words : List ℕ) (count k : ℕ) → k < count → get_or (first_bits words count) k false ≡ bit_of words k
unfolding first_bits
first_bits_at words count k l = get_or-map-range_with_len (bit_of words) 0 count k k false l (omega arith)

-- ---- words that are listed one by one

-- the bits of the word of this number are 64 of the values
abbrev pub IsWordAt : List Bool → ℕ → ℕ → Type 0
IsWordAt values number word = (k : ℕ) → k < 64 → is_set word k ≡ get_or values (number * 64 + k) false

-- with all words these are the values
pub all_values : (values : List Bool) (words : List ℕ) (n : ℕ) → HoldsSoFar (IsWordAt values) words n → length values ≤ n * 64
    → first_bits words (length values) ≡ values
all_values values words n so_far enough = ext_get_or false _ _ (length-first_bits words (length values)) (λ k h.
    let l : k < length values = omega (arith, length-first_bits words (length values)) in
    let whole : k / 64 * 64 + k % 64 ≡ k = omega arith in
    first_bits_at words (length values) k l
    ∙ so_far.each (k / 64) 0 (omega arith) (k % 64) (omega arith)
    ∙ ap (λ m. get_or values m false) whole)
