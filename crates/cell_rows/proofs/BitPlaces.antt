-- The places of bits that are set.
use Rattle.std.proofs.Common.{pow-add, ◌≡◌, inl, inr, true, false, ◌==◌, ℕ, ◌+◌, ◌-◌, ◌*◌, ◌/◌, ◌%◌, ◌^◌, ◌<◌, ◌≤◌, List, length, get_or, ap, sym, ◌∙◌, arith}
use Rattle.std.proofs.lemmas.Bool.{false≢true, cases_lt}
use Rattle.std.proofs.lemmas.List.{get_or_past}
use Rattle.std.proofs.lemmas.Nat.{mod-mul-add, div-mul-add, div-add-mod', mod_below}
use Rattle.std.proofs.lemmas.Nat.Bits.{bit_at-zero, bit_at_above}
use Rattle.std.proofs.Math.Nat.{div-div-eq-div-mul}
use Rattle.lemmas.specs.Bits.{is_set, bit_of}

-- bits that are moved down are those farther up
pub moved_down : (n s k : ℕ) → is_set (n / 2 ^ s) k ≡ is_set n (s + k)
moved_down n s k = ap (λ x. x % 2 == 1) (div-div-eq-div-mul n (2 ^ s) (2 ^ k) ∙ ap (λ x. n / x) (sym (pow-add 2 s k)))

-- the bit at a place
pub bit_there : (words : List ℕ) (number j : ℕ) → j < 64 → bit_of words (number * 64 + j) ≡ is_set (get_or words number 0) j
bit_there words number j l =
    λ i. is_set (get_or words (div-mul-add number 64 j l i) 0) (mod-mul-add number 64 j l i)

-- none is set from the beginning of a word on up to a place
abbrev pub NoneFrom : List ℕ → ℕ → ℕ → Type 0
NoneFrom words from to = (k : ℕ) → from ≤ k → k < to → bit_of words k ≡ false

-- so many bits of a word more, none of which is set
pub none_more : (words : List ℕ) (from number bit : ℕ) → bit ≤ 64 → NoneFrom words from (number * 64)
    → ((k : ℕ) → k < bit → is_set (get_or words number 0) k ≡ false) → NoneFrom words from (number * 64 + bit)
none_more words from number bit few none clear k l m = elim (cases_lt k (number * 64)) as (λ _. bit_of words k ≡ false) [
  | inl earlier ↦ none k l earlier
  | inr later ↦ (let at : number * 64 + (k - number * 64) ≡ k = omega arith in
      ap (bit_of words) (sym at) ∙ bit_there words number (k - number * 64) (omega arith) ∙ clear (k - number * 64) (omega arith))
]

module _ (words : List ℕ) (from : ℕ) where
  -- the place where the bits of the word of a place begin
  place_is : from / 64 * 64 + from % 64 ≡ from
  place_is = div-add-mod' from 64

  -- where none is set from a place on in its word, that word has none up to the bit
  pub none_in_word : (word bit : ℕ) → get_or words (from / 64) 0 ≡ word → from % 64 + bit ≤ 64
      → ((k : ℕ) → k < bit → is_set (word / 2 ^ (from % 64)) k ≡ false) → NoneFrom words from (from + bit)
  none_in_word word bit e few clear k l m =
      let j = k - from in
      let at : from / 64 * 64 + (from % 64 + j) ≡ k = omega (arith, place_is) in
      ap (bit_of words) (sym at) ∙ bit_there words (from / 64) (from % 64 + j) (omega arith)
      ∙ ap (λ w. is_set w (from % 64 + j)) e ∙ sym (moved_down word (from % 64) j) ∙ clear j (omega arith)

  -- where a bit is set in what is moved down, it stands in the word
  pub bit_fits : (word bit : ℕ) → word < 2 ^ 64 → is_set (word / 2 ^ (from % 64)) bit ≡ true → from % 64 + bit < 64
  bit_fits word bit fits set = elim (cases_lt (from % 64 + bit) 64) as (λ _. from % 64 + bit < 64) [
    | inl l ↦ l
    | inr beyond ↦ absurd (false≢true (sym (ap (λ x. x == 1) (bit_at_above word 64 (from % 64 + bit) fits beyond))
        ∙ sym (moved_down word (from % 64) bit) ∙ set))
  ]

  -- and is the bit at its place
  pub set_in_word : (word bit : ℕ) → get_or words (from / 64) 0 ≡ word → from % 64 + bit < 64
      → is_set (word / 2 ^ (from % 64)) bit ≡ true → bit_of words (from + bit) ≡ true
  set_in_word word bit e few set =
      let at : from / 64 * 64 + (from % 64 + bit) ≡ from + bit = omega (arith, place_is) in
      ap (bit_of words) (sym at) ∙ bit_there words (from / 64) (from % 64 + bit) few
      ∙ ap (λ w. is_set w (from % 64 + bit)) e ∙ sym (moved_down word (from % 64) bit) ∙ set

  -- no bit of the rest of the word, and none of the words after it
  pub none_onward : (to : ℕ) → NoneFrom words from (from + (64 - from % 64)) → NoneFrom words ((from / 64 + 1) * 64) to → NoneFrom words from to
  none_onward to here after k l m = elim (cases_lt k ((from / 64 + 1) * 64)) as (λ _. bit_of words k ≡ false) [
    | inl before ↦ here k l (omega (arith, place_is))
    | inr beyond ↦ after k beyond m
  ]

-- beyond the words no bit is set
pub clear_beyond : (words : List ℕ) (k : ℕ) → length words * 64 ≤ k → bit_of words k ≡ false
clear_beyond words k l =
    ap (λ w. is_set w (k % 64)) (get_or_past words (k / 64) 0 (omega (arith, div-add-mod' k 64, mod_below k 64 (omega arith))))
    ∙ ap (λ b. b == 1) (bit_at-zero (k % 64))
