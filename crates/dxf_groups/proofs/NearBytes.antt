-- The first sixteen bytes of a text, which are looked at together.
use Rattle.std.proofs.Common.{◌≡◌, inl, inr, ◌+◌, ◌≤◌, ◌<◌, ◌^◌, ℕ, Bool, true, false, not, cond, ◌||◌, eqb, List, length, map, take, slice_index, refl, sym, ap, subst, ◌∙◌, arith, w64}
use Rattle.std.specs.Int.{bit_at}
use Rattle.std.specs.Int.Count.{count_trailing_zeros}
use Rattle.std.specs.List.{position_or_len, prefix_len}
use Rattle.std.specs.Simd.Lanes.{mask_l}
use Rattle.std.proofs.lemmas.Bool.{cases_lt}
use Rattle.std.proofs.lemmas.List.{get_or_past, length-map, length-take-le}
use Rattle.std.proofs.lemmas.List.Sums.{position_or_len_is}
use Rattle.std.proofs.lemmas.Nat.Bits.{bit_at-trailing_zeros}
use Rattle.std.proofs.lemmas.Simd.{bit_mask_l, mask_l-lt, none_from_empty_mask, run_in_chunk_fails, run_in_chunk_stops, trailing_mask_l}
use Rattle.dxf_groups.specs.TextLines.{is_blank}

-- the mask of those that pass
abbrev pub near_mask : (ℕ → Bool) → List ℕ → ℕ
near_mask p text = mask_l (map p (take 16 text))

-- its lowest bit that is set
abbrev pub near_place : (ℕ → Bool) → List ℕ → ℕ
near_place p text = count_trailing_zeros 64 (near_mask p text)

-- where some bit is set, that one is among the sixteen, since none is set behind them,
pub near_within : (p : ℕ → Bool) (text : List ℕ) → 16 ≤ length text → 0 < near_mask p text
    → near_place p text < 16
near_within p text long some =
    let passes = map p (take 16 text) in
    let few : length passes ≡ 16 = length-map (take 16 text) p ∙ length-take-le 16 text long in
    let below : near_mask p text < 2 ^ 16 =
    subst (λ n. near_mask p text < 2 ^ n) few (mask_l-lt passes) in
    let set = (bit_at-trailing_zeros w64 (near_mask p text) some (omega arith)).1 in
    elim (cases_lt (near_place p text) 16) as (λ _. near_place p text < 16) [
      | inl within ↦ within
      | inr behind ↦
          let none : bit_at (near_mask p text) (near_place p text) ≡ 0 =
          bit_mask_l passes (near_place p text)
          ∙ ap (λ (b : Bool). cond {A = ℕ} b 1 0)
          (get_or_past passes (near_place p text) false (omega arith)) in
          let no : ⊥ = omega arith in absurd no
    ]

-- and the bytes before it are all that don't pass
near_count : (p : ℕ → Bool) (text : List ℕ) → 16 ≤ length text → 0 < near_mask p text
    → near_place p text ≡ prefix_len (λ x. not (p x)) (take 16 text)
near_count p text long some =
    trailing_mask_l p 64 (take 16 text) (omega (arith, length-take-le 16 text long)) some

-- so no byte before it passes,
pub near_fails : (p : ℕ → Bool) (text : List ℕ) → 16 ≤ length text → 0 < near_mask p text
    → (k : ℕ) → k < near_place p text → p (slice_index text k) ≡ false
near_fails p text long some k lt =
    run_in_chunk_fails p text 0 16 (near_place p text) 0 long (near_count p text long some) k
    (omega arith) (omega arith)

-- and it is the first byte of the text that passes
pub near_first : (p : ℕ → Bool) (text : List ℕ) → 16 ≤ length text → 0 < near_mask p text
    → near_place p text ≡ position_or_len p text
near_first p text long some =
    let within = near_within p text long some in
    let stops : p (slice_index text (0 + near_place p text)) ≡ true =
    run_in_chunk_stops p text 0 16 (near_place p text) 0 long (near_count p text long some) within in
    let here : 0 + near_place p text ≡ near_place p text = omega arith in
    sym (position_or_len_is p text (near_place p text) 0 (omega arith)
    (near_fails p text long some) (λ _. subst (λ k. p (slice_index text k) ≡ true) here stops))

-- where no bit is set, none of them passes
pub near_none : (p : ℕ → Bool) (text : List ℕ) → 16 ≤ length text → near_mask p text ≡ 0
    → (k : ℕ) → k < 16 → p (slice_index text k) ≡ false
near_none p text long none k lt =
    none_from_empty_mask p text 0 16 0 long none k (omega arith) (omega arith)

space_or : (space tab : Bool) → not space ≡ false → (space || tab) ≡ true
space_or true tab is = refl
space_or false tab is = absurd cc

-- a byte is blank that isn't other than a space
pub space_blank : (b : ℕ) → not (eqb b 32) ≡ false → is_blank b ≡ true
space_blank b is = space_or (eqb b 32) (eqb b 9) is
