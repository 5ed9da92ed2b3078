-- Columns that can begin at different depths whatever one of the first one's cells is.
use Rattle.std.proofs.Common.{◌≡◌, ◌≢◌, inl, inr, ◌==◌, Bool, true, false, ℕ, ◌<◌, ◌^◌, ℤ, pos, negsuc, ◌≤ℤ◌, Option, None, bit_and, w64, refl, ap, sym, ◌∙◌, arith}
use Rattle.std.specs.Int.{bit_not}
use Rattle.std.specs.Int.Bits.{and_lt}
use Rattle.std.proofs.lemmas.Bool.{cases_Bool, cases_lt, eqb-true, eqb-false, both_ways}
use Rattle.std.proofs.lemmas.Int.{ints}
use Rattle.solid_model.specs.Known.{known_bits, LiesWithin}
use Rattle.solid_model.proofs.KnownColumns.{Fits, fits_to, fits_from, same_first_down_to}
use Rattle.line_demands.specs.Doubted.{CanDrawWith}
use Rattle.line_demands.proofs.ValueBits.{bit, undecided_bits, undecided_within, open_bits, clear_there, clear_kept}
use Rattle.solid_model.specs.declared.segment.Style.TheVariants.{Solid}
use Rattle.lemmas.specs.Bits.{is_set, bits}
use Rattle.solid_model.specs.Demands.{AgreesWith, CanDraw}
use Rattle.solid_model.proofs.FirstBits.{solid_from_zeros}
use Rattle.lemmas.proofs.WordBits.{zeros, zeros_of_none, not_zero, lowest_set, below_lowest, lowest_at_most, lowest_at_least}

-- the bits of a number between what is full for certain and what may be full agree with what is known
pub bits_agree : (full may n : ℕ) → ((k : ℕ) → is_set full k ≡ true → is_set n k ≡ true) → ((k : ℕ) → is_set n k ≡ true → is_set may k ≡ true) → AgreesWith (known_bits full may) (bits n)
bits_agree full may n certain allowed = fits_to full may (bits n) record { certain = certain; allowed = allowed; below = λ k. refl }

module _ (fa ma fb mb : ℕ) (a_within : LiesWithin fa ma) (b_within : LiesWithin fb mb) (fa_fits : fa < 2 ^ 64) (ma_fits : ma < 2 ^ 64) (fb_fits : fb < 2 ^ 64) (mb_fits : mb < 2 ^ 64) where
  abbrev known : ℤ → Option Bool
  known = known_bits fa ma

  abbrev other : ℤ → Option Bool
  other = known_bits fb mb

  full_agrees : AgreesWith known (bits fa)
  full_agrees = bits_agree fa ma fa (λ k e. e) a_within

  may_agrees : AgreesWith known (bits ma)
  may_agrees = bits_agree fa ma ma a_within (λ k e. e)

  -- beside a number whose lowest bit is another one
  with_bits : (n m : ℕ) → n < 2 ^ 64 → m < 2 ^ 64 → AgreesWith known (bits n) → AgreesWith other (bits m) → (k : ℕ) (v : Bool) → is_set n k ≡ v → zeros n ≢ zeros m → CanDrawWith known other Solid k v
  with_bits n m l l' fits too k v is apart = (bits n, bits m, fits, too, is, solid_from_zeros n m l l' apart)

  -- the least and the greatest column that agree with what is known, where a cell is undecided
  some_column : (k : ℕ) (v : Bool) → known (pos k) ≡ None → (n : ℕ) × (n < 2 ^ 64) × AgreesWith known (bits n) × (is_set n k ≡ v)
  some_column k true none = (ma, ma_fits, may_agrees, (undecided_bits fa ma k none).1)
  some_column k false none = (fa, fa_fits, full_agrees, (undecided_bits fa ma k none).0)

  -- beside a column that can begin at two depths
  pub free_beside : zeros fb ≢ zeros mb → (k : ℕ) (v : Bool) → known (pos k) ≡ None → CanDrawWith known other Solid k v
  free_beside two k v none =
      let (n, l, fits, is) = some_column k v none in
      elim (cases_Bool (zeros n == zeros fb)) as (λ _. CanDrawWith known other Solid k v) [
        | inl same ↦ with_bits n mb l mb_fits fits (bits_agree fb mb mb b_within (λ j e. e)) k v is (λ e. two (sym (eqb-true (zeros n) (zeros fb) same) ∙ e))
        | inr off ↦ with_bits n fb l fb_fits fits (bits_agree fb mb fb (λ j e. e) b_within) k v is (eqb-false (zeros n) (zeros fb) off)
      ]

  -- ---- beside one that begins at a certain depth, or is empty for certain

  abbrev least : AgreesWith other (bits fb)
  least = bits_agree fb mb fb (λ j e. e) b_within

  -- where that depth is neither the nearest nor the farthest at which the column can begin
  pub free_off : zeros ma ≢ zeros fb → zeros fa ≢ zeros fb → (k : ℕ) (v : Bool) → known (pos k) ≡ None → CanDrawWith known other Solid k v
  free_off nearest farthest k true none = with_bits ma fb ma_fits fb_fits may_agrees least k true (undecided_bits fa ma k none).1 nearest
  free_off nearest farthest k false none = with_bits fa fb fa_fits fb_fits full_agrees least k false (undecided_bits fa ma k none).0 farthest

  -- the cells that may be full but for an undecided one
  module _ (d : ℕ) (none : known (pos d) ≡ None) where
    abbrev without : ℕ
    without = bit_and ma (bit_not w64 (bit d))

    within_word : d < 64
    within_word = undecided_within fa ma d ma_fits none

    fits : without < 2 ^ 64
    fits = and_lt 64 ma (bit_not w64 (bit d)) ma_fits (omega arith)

    gone : is_set without d ≡ false
    gone = clear_there fa ma d a_within within_word ma_fits none

    kept : (j : ℕ) → j ≢ d → is_set without j ≡ is_set ma j
    kept j off = clear_kept fa ma d a_within within_word ma_fits none j off

    inside : (j : ℕ) → is_set without j ≡ true → is_set ma j ≡ true
    inside j set = elim (cases_Bool (j == d)) as (λ _. is_set ma j ≡ true) [
      | inl at ↦ absurd (both_ways (is_set without d) gone (ap (is_set without) (sym (eqb-true j d at)) ∙ set))
      | inr off ↦ sym (kept j (eqb-false j d off)) ∙ set
    ]

    agrees : AgreesWith known (bits without)
    agrees = bits_agree fa ma without certain inside
      where
        certain : (j : ℕ) → is_set fa j ≡ true → is_set without j ≡ true
        certain j set = elim (cases_Bool (j == d)) as (λ _. is_set without j ≡ true) [
          | inl at ↦ absurd (both_ways (is_set fa d) (undecided_bits fa ma d none).0 (ap (is_set fa) (sym (eqb-true j d at)) ∙ set))
          | inr off ↦ kept j (eqb-false j d off) ∙ a_within j set
        ]

    -- they begin where all of them do, unless it is the first one
    begin_kept : zeros ma < d → zeros without ≡ zeros ma
    begin_kept below =
        let low = lowest_set ma ma_fits (not_zero ma d (undecided_bits fa ma d none).1) in
        let at_most = lowest_at_most without fits (zeros ma) (kept (zeros ma) (λ e. (omega (arith, e, below))) ∙ low.0) in
        let at_least = lowest_at_least without fits (zeros ma) low.1 (λ j l. clear j (below_lowest ma ma_fits j l)) in
        omega (arith, at_most, at_least)
      where
        clear : (j : ℕ) → is_set ma j ≡ false → is_set without j ≡ false
        clear j off = elim (cases_Bool (is_set without j)) as (λ _. is_set without j ≡ false) [
          | inl set ↦ absurd (both_ways (is_set ma j) off (inside j set))
          | inr e ↦ e
        ]

  -- Where both begin at one depth for certain, they don't begin at different ones.
  both_certain : zeros ma ≡ zeros fb → zeros fb ≡ zeros mb → ma ≢ 0 → is_set fa (zeros ma) ≡ true → CanDraw known other Solid → ⊥
  both_certain here certain some set (a, b, agrees, agrees_too, apart) =
      apart (same_first_down_to a b (zeros ma) same (a_fits.certain (zeros ma) set))
    where
      a_fits : Fits fa ma a
      a_fits = fits_from fa ma a a_within agrees

      b_fits : Fits fb mb b
      b_fits = fits_from fb mb b b_within agrees_too

      low : zeros ma < 64
      low = (lowest_set ma ma_fits some).1

      b_set : is_set fb (zeros ma) ≡ true
      b_set = ap (is_set fb) here ∙ (lowest_set fb fb_fits (λ e. (let all = zeros_of_none fb e in let l = low in omega (arith, all, l, here)))).0

      empty : (full may : ℕ) (column : ℤ → Bool) → Fits full may column → may < 2 ^ 64 → (i : ℕ) → i < zeros may → column (pos i) ≡ false
      empty full may column c_fits fits i l = elim (cases_Bool (column (pos i))) as (λ _. column (pos i) ≡ false) [
        | inl is ↦ absurd (both_ways (is_set may i) (below_lowest may fits i l) (c_fits.allowed i is))
        | inr e ↦ e
      ]

      same : (j : ℤ) → j ≤ℤ pos (zeros ma) → a j ≡ b j
      same (negsuc j) l = a_fits.below j ∙ sym (b_fits.below j)
      same (pos j) l = elim (cases_lt j (zeros ma)) as (λ _. a (pos j) ≡ b (pos j)) [
        | inl m ↦ empty fa ma a a_fits ma_fits j m ∙ sym (empty fb mb b b_fits mb_fits j (omega (arith, m, here, certain)))
        | inr m ↦ (let at : j ≡ zeros ma = omega (arith, ints) in ap (λ n. a (pos n)) at ∙ a_fits.certain (zeros ma) set ∙ sym (ap (λ n. b (pos n)) at ∙ b_fits.certain (zeros ma) b_set))
      ]

  -- A cell behind the first one that may be full can have either value.
  pub free_later : zeros fb ≡ zeros mb → CanDraw known other Solid → (k j : ℕ) (v : Bool) → known (pos k) ≡ None → j < k → is_set ma j ≡ true → CanDrawWith known other Solid k v
  free_later certain drawn k j v none below there = elim (cases_Bool (zeros ma == zeros fb)) as (λ _. CanDrawWith known other Solid k v) [
    | inr off ↦ apart v (eqb-false (zeros ma) (zeros fb) off)
    | inl at ↦ same v (eqb-true (zeros ma) (zeros fb) at)
  ]
    where
      begins : zeros ma < k
      begins = let low = lowest_at_most ma ma_fits j there in omega (arith, low, below)

      apart : (v : Bool) → zeros ma ≢ zeros fb → CanDrawWith known other Solid k v
      apart true off = with_bits ma fb ma_fits fb_fits may_agrees least k true (undecided_bits fa ma k none).1 off
      apart false off = with_bits (without k none) fb (fits k none) fb_fits (agrees k none) least k false (gone k none) (λ e. off (sym (begin_kept k none begins) ∙ e))

      first_set : is_set ma (zeros ma) ≡ true
      first_set = (lowest_set ma ma_fits (not_zero ma j there)).0

      same : (v : Bool) → zeros ma ≡ zeros fb → CanDrawWith known other Solid k v
      same v here = by v
        where
          first_open : is_set fa (zeros ma) ≡ false
          first_open = elim (cases_Bool (is_set fa (zeros ma))) as (λ _. is_set fa (zeros ma) ≡ false) [
            | inl set ↦ absurd (both_certain here certain (not_zero ma j there) set drawn)
            | inr e ↦ e
          ]

          first_none : known (pos (zeros ma)) ≡ None
          first_none = open_bits fa ma (zeros ma) first_set first_open

          later : is_set (without (zeros ma) first_none) k ≡ true
          later = kept (zeros ma) first_none k (λ e. (let l = begins in omega (arith, l, e))) ∙ (undecided_bits fa ma k none).1

          by : (v : Bool) → CanDrawWith known other Solid k v
          by true = with_bits (without (zeros ma) first_none) fb (fits (zeros ma) first_none) fb_fits (agrees (zeros ma) first_none) least k true later
              (λ e. both_ways (is_set (without (zeros ma) first_none) (zeros ma)) (gone (zeros ma) first_none)
              (ap (is_set (without (zeros ma) first_none)) (here ∙ sym e) ∙ (lowest_set (without (zeros ma) first_none) (fits (zeros ma) first_none) (not_zero (without (zeros ma) first_none) k later)).0))
          by false = with_bits fa fb fa_fits fb_fits full_agrees least k false (undecided_bits fa ma k none).0
              (λ e. both_ways (is_set fa (zeros ma)) first_open (ap (is_set fa) (here ∙ sym e) ∙ (lowest_set fa fa_fits
              (λ n. (let all = zeros_of_none fa n in let low = (lowest_set ma ma_fits (not_zero ma j there)).1 in omega (arith, all, low, here, e)))).0))
