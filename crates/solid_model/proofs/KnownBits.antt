-- The masks of what is known of two columns tell which styles they can draw.
use Rattle.std.proofs.Common.{pow-add, ◌≡◌, ◌≢◌, ◌⊎◌, inl, inr, Bool, true, false, not, ◌&&◌, ◌||◌, ◌==◌, ℕ, zero, suc, ◌+◌, ◌-◌, ◌*◌, ◌/◌, ◌%◌, ◌<◌, ◌≤◌, ◌^◌, bit_or, w64, ℤ, pos, negsuc, ◌≤ℤ◌, ◌<ℤ◌, refl, ap, ap₂, sym, subst, ◌∙◌, arith}
use Rattle.std.specs.Int.{bit_at}
use Rattle.std.proofs.lemmas.Bool.{both_ways, cases_lt, cases_Bool, and_parts, and_from, or_cases, or_left, or_right, not-true, not_from_false, false_from_ne_true}
use Rattle.std.proofs.lemmas.Int.{ints}
use Rattle.std.proofs.Math.Nat.{div-div-eq-div-mul, mul_assoc}
use Rattle.std.proofs.lemmas.Nat.Bits.{bit_at-zero, bit_at-lt, bit_at-trailing_zeros, same_from_bits}
use Rattle.solid_model.specs.declared.segment.Style.TheVariants.{Blank, Dashed, Solid}
use Rattle.lemmas.specs.Bits.{is_set}
use Rattle.solid_model.specs.Columns.{IsFirstFull, HaveSameFirstFull}
use Rattle.solid_model.specs.Demands.{CanDraw}
use Rattle.solid_model.specs.Known.{known_bits, LiesWithin}
use Rattle.lemmas.proofs.WordBits.{set_either, not_zero, zeros, zeros_of_none, lowest_set, below_lowest, lowest_at_most, lowest_at_least}
use Rattle.solid_model.proofs.KnownColumns.{Fits, fits_from, draw_blank, draw_solid, draw_dashed, same_first_back, same_first_down_to, differ_at, same_at}

-- ---- bits of masks

-- a number without any bit is 0
all_clear : (n : ℕ) → ((k : ℕ) → is_set n k ≡ false) → n ≡ 0
all_clear n clear = same_from_bits n 0 (λ k. none (bit_at n k) (bit_at-lt n k) (clear k) ∙ sym (bit_at-zero k))
  where
    none : (x : ℕ) → x < 2 → (x == 1) ≡ false → x ≡ 0
    none x l e = grind arith

-- behind the bit d and one more, the bits are the farther ones
pub behind : (n d i : ℕ) → is_set (n / 2 ^ d / 2) i ≡ is_set n (d + 1 + i)
behind n d i = ap (λ x. x % 2 == 1) (div-div-eq-div-mul (n / 2 ^ d) 2 (2 ^ i) ∙ div-div-eq-div-mul n (2 ^ d) (2 * 2 ^ i)
    ∙ ap (λ x. n / x) (sym (mul_assoc (2 ^ d) 2 (2 ^ i)) ∙ ap (λ x. x * 2 ^ i) (sym (pow-add 2 d 1)) ∙ sym (pow-add 2 (d + 1) i)))

-- ---- the lowest bit

-- some bit of a number that isn't 0 is set
pub some_bit : (n : ℕ) → n < 2 ^ 64 → n ≢ 0 → (k : ℕ) × (is_set n k ≡ true)
some_bit n fits some = (zeros n, (lowest_set n fits some).0)

-- a column that is empty before depth 0 has a first full depth before a given one, or is empty down to it
pub first_before : (c : ℤ → Bool) → ((k : ℕ) → c (negsuc k) ≡ false) → (n : ℕ)
    → ((d : ℕ) × (d < n) × IsFirstFull c (pos d)) ⊎ ((k : ℕ) → k < n → c (pos k) ≡ false)
first_before c empty zero = inr (λ k l. absurd (omega arith))
first_before c empty (suc n) = at (first_before c empty n) (c (pos n)) refl
  where
    at : ((d : ℕ) × (d < n) × IsFirstFull c (pos d)) ⊎ ((k : ℕ) → k < n → c (pos k) ≡ false) → (x : Bool) → c (pos n) ≡ x
        → ((d : ℕ) × (d < suc n) × IsFirstFull c (pos d)) ⊎ ((k : ℕ) → k < suc n → c (pos k) ≡ false)
    at (inl found) x is = inl (found.0, omega (arith, found.1), found.2)
    at (inr none) true is = inl (n, omega arith, (is, nearer))
      where
        nearer : (k : ℤ) → k <ℤ pos n → c k ≡ false
        nearer (pos k) l = none k (omega (arith, ints))
        nearer (negsuc k) l = empty k
    at (inr none) false is = inr (λ k l. elim (cases_lt k n) as (λ _. c (pos k) ≡ false) [
      | inl m ↦ none k m
      | inr m ↦ (let e : k ≡ n = omega arith in ap (λ j. c (pos j)) e ∙ is)
    ])

-- ---- styles

-- which of two numbers a bit of both together comes from
neither_set : (a b : ℕ) → a < 2 ^ 64 → b < 2 ^ 64 → bit_or a b < 2 ^ 64 → (d : ℕ) → d ≤ zeros (bit_or a b) → (k : ℕ) → k < d → (is_set a k ≡ false) × (is_set b k ≡ false)
neither_set a b l m both d near k below =
    let clear = below_lowest (bit_or a b) both k (omega arith) in (
      false_from_ne_true (is_set a k) (λ set. both_ways (is_set (bit_or a b) k) clear (set_either a b k ∙ or_left (is_set a k) (is_set b k) set)),
      false_from_ne_true (is_set b k) (λ set. both_ways (is_set (bit_or a b) k) clear (set_either a b k ∙ or_right (is_set a k) (is_set b k) set)),
    )

module _ (fa ma fb mb : ℕ) (a_within : LiesWithin fa ma) (b_within : LiesWithin fb mb) where
  -- what the one column must be and the other one can't, and the other way round
  module _ (w x : ℕ) (w_is : (k : ℕ) → is_set w k ≡ (is_set fa k && not (is_set mb k))) (x_is : (k : ℕ) → is_set x k ≡ (is_set fb k && not (is_set ma k))) where
    -- Blank can be drawn where there is no such depth,
    pub blank_from : bit_or w x ≡ 0 → CanDraw (known_bits fa ma) (known_bits fb mb) Blank
    blank_from none = draw_blank fa ma fb mb a_within b_within
        (λ k set. free fa mb w w_is (λ j at. set_either w x j ∙ or_left (is_set w j) (is_set x j) at) k set)
        (λ k set. free fb ma x x_is (λ j at. set_either w x j ∙ or_right (is_set w j) (is_set x j) at) k set)
      where
        free : (f m y : ℕ) → ((k : ℕ) → is_set y k ≡ (is_set f k && not (is_set m k))) → ((k : ℕ) → is_set y k ≡ true → is_set (bit_or w x) k ≡ true)
            → (k : ℕ) → is_set f k ≡ true → is_set m k ≡ true
        free f m y y_is in_both k set = elim (cases_Bool (is_set m k)) as (λ _. is_set m k ≡ true) [
          | inl may ↦ may
          | inr not_may ↦ absurd (not_zero (bit_or w x) k (in_both k (y_is k ∙ and_from (is_set f k) (not (is_set m k)) set (not_from_false (is_set m k) not_may))) none)
        ]

    -- and only there
    pub blank_to : CanDraw (known_bits fa ma) (known_bits fb mb) Blank → bit_or w x ≡ 0
    blank_to drawn = all_clear (bit_or w x) (λ k. false_from_ne_true (is_set (bit_or w x) k) (λ set.
        elim (or_cases (is_set w k) (is_set x k) (sym (set_either w x k) ∙ set)) as (λ _. ⊥) [
          | inl at ↦ clash fa mb drawn.0 drawn.1 (fits_from fa ma drawn.0 a_within drawn.2).certain (fits_from fb mb drawn.1 b_within drawn.3).allowed k (drawn.4 (pos k)) (sym (w_is k) ∙ at)
          | inr at ↦ clash fb ma drawn.1 drawn.0 (fits_from fb mb drawn.1 b_within drawn.3).certain (fits_from fa ma drawn.0 a_within drawn.2).allowed k (sym (drawn.4 (pos k))) (sym (x_is k) ∙ at)
        ]))
      where
        clash : (f m : ℕ) (c d : ℤ → Bool) → ((k : ℕ) → is_set f k ≡ true → c (pos k) ≡ true) → ((k : ℕ) → d (pos k) ≡ true → is_set m k ≡ true)
            → (k : ℕ) → c (pos k) ≡ d (pos k) → (is_set f k && not (is_set m k)) ≡ true → ⊥
        clash f m c d certain allowed k same at =
            let parts = and_parts (is_set f k) (not (is_set m k)) at in
            both_ways (is_set m k) (not-true (is_set m k) parts.1) (allowed k (sym same ∙ certain k parts.0))

  module _ (differ : ℕ) (fa_fits : fa < 2 ^ 64) (fb_fits : fb < 2 ^ 64) (full_fits : bit_or fa fb < 2 ^ 64) (d_fits : differ < 2 ^ 64)
      (differ_is : (k : ℕ) → is_set differ k ≡ ((is_set ma k && not (is_set fb k)) || (is_set mb k && not (is_set fa k)))) where
    abbrev first : ℕ
    first = zeros (bit_or fa fb)

    -- Solid can be drawn where no cell is full for certain down to the first depth at which the two can differ,
    pub solid_from : differ ≢ 0 → zeros differ ≤ first → CanDraw (known_bits fa ma) (known_bits fb mb) Solid
    solid_from some near =
        let d : ℕ = zeros differ in
        let clear : (k : ℕ) → k < d → (is_set fa k ≡ false) × (is_set fb k ≡ false) = neither_set fa fb fa_fits fb_fits full_fits d near in
        elim (or_cases (is_set ma d && not (is_set fb d)) (is_set mb d && not (is_set fa d)) (sym (differ_is d) ∙ (lowest_set differ d_fits some).0)) as (λ _. CanDraw (known_bits fa ma) (known_bits fb mb) Solid) [
          | inl at ↦ (let parts = and_parts (is_set ma d) (not (is_set fb d)) at in
              draw_solid fa ma fb mb a_within b_within d parts.0 (not-true (is_set fb d) parts.1) (λ k l. (clear k l).0))
          | inr at ↦ (let parts = and_parts (is_set mb d) (not (is_set fa d)) at in
              let back = draw_solid fb mb fa ma b_within a_within d parts.0 (not-true (is_set fa d) parts.1) (λ k l. (clear k l).1) in
              (back.1, back.0, back.3, back.2, λ same. back.4 (same_first_back back.1 back.0 same)))
        ]

    -- Dashed where both may be full at some depth, down to the first of which no cell is full for certain, and they can
    -- differ farther away,
    pub dashed_from : (both : ℕ) → both < 2 ^ 64 → ((k : ℕ) → is_set both k ≡ (is_set ma k && is_set mb k)) → both ≢ 0 → zeros both ≤ first
        → differ / 2 ^ zeros both / 2 ≢ 0 → differ / 2 ^ zeros both / 2 < 2 ^ 64 → CanDraw (known_bits fa ma) (known_bits fb mb) Dashed
    dashed_from both both_fits both_is some near far far_fits =
        let d : ℕ = zeros both in
        let clear : (k : ℕ) → k < d → (is_set fa k ≡ false) × (is_set fb k ≡ false) = neither_set fa fb fa_fits fb_fits full_fits d near in
        let begin = and_parts (is_set ma d) (is_set mb d) (sym (both_is d) ∙ (lowest_set both both_fits some).0) in
        let farther = some_bit (differ / 2 ^ d / 2) far_fits far in
        let e : ℕ = d + 1 + farther.0 in
        let is_farther : d < e = omega arith in
        elim (or_cases (is_set ma e && not (is_set fb e)) (is_set mb e && not (is_set fa e)) (sym (differ_is e) ∙ sym (behind differ d farther.0) ∙ farther.1)) as (λ _. CanDraw (known_bits fa ma) (known_bits fb mb) Dashed) [
          | inl at ↦ (let parts = and_parts (is_set ma e) (not (is_set fb e)) at in
              draw_dashed fa ma fb mb a_within b_within d e is_farther begin.0 begin.1 (λ k l. (clear k l).0) (λ k l. (clear k l).1) parts.0 (not-true (is_set fb e) parts.1))
          | inr at ↦ (let parts = and_parts (is_set mb e) (not (is_set fa e)) at in
              let back = draw_dashed fb mb fa ma b_within a_within d e is_farther begin.1 begin.0 (λ k l. (clear k l).1) (λ k l. (clear k l).0) parts.0 (not-true (is_set fa e) parts.1) in
              (back.1, back.0, back.3, back.2, ((back.4.0.0, λ same. back.4.0.1 (sym same)), same_first_back back.0 back.1 back.4.1)))
        ]

    -- ---- and only there

    module _ (a b : ℤ → Bool) (a_fits : Fits fa ma a) (b_fits : Fits fb mb b) where
      same_where : (k : ℕ) → is_set differ k ≡ false → a (pos k) ≡ b (pos k)
      same_where k clear = same_at fa ma fb mb a b a_fits b_fits k (λ can. both_ways (is_set differ k) clear (differ_is k ∙ can))

      -- down to a depth down to which they can't differ they are equal
      same_down_to : (n : ℕ) → ((k : ℕ) → k ≤ n → is_set differ k ≡ false) → (k : ℤ) → k ≤ℤ pos n → a k ≡ b k
      same_down_to n clear (negsuc k) l = a_fits.below k ∙ sym (b_fits.below k)
      same_down_to n clear (pos k) l = same_where k (clear k (omega (arith, ints)))

      -- down to the first depth of a cell that is full for certain they could else not differ
      solid_near : (HaveSameFirstFull a b → ⊥) → zeros differ ≤ first
      solid_near apart = elim (cases_lt first (zeros differ)) as (λ _. zeros differ ≤ first) [
        | inr near ↦ near
        | inl l ↦ absurd (apart (elim (or_cases (is_set fa first) (is_set fb first) (sym (set_either fa fb first) ∙ (lowest_set (bit_or fa fb) full_fits (λ none. some none l)).0)) as (λ _. HaveSameFirstFull a b) [
          | inl at ↦ same_first_down_to a b first (equal l) (a_fits.certain first at)
          | inr at ↦ same_first_down_to a b first (equal l) (equal l (pos first) (omega (arith, ints)) ∙ b_fits.certain first at)
        ]))
      ]
        where
          equal : first < zeros differ → (k : ℤ) → k ≤ℤ pos first → a k ≡ b k
          equal l = same_down_to first (λ k m. below_lowest differ d_fits k (omega arith))

          at_most : zeros differ ≤ 64
          at_most = elim (cases_lt 0 differ) as (λ _. zeros differ ≤ 64) [
            | inl more ↦ (let l = (bit_at-trailing_zeros w64 differ more d_fits).0 in omega arith)
            | inr none ↦ (let e = zeros_of_none differ (omega arith) in omega arith)
          ]

          some : bit_or fa fb ≡ 0 → first < zeros differ → ⊥
          some none l = let e = zeros_of_none (bit_or fa fb) none in omega (arith, at_most)

      solid_some : (HaveSameFirstFull a b → ⊥) → differ ≢ 0
      solid_some apart none = apart (λ k. (other a b equal k, other b a (λ j. sym (equal j)) k))
        where
          equal : (k : ℤ) → a k ≡ b k
          equal (negsuc k) = a_fits.below k ∙ sym (b_fits.below k)
          equal (pos k) = same_where k (ap (λ b. b == 1) (ap (λ m. bit_at m k) none ∙ bit_at-zero k))

          other : (c d : ℤ → Bool) → ((k : ℤ) → c k ≡ d k) → (k : ℤ) → IsFirstFull c k → IsFirstFull d k
          other c d e k is = (sym (e k) ∙ is.0, λ j l. sym (e j) ∙ is.1 j l)

      -- where they begin at one depth and differ at a farther one
      dashed_at : (both : ℕ) → both < 2 ^ 64 → ((k : ℕ) → is_set both k ≡ (is_set ma k && is_set mb k)) → (d e : ℕ) → d < e
          → IsFirstFull a (pos d) → IsFirstFull b (pos d) → a (pos e) ≢ b (pos e)
          → (both ≢ 0) × (zeros both ≤ first) × (differ / 2 ^ zeros both / 2 ≢ 0)
      dashed_at both both_fits both_is d e far a_first b_first other = (some, near, not_zero (differ / 2 ^ zeros both / 2) (e - (zeros both + 1)) set)
        where
          shared : is_set both d ≡ true
          shared = both_is d ∙ and_from (is_set ma d) (is_set mb d) (a_fits.allowed d a_first.0) (b_fits.allowed d b_first.0)

          some : both ≢ 0
          some = not_zero both d shared

          at_most : zeros both ≤ d
          at_most = lowest_at_most both both_fits d shared

          near : zeros both ≤ first
          near = lowest_at_least (bit_or fa fb) full_fits (zeros both) (lowest_set both both_fits some).1 (λ k l.
              let below : pos k <ℤ pos d = (let m = at_most in omega (arith, ints)) in
              set_either fa fb k ∙ ap₂ ◌||◌
              (false_from_ne_true (is_set fa k) (λ at. both_ways (a (pos k)) (a_first.1 (pos k) below) (a_fits.certain k at)))
              (false_from_ne_true (is_set fb k) (λ at. both_ways (b (pos k)) (b_first.1 (pos k) below) (b_fits.certain k at))))

          set : is_set (differ / 2 ^ zeros both / 2) (e - (zeros both + 1)) ≡ true
          set = behind differ (zeros both) (e - (zeros both + 1))
              ∙ ap (is_set differ) (let m = at_most in let there : zeros both + 1 + (e - (zeros both + 1)) ≡ e = omega arith in there)
              ∙ differ_is e ∙ differ_at fa ma fb mb a b a_fits b_fits e other

      dashed_far : (both : ℕ) → both < 2 ^ 64 → ((k : ℕ) → is_set both k ≡ (is_set ma k && is_set mb k)) → HaveSameFirstFull a b
          → (z : ℤ) → a z ≢ b z → (both ≢ 0) × (zeros both ≤ first) × (differ / 2 ^ zeros both / 2 ≢ 0)
      dashed_far both both_fits both_is same (negsuc k) other = absurd (other (a_fits.below k ∙ sym (b_fits.below k)))
      dashed_far both both_fits both_is same (pos e) other = at (first_before a a_fits.below (suc e)) (first_before b b_fits.below (suc e))
        where
          begin : (d : ℕ) → d < suc e → IsFirstFull a (pos d) → IsFirstFull b (pos d) → (both ≢ 0) × (zeros both ≤ first) × (differ / 2 ^ zeros both / 2 ≢ 0)
          begin d l a_first b_first = elim (cases_lt d e) as (λ _. (both ≢ 0) × (zeros both ≤ first) × (differ / 2 ^ zeros both / 2 ≢ 0)) [
            | inl far ↦ dashed_at both both_fits both_is d e far a_first b_first other
            | inr last ↦ (let there : d ≡ e = omega arith in absurd (other (subst (λ k. a (pos k) ≡ b (pos k)) there (a_first.0 ∙ sym b_first.0))))
          ]

          at : ((d : ℕ) × (d < suc e) × IsFirstFull a (pos d)) ⊎ ((k : ℕ) → k < suc e → a (pos k) ≡ false)
              → ((d : ℕ) × (d < suc e) × IsFirstFull b (pos d)) ⊎ ((k : ℕ) → k < suc e → b (pos k) ≡ false)
              → (both ≢ 0) × (zeros both ≤ first) × (differ / 2 ^ zeros both / 2 ≢ 0)
          at (inl found) _ = begin found.0 found.1 found.2 ((same (pos found.0)).0 found.2)
          at (inr none) (inl found) = begin found.0 found.1 ((same (pos found.0)).1 found.2) found.2
          at (inr none) (inr empty) = absurd (other (none e (omega arith) ∙ sym (empty e (omega arith))))

    pub dashed_to : (both : ℕ) → both < 2 ^ 64 → ((k : ℕ) → is_set both k ≡ (is_set ma k && is_set mb k)) → CanDraw (known_bits fa ma) (known_bits fb mb) Dashed
        → (both ≢ 0) × (zeros both ≤ first) × (differ / 2 ^ zeros both / 2 ≢ 0)
    dashed_to both both_fits both_is drawn =
        dashed_far drawn.0 drawn.1 (fits_from fa ma drawn.0 a_within drawn.2) (fits_from fb mb drawn.1 b_within drawn.3) both both_fits both_is drawn.4.1 drawn.4.0.0 drawn.4.0.1

    pub solid_to : CanDraw (known_bits fa ma) (known_bits fb mb) Solid → (differ ≢ 0) × (zeros differ ≤ first)
    solid_to drawn =
        let a_fits = fits_from fa ma drawn.0 a_within drawn.2 in
        let b_fits = fits_from fb mb drawn.1 b_within drawn.3 in
        (solid_some drawn.0 drawn.1 a_fits b_fits drawn.4, solid_near drawn.0 drawn.1 a_fits b_fits drawn.4)
