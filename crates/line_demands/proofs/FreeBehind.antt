-- Columns that can begin at one depth and differ behind it, whatever one of their cells is.
use Rattle.std.proofs.Common.{◌≡◌, ◌≢◌, ◌⊎◌, inl, inr, ◌==◌, ◌||◌, ◌&&◌, Bool, true, false, not, ℕ, suc, ◌<◌, ◌≤◌, ◌^◌, ◌↔◌, ℤ, pos, negsuc, Option, Some, None, bit_and, refl, ap, sym, subst, ◌∙◌, arith}
use Rattle.std.proofs.lemmas.Bool.{cases_Bool, cases_lt, eqb-true, eqb-false, both_ways, and_parts, and_from, or_cases, or_left, or_right, not-true, not_from_false}
use Rattle.std.proofs.lemmas.Int.{ints}
use Rattle.std.proofs.lemmas.Option.{none-some, same_Some}
use Rattle.solid_model.specs.Known.{known_of, known_bits, LiesWithin}
use Rattle.solid_model.proofs.KnownBits.{some_bit, first_before}
use Rattle.solid_model.proofs.KnownColumns.{Fits, fits_from}
use Rattle.line_demands.specs.Doubted.{CanDrawWith, CanDrawEmpty}
use Rattle.line_demands.proofs.LowestLeft.{set_within}
use Rattle.line_demands.proofs.ValueBits.{undecided_within}
use Rattle.line_demands.proofs.Replaced.{Allows, allows_open, Begin, begin_nearer, dashed_with}
use Rattle.solid_model.specs.declared.segment.Style.TheVariants.{Dashed}
use Rattle.lemmas.specs.Bits.{is_set, near}
use Rattle.solid_model.specs.Columns.{IsFirstFull, HaveSameFirstFull}
use Rattle.solid_model.specs.Demands.{AgreesWith, CanDraw}
use Rattle.lemmas.proofs.NearBits.{near_to, near_from}
use Rattle.lemmas.proofs.WordBits.{zeros, set_both, not_zero, lowest_set, lowest_at_most}

-- they can differ behind the depth though a cell has a value
abbrev PartsAt : (ℤ → Option Bool) → (ℤ → Option Bool) → ℕ → ℕ → Bool → Type 0
PartsAt known other d k v = (e : ℕ) × (x : Bool) × (d < e) × Allows known e x × Allows other e (not x) × (k ≡ e → x ≡ v)

-- a cell that may be full can be, and one that isn't full for certain can be empty
pub allows_full : (full may k : ℕ) → is_set may k ≡ true → Allows (known_bits full may) k true
allows_full full may k set w = by (is_set full k) (is_set may k) set
  where
    by : (f m : Bool) → m ≡ true → known_of f m ≡ Some w → true ≡ w
    by true m s e = same_Some true w e
    by false true s e = absurd (none-some w e)
    by false false s e = absurd (both_ways false refl s)

pub allows_empty : (full may k : ℕ) → is_set full k ≡ false → Allows (known_bits full may) k false
allows_empty full may k clear w = by (is_set full k) (is_set may k) clear
  where
    by : (f m : Bool) → f ≡ false → known_of f m ≡ Some w → false ≡ w
    by true m c e = absurd (both_ways true c refl)
    by false true c e = absurd (none-some w e)
    by false false c e = same_Some false w e

-- two columns can differ at a depth
abbrev MayDiffer : ℕ → ℕ → ℕ → ℕ → ℕ → Type 0
MayDiffer fa ma fb mb k = ((is_set ma k && not (is_set fb k)) || (is_set mb k && not (is_set fa k))) ≡ true

module _ (fa ma fb mb : ℕ) (a_within : LiesWithin fa ma) (b_within : LiesWithin fb mb) where
  abbrev known : ℤ → Option Bool
  known = known_bits fa ma

  abbrev other : ℤ → Option Bool
  other = known_bits fb mb

  -- columns that draw Dashed have a first full depth
  begins : (a b : ℤ → Bool) → AgreesWith known a → AgreesWith other b → (z : ℤ) → a z ≢ b z → HaveSameFirstFull a b → (d : ℕ) × IsFirstFull a (pos d) × IsFirstFull b (pos d)
  begins a b fits too z other_there same = at z other_there
    where
      a_fits : Fits fa ma a
      a_fits = fits_from fa ma a a_within fits

      b_fits : Fits fb mb b
      b_fits = fits_from fb mb b b_within too

      at : (z : ℤ) → a z ≢ b z → (d : ℕ) × IsFirstFull a (pos d) × IsFirstFull b (pos d)
      at (negsuc k) ne = absurd (ne (a_fits.below k ∙ sym (b_fits.below k)))
      at (pos e) ne = by (first_before a a_fits.below (suc e)) (first_before b b_fits.below (suc e))
        where
          by : ((d : ℕ) × (d < suc e) × IsFirstFull a (pos d)) ⊎ ((k : ℕ) → k < suc e → a (pos k) ≡ false)
              → ((d : ℕ) × (d < suc e) × IsFirstFull b (pos d)) ⊎ ((k : ℕ) → k < suc e → b (pos k) ≡ false)
              → (d : ℕ) × IsFirstFull a (pos d) × IsFirstFull b (pos d)
          by (inl found) _ = (found.0, found.2, (same (pos found.0)).0 found.2)
          by (inr none) (inl found) = (found.0, (same (pos found.0)).1 found.2, found.2)
          by (inr none) (inr empty) = absurd (ne (none e (omega arith) ∙ sym (empty e (omega arith))))

  -- so they can begin at the first depth at which both may be full
  pub begin_first : bit_and ma mb < 2 ^ 64 → CanDraw known other Dashed → Begin known other (zeros (bit_and ma mb))
  begin_first fits (a, b, agrees, too, ((z, ne), same)) =
      let (d, first, second) = begins a b agrees too z ne same in
      let a_fits = fits_from fa ma a a_within agrees in
      let b_fits = fits_from fb mb b b_within too in
      let there : is_set (bit_and ma mb) d ≡ true = set_both ma mb d ∙ and_from (is_set ma d) (is_set mb d) (a_fits.allowed d first.0) (b_fits.allowed d second.0) in
      let lowest = lowest_set (bit_and ma mb) fits (not_zero (bit_and ma mb) d there) in
      let parts = and_parts (is_set ma (zeros (bit_and ma mb))) (is_set mb (zeros (bit_and ma mb))) (sym (set_both ma mb (zeros (bit_and ma mb))) ∙ lowest.0) in
      begin_nearer known other a b agrees too (zeros (bit_and ma mb)) d (lowest_at_most (bit_and ma mb) fits d there) first second
      (allows_full fa ma (zeros (bit_and ma mb)) parts.0) (allows_full fb mb (zeros (bit_and ma mb)) parts.1)

  -- and they can differ behind it
  pub differ_behind : bit_and ma mb < 2 ^ 64 → CanDraw known other Dashed → (e : ℕ) × (zeros (bit_and ma mb) < e) × MayDiffer fa ma fb mb e
  differ_behind fits (a, b, agrees, too, ((z, ne), same)) = by z ne
    where
      a_fits : Fits fa ma a
      a_fits = fits_from fa ma a a_within agrees

      b_fits : Fits fb mb b
      b_fits = fits_from fb mb b b_within too

      not_certain : (full may : ℕ) (column : ℤ → Bool) → Fits full may column → (e : ℕ) → column (pos e) ≡ false → is_set full e ≡ false
      not_certain full may column c_fits e empty = elim (cases_Bool (is_set full e)) as (λ _. is_set full e ≡ false) [
        | inl set ↦ absurd (both_ways (column (pos e)) empty (c_fits.certain e set))
        | inr clear ↦ clear
      ]

      by : (z : ℤ) → a z ≢ b z → (e : ℕ) × (zeros (bit_and ma mb) < e) × MayDiffer fa ma fb mb e
      by (negsuc k) off = absurd (off (a_fits.below k ∙ sym (b_fits.below k)))
      by (pos e) off =
          let (d, first, second) = begins a b agrees too (pos e) off same in
          let there = set_both ma mb d ∙ and_from (is_set ma d) (is_set mb d) (a_fits.allowed d first.0) (b_fits.allowed d second.0) in
          let near = lowest_at_most (bit_and ma mb) fits d there in
          (e, far d near first second, differ (a (pos e)) (b (pos e)) refl refl off)
        where
          far : (d : ℕ) → zeros (bit_and ma mb) ≤ d → IsFirstFull a (pos d) → IsFirstFull b (pos d) → zeros (bit_and ma mb) < e
          far d near first second = elim (cases_lt d e) as (λ _. zeros (bit_and ma mb) < e) [
            | inl l ↦ omega (arith, near, l)
            | inr l ↦ absurd (elim (cases_lt e d) as (λ _. ⊥) [
              | inl m ↦ off (first.1 (pos e) (omega (arith, ints)) ∙ sym (second.1 (pos e) (omega (arith, ints))))
              | inr m ↦ (let at : e ≡ d = omega arith in off (ap (λ n. a (pos n)) at ∙ first.0 ∙ sym (ap (λ n. b (pos n)) at ∙ second.0)))
            ])
          ]

          differ : (x y : Bool) → a (pos e) ≡ x → b (pos e) ≡ y → x ≢ y → MayDiffer fa ma fb mb e
          differ true true x_is y_is ne = absurd (ne refl)
          differ false false x_is y_is ne = absurd (ne refl)
          differ true false x_is y_is ne = or_left (is_set ma e && not (is_set fb e)) (is_set mb e && not (is_set fa e))
              (and_from (is_set ma e) (not (is_set fb e)) (a_fits.allowed e x_is) (not_from_false (is_set fb e) (not_certain fb mb b b_fits e y_is)))
          differ false true x_is y_is ne = or_right (is_set ma e && not (is_set fb e)) (is_set mb e && not (is_set fa e))
              (and_from (is_set mb e) (not (is_set fa e)) (b_fits.allowed e y_is) (not_from_false (is_set fa e) (not_certain fa ma a a_fits e x_is)))

  -- ---- where they can differ though a cell has a value

  -- at another depth at which they can differ,
  pub part_other : (d g : ℕ) → d < g → MayDiffer fa ma fb mb g → (k : ℕ) (v : Bool) → k ≢ g → PartsAt known other d k v
  part_other d g behind can k v off = elim (or_cases (is_set ma g && not (is_set fb g)) (is_set mb g && not (is_set fa g)) can) as (λ _. PartsAt known other d k v) [
    | inl at ↦ (let parts = and_parts (is_set ma g) (not (is_set fb g)) at in
        (g, true, behind, allows_full fa ma g parts.0, allows_empty fb mb g (not-true (is_set fb g) parts.1), λ same. absurd (off same)))
    | inr at ↦ (let parts = and_parts (is_set mb g) (not (is_set fa g)) at in
        (g, false, behind, allows_empty fa ma g (not-true (is_set fa g) parts.1), allows_full fb mb g parts.0, λ same. absurd (off same)))
  ]

-- or at it, where neither is decided
pub part_open : (known other : ℤ → Option Bool) (d k : ℕ) (v : Bool) → d < k → known (pos k) ≡ None → other (pos k) ≡ None → PartsAt known other d k v
part_open known other d k v far none none_too = (k, v, far, allows_open known k v none, allows_open other k (not v) none_too, λ same. refl)

-- A cell at the first depth at which both may be full can be full; it can be empty, if the columns can begin farther away.
module _ (fa ma fb mb : ℕ) (a_within : LiesWithin fa ma) (b_within : LiesWithin fb mb) (fits : bit_and ma mb < 2 ^ 64) (met : CanDraw (known_bits fa ma) (known_bits fb mb) Dashed) where
  pub free_first : ma < 2 ^ 64 → (k : ℕ) (v : Bool) → known_bits fa ma (pos k) ≡ None → is_set (near (bit_and ma mb)) k ≡ true → is_set (bit_and ma mb) k ≡ true
      → CanDrawEmpty (known_bits fa ma) (known_bits fb mb) Dashed (near (bit_and ma mb)) → CanDrawWith (known_bits fa ma) (known_bits fb mb) Dashed k v
  free_first ma_fits k v none set there (a, b, agrees, too, empty, draws) = by v
    where
      at : k ≡ zeros (bit_and ma mb)
      at = let low = near_from (bit_and ma mb) k fits (undecided_within fa ma k ma_fits none) set in let least = lowest_at_most (bit_and ma mb) fits k there in omega (arith, low, least)

      by : (v : Bool) → CanDrawWith (known_bits fa ma) (known_bits fb mb) Dashed k v
      by false = (a, b, agrees, too, (empty k set).0, draws)
      by true =
          let (e, behind, may) = differ_behind fa ma fb mb a_within b_within fits met in
          let (f, x, far, allows, allows_too, _) = part_other fa ma fb mb a_within b_within (zeros (bit_and ma mb)) e behind may k true (λ same. (omega (arith, same, behind, at))) in
          dashed_with (known_bits fa ma) (known_bits fb mb) (zeros (bit_and ma mb)) (begin_first fa ma fb mb a_within b_within fits met) f x far allows allows_too k true
          (omega (arith, at)) (λ _. refl) (λ same. absurd (omega (arith, same, far, at))) none

-- ---- told by bits

-- The columns can begin at a depth. Of the depths behind it at which they can differ, with the bits of differ, some are left.
module _ (fa ma fb mb : ℕ) (a_within : LiesWithin fa ma) (b_within : LiesWithin fb mb) (fits : bit_and ma mb < 2 ^ 64) (met : CanDraw (known_bits fa ma) (known_bits fb mb) Dashed)
    (differ apart : ℕ) (apart_fits : apart < 2 ^ 64) (differ_is : (k : ℕ) → is_set differ k ≡ ((is_set ma k && not (is_set fb k)) || (is_set mb k && not (is_set fa k))))
    (apart_is : (k : ℕ) → is_set apart k ≡ (is_set differ k && not (is_set (near (bit_and ma mb)) k))) where
  abbrev first : ℕ
  first = zeros (bit_and ma mb)

  abbrev column : ℤ → Option Bool
  column = known_bits fa ma

  abbrev beside : ℤ → Option Bool
  beside = known_bits fb mb

  -- a cell that isn't down to that depth is behind it
  behind_near : (k : ℕ) → k < 64 → is_set (near (bit_and ma mb)) k ≡ false → first < k
  behind_near k within off = elim (cases_lt first k) as (λ _. first < k) [
    | inl l ↦ l
    | inr l ↦ absurd (both_ways (is_set (near (bit_and ma mb)) k) off (near_to (bit_and ma mb) k fits within l))
  ]

  apart_behind : (e : ℕ) → is_set apart e ≡ true → (first < e) × MayDiffer fa ma fb mb e
  apart_behind e set =
      let parts = and_parts (is_set differ e) (not (is_set (near (bit_and ma mb)) e)) (sym (apart_is e) ∙ set) in
      (behind_near e (set_within apart apart_fits e set) (not-true (is_set (near (bit_and ma mb)) e) parts.1), sym (differ_is e) ∙ parts.0)

  behind_apart : (e : ℕ) → e < 64 → first < e → MayDiffer fa ma fb mb e → is_set apart e ≡ true
  behind_apart e within far may = apart_is e ∙ and_from (is_set differ e) (not (is_set (near (bit_and ma mb)) e)) (differ_is e ∙ may)
      (not_from_false (is_set (near (bit_and ma mb)) e) (elim (cases_Bool (is_set (near (bit_and ma mb)) e)) as (λ _. is_set (near (bit_and ma mb)) e ≡ false) [
        | inl set ↦ (let low = near_from (bit_and ma mb) e fits within set in absurd (omega (arith, low, far)))
        | inr off ↦ off
      ]))

  -- a cell behind that depth can have a value where they can differ though it has
  module _ (ma_fits : ma < 2 ^ 64) (k : ℕ) (v : Bool) (none : column (pos k) ≡ None) (off : is_set (near (bit_and ma mb)) k ≡ false) where
    k_within : k < 64
    k_within = undecided_within fa ma k ma_fits none

    far : first < k
    far = behind_near k k_within off

    with_parts : PartsAt column beside first k v → CanDrawWith column beside Dashed k v
    with_parts (e, x, behind, may, may_too, at) = dashed_with column beside first (begin_first fa ma fb mb a_within b_within fits met) e x behind may may_too k v
        (let l = far in omega (arith, l)) (λ same. absurd (let l = far in omega (arith, l, same))) at none

    -- they can differ at two depths,
    pub free_of_two : (rest : ℕ) → ((j : ℕ) → (is_set rest j ≡ true) ↔ ((is_set apart j ≡ true) × ((i : ℕ) × (i < j) × (is_set apart i ≡ true)))) → rest < 2 ^ 64 → rest ≢ 0
        → CanDrawWith column beside Dashed k v
    free_of_two rest rest_is rest_fits some =
        let (f, set) = some_bit rest rest_fits some in
        let (at_f, (e, below, at_e)) = (rest_is f).0 set in
        let behind_f = apart_behind f at_f in
        let behind_e = apart_behind e at_e in
        with_parts (elim (cases_Bool (k == e)) as (λ _. PartsAt column beside first k v) [
          | inl same ↦ (let is = eqb-true k e same in part_other fa ma fb mb a_within b_within first f behind_f.0 behind_f.1 k v (λ g. (omega (arith, is, below, g))))
          | inr other ↦ part_other fa ma fb mb a_within b_within first e behind_e.0 behind_e.1 k v (eqb-false k e other)
        ])

    -- or at this one neither is decided
    pub free_of_one : (is_set apart k ≡ true → beside (pos k) ≡ None) → CanDrawWith column beside Dashed k v
    free_of_one shared =
        let (e, behind, may) = differ_behind fa ma fb mb a_within b_within fits met in
        with_parts (elim (cases_Bool (k == e)) as (λ _. PartsAt column beside first k v) [
          | inl same ↦ (let is = eqb-true k e same in part_open column beside first k v far none
              (shared (behind_apart k k_within far (subst (MayDiffer fa ma fb mb) (sym is) may))))
          | inr other ↦ part_other fa ma fb mb a_within b_within first e behind may k v (eqb-false k e other)
        ])
