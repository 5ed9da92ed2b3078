-- Two columns that leave each other free: what one leaves the other, and the other way round.
use Rattle.std.proofs.Common.{◌≡◌, ◌≢◌, ◌↔◌, inl, inr, ◌&&◌, ◌||◌, Bool, true, false, not, ℕ, ◌<◌, ◌^◌, ℤ, pos, Option, None, bit_and, ap, sym, subst, ◌∙◌}
use Rattle.std.proofs.lemmas.Bool.{cases_Bool, both_ways, and_parts, and_from, not-true, not_from_false}
use Rattle.std.proofs.lemmas.Nat.{and_comm}
use Rattle.std.proofs.Math.Bool.{or_comm}
use Rattle.line_demands.specs.Doubted.{AreFreeBut, CanDrawEmpty}
use Rattle.line_demands.proofs.FreeBehind.{free_of_two, free_of_one}
use Rattle.line_demands.proofs.SeenCells.{draws_back, draw_back}
use Rattle.solid_model.specs.declared.segment.Style.TheVariants.{Dashed}
use Rattle.lemmas.specs.Bits.{is_set, near}
use Rattle.solid_model.specs.Demands.{AgreesWith, CanDraw}
use Rattle.solid_model.specs.Known.{known_bits, LiesWithin}
use Rattle.solid_model.proofs.KnownColumns.{Fits, fits_to, fits_from}

-- ---- columns some of whose cells are empty

-- what agrees with what is known of the column with these cells empty agrees with what is known of it, and they are empty
pub emptied_agrees : (full may left most cells : ℕ) → LiesWithin left most
    → ((k : ℕ) → is_set left k ≡ (is_set full k && not (is_set cells k))) → ((k : ℕ) → is_set most k ≡ (is_set may k && not (is_set cells k)))
    → ((k : ℕ) → is_set cells k ≡ true → is_set full k ≡ false) → (column : ℤ → Bool) → AgreesWith (known_bits left most) column
    → AgreesWith (known_bits full may) column × ((k : ℕ) → is_set cells k ≡ true → column (pos k) ≡ false)
emptied_agrees full may left most cells within left_is most_is clear column agrees = (
  fits_to full may column record { certain = certain; allowed = λ k is. (parts k is).0; below = fits.below },
  λ k set. elim (cases_Bool (column (pos k))) as (λ _. column (pos k) ≡ false) [
    | inl is ↦ absurd (both_ways (is_set cells k) (not-true (is_set cells k) (parts k is).1) set)
    | inr e ↦ e
  ],
)
  where
    fits : Fits left most column
    fits = fits_from left most column within agrees

    parts : (k : ℕ) → column (pos k) ≡ true → (is_set may k ≡ true) × (not (is_set cells k) ≡ true)
    parts k is = and_parts (is_set may k) (not (is_set cells k)) (sym (most_is k) ∙ fits.allowed k is)

    certain : (k : ℕ) → is_set full k ≡ true → column (pos k) ≡ true
    certain k set = fits.certain k (left_is k ∙ and_from (is_set full k) (not (is_set cells k)) set (not_from_false (is_set cells k)
        (elim (cases_Bool (is_set cells k)) as (λ _. is_set cells k ≡ false) [ inl in_them ↦ absurd (both_ways (is_set full k) (clear k in_them) set) | inr e ↦ e ])))

pub empty_back : (known other : ℤ → Option Bool) (cells : ℕ) → CanDrawEmpty known other Dashed cells → CanDrawEmpty other known Dashed cells
empty_back known other cells (a, b, agrees, too, empty, draws) = (b, a, too, agrees, λ k set. ((empty k set).1, (empty k set).0), draw_back a b Dashed draws)

-- ---- cells behind the first depth at which both may be full

module _ (fa ma fb mb : ℕ) (a_within : LiesWithin fa ma) (b_within : LiesWithin fb mb) (fits : bit_and ma mb < 2 ^ 64) (met : CanDraw (known_bits fa ma) (known_bits fb mb) Dashed)
    (differ apart : ℕ) (apart_fits : apart < 2 ^ 64) (differ_is : (k : ℕ) → is_set differ k ≡ ((is_set ma k && not (is_set fb k)) || (is_set mb k && not (is_set fa k))))
    (apart_is : (k : ℕ) → is_set apart k ≡ (is_set differ k && not (is_set (near (bit_and ma mb)) k))) (ma_fits : ma < 2 ^ 64) (mb_fits : mb < 2 ^ 64) where
  fits_back : bit_and mb ma < 2 ^ 64
  fits_back = subst (λ n. n < 2 ^ 64) (and_comm ma mb) fits

  met_back : CanDraw (known_bits fb mb) (known_bits fa ma) Dashed
  met_back = draws_back (known_bits fa ma) (known_bits fb mb) Dashed met

  differ_back : (k : ℕ) → is_set differ k ≡ ((is_set mb k && not (is_set fa k)) || (is_set ma k && not (is_set fb k)))
  differ_back k = differ_is k ∙ or_comm (is_set ma k && not (is_set fb k)) (is_set mb k && not (is_set fa k))

  apart_back : (k : ℕ) → is_set apart k ≡ (is_set differ k && not (is_set (near (bit_and mb ma)) k))
  apart_back k = apart_is k ∙ ap (λ n. is_set differ k && not (is_set (near n) k)) (and_comm ma mb)

  off_back : (k : ℕ) → is_set (near (bit_and ma mb)) k ≡ false → is_set (near (bit_and mb ma)) k ≡ false
  off_back k off = ap (λ n. is_set (near n) k) (and_comm mb ma) ∙ off

  -- they can differ at two depths,
  pub both_of_two : (rest : ℕ) → ((j : ℕ) → (is_set rest j ≡ true) ↔ ((is_set apart j ≡ true) × ((i : ℕ) × (i < j) × (is_set apart i ≡ true)))) → rest < 2 ^ 64 → rest ≢ 0
      → AreFreeBut (known_bits fa ma) (known_bits fb mb) Dashed (near (bit_and ma mb))
  both_of_two rest rest_is rest_fits some = (
    λ k v none off. free_of_two fa ma fb mb a_within b_within fits met differ apart apart_fits differ_is apart_is ma_fits k v none off rest rest_is rest_fits some,
    λ k v none off. free_of_two fb mb fa ma b_within a_within fits_back met_back differ apart apart_fits differ_back apart_back mb_fits k v none (off_back k off) rest rest_is rest_fits some,
  )

  -- or at such a depth neither is decided, or both are
  pub both_of_one : ((k : ℕ) → is_set apart k ≡ true → known_bits fa ma (pos k) ≡ None → known_bits fb mb (pos k) ≡ None)
      → ((k : ℕ) → is_set apart k ≡ true → known_bits fb mb (pos k) ≡ None → known_bits fa ma (pos k) ≡ None)
      → AreFreeBut (known_bits fa ma) (known_bits fb mb) Dashed (near (bit_and ma mb))
  both_of_one shared shared_back = (
    λ k v none off. free_of_one fa ma fb mb a_within b_within fits met differ apart apart_fits differ_is apart_is ma_fits k v none off (λ set. shared k set none),
    λ k v none off. free_of_one fb mb fa ma b_within a_within fits_back met_back differ apart apart_fits differ_back apart_back mb_fits k v none (off_back k off) (λ set. shared_back k set none),
  )
