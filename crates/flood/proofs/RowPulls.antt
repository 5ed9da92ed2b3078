-- The bits of words to which one step leads.
use Rattle.std.proofs.Common.{◌≡◌, inl, inr, false, ◌&&◌, ◌==◌, ℕ, zero, suc, ◌*◌, ◌/◌, ◌%◌, ◌^◌, ◌<◌, List, slice_index_or, bit_and, ap, sym, ◌∙◌}
use Rattle.std.proofs.lemmas.Bool.{cases_lt, and_right}
use Rattle.std.proofs.lemmas.Nat.Bits.{bit_at-suc, bit_at_above}
use Rattle.lemmas.specs.Bits.{is_set}
use Rattle.lemmas.proofs.WordBits.{set_both, moved_up, moved_up_first}
use Rattle.flood.specs.RowFlood.{has_cell, leads_along}

-- from the cell before in the row: the word is moved up,
pub forth_bits : (ways rows : List ℕ) (r k : ℕ) → slice_index_or ways r 0 < 2 ^ 64
    → is_set (bit_and (slice_index_or rows r 0 * 2 % 2 ^ 64) (slice_index_or ways r 0)) k ≡ leads_along ways rows r k
forth_bits ways rows r zero fits =
    set_both (slice_index_or rows r 0 * 2 % 2 ^ 64) (slice_index_or ways r 0) 0 ∙ ap (λ t. t && has_cell ways r 0) (moved_up_first (slice_index_or rows r 0))
forth_bits ways rows r (suc u) fits = set_both (slice_index_or rows r 0 * 2 % 2 ^ 64) (slice_index_or ways r 0) (suc u)
    ∙ elim (cases_lt (suc u) 64) as (λ _. (is_set (slice_index_or rows r 0 * 2 % 2 ^ 64) (suc u) && has_cell ways r (suc u)) ≡ leads_along ways rows r (suc u)) [
      | inl within ↦ ap (λ t. t && has_cell ways r (suc u)) (moved_up (slice_index_or rows r 0) u within)
      | inr beyond ↦ (let none : has_cell ways r (suc u) ≡ false = ap (λ b. b == 1) (bit_at_above (slice_index_or ways r 0) 64 (suc u) fits beyond) in
          and_right (is_set (slice_index_or rows r 0 * 2 % 2 ^ 64) (suc u)) (has_cell ways r (suc u)) none
          ∙ sym (and_right (has_cell rows r u) (has_cell ways r (suc u)) none))
    ]

-- and from the one after: it is moved down
pub back_bits : (a b k : ℕ) → is_set (bit_and a b / 2) k ≡ (is_set a (suc k) && is_set b (suc k))
back_bits a b k = ap (λ t. t == 1) (sym (bit_at-suc (bit_and a b) k)) ∙ set_both a b (suc k)
