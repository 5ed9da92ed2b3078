-- The bits of the row before, and those of the row after.
use Rattle.std.proofs.Common.{◌≡◌, ◌||◌, ◌&&◌, ◌==◌, false, nat_le, ◌-◌, ◌+◌, ℕ, List, slice_index_or, ap, ap₂, sym, ◌∙◌, arith}
use Rattle.std.proofs.lemmas.Bool.{le-leb, leb-true, false_from_ne_true}
use Rattle.std.proofs.lemmas.List.{get_or_past}
use Rattle.std.proofs.lemmas.Nat.Bits.{bit_at-zero}
use Rattle.lemmas.specs.Bits.{is_set}
use Rattle.lemmas.proofs.WordBits.{set_both, set_either}
use Rattle.flood.specs.RowFlood.{has_cell}
use Rattle.flood.proofs.row_flood.across.Goals as goal
use Rattle.flood.proofs.row_flood.across.Goals.{then-row-stride, else-row-stride, then-row-stride-2, else-row-stride-2}

pub returns : goal.returns
returns c k = set_either c.if-row-stride.before c.if-row-stride-2.after k ∙ ap₂ (λ s t. s || t) first second
  where
    rows : List ℕ
    rows = c.args.reached.now

    ways : List ℕ
    ways = c.args.ways.now

    r : ℕ
    r = c.args.row

    stride : ℕ
    stride = c.args.stride

    none : (n : ℕ) → n ≡ 0 → is_set n k ≡ false
    none n e = ap (λ m. is_set m k) e ∙ ap (λ b. b == 1) (bit_at-zero k)

    first : is_set c.if-row-stride.before k ≡ (nat_le stride r && (has_cell rows (r - stride) k && has_cell ways r k))
    first = elim c.if-row-stride.branch [
      | then-row-stride w ↦ ap (λ m. is_set m k) w.before-is ∙ set_both (slice_index_or rows (r - stride) 0) (slice_index_or ways r 0) k
          ∙ sym (ap (λ t. t && (has_cell rows (r - stride) k && has_cell ways r k)) (le-leb stride r w.if-row-stride.true))
      | else-row-stride w ↦ none c.if-row-stride.before w.before-is
          ∙ sym (ap (λ t. t && (has_cell rows (r - stride) k && has_cell ways r k)) (false_from_ne_true (nat_le stride r) (λ e. let l = leb-true stride r e in let m = w.if-row-stride.false in absurd (omega arith))))
    ]

    second : is_set c.if-row-stride-2.after k ≡ (has_cell rows (r + stride) k && has_cell ways (r + stride) k)
    second = elim c.if-row-stride-2.branch [
      | then-row-stride-2 w ↦ ap (λ m. is_set m k) w.after-is ∙ set_both (slice_index_or rows (r + stride) 0) (slice_index_or ways (r + stride) 0) k
      | else-row-stride-2 w ↦ none c.if-row-stride-2.after w.after-is
          ∙ sym (ap (λ t. t && has_cell ways (r + stride) k) (none (slice_index_or rows (r + stride) 0) (get_or_past rows (r + stride) 0 w.if-row-stride-2.false)))
    ]
