-- The word only gets more bits, each by a step.
use Rattle.std.proofs.Common.{◌||◌, ◌&&◌, ◌*◌, ◌/◌, ◌%◌, ◌^◌, ◌<◌, ℕ, suc, List, slice_index_or, bit_and, bit_or, ap, ap₂, ◌∙◌, rules}
use Rattle.std.proofs.lemmas.Nat.{le_or_l}
use Rattle.lemmas.proofs.WordBits.{set_either}
use Rattle.flood.specs.RowFlood.{has_cell, leads_along, leads_across}
use Rattle.flood.proofs.RowPulls.{forth_bits, back_bits}
use Rattle.flood.proofs.row_flood.pulled.Goals as goal

pub returns-clause-more : goal.returns-clause-more
returns-clause-more c = le_or_l (slice_index_or c.args.reached.now c.args.row 0) _

pub returns-clause-cells : goal.returns-clause-cells
returns-clause-cells c k =
    set_either own (bit_or forth (bit_or back (bit_or beside behind))) k
    ∙ ap (λ t. has_cell rows r k || t) (set_either forth (bit_or back (bit_or beside behind)) k
    ∙ ap₂ (λ s t. s || t) (forth_bits along rows r k fits ∙ ap (λ ws. leads_along ws rows r k) c.as_slice.ensures.value)
    (set_either back (bit_or beside behind) k
    ∙ ap₂ (λ s t. s || t) (back_bits own (slice_index_or along r 0) k ∙ ap (λ ws. has_cell rows r (suc k) && has_cell ws r (suc k)) c.as_slice.ensures.value)
    (set_either beside behind k
    ∙ ap₂ (λ s t. s || t) (c.across-beside.ensures k ∙ ap (λ ws. leads_across ws 1 rows r k) c.as_slice-2.ensures.value)
    (c.across-behind.ensures k ∙ ap (λ ws. leads_across ws c.args.ways.now.layer rows r k) c.as_slice-3.ensures.value))))
  where
    rows : List ℕ
    rows = c.args.reached.now

    r : ℕ
    r = c.args.row

    along : List ℕ
    along = c.as_slice.result.now

    fits : slice_index_or along r 0 < 2 ^ 64
    fits = search rules

    own : ℕ
    own = slice_index_or rows r 0

    forth : ℕ
    forth = bit_and (own * 2 % 2 ^ 64) (slice_index_or along r 0)

    back : ℕ
    back = bit_and own (slice_index_or along r 0) / 2

    beside : ℕ
    beside = c.across-beside.result

    behind : ℕ
    behind = c.across-behind.result
