-- One bit more, or none.
use Rattle.std.proofs.Common.{◌≡◌, ◌||◌, ◌&&◌, ◌%◌, ◌==◌, ◌<◌, Bool, true, false, bit_or, w64, inl, inr, refl, ap, sym, ◌∙◌, arith}
use Rattle.std.proofs.lemmas.Bool.{cases_Bool, eqb-true, eqb-false, or_right}
use Rattle.std.proofs.lemmas.Nat.Bits.{bit_at_set_same, bit_at_set_other}
use Rattle.lemmas.specs.Bits.{is_set}
use Rattle.line_demands.proofs.ValueBits.{bit}
use Rattle.line_demands.proofs.places.with_place.Goals as goal

or_none : (x y : Bool) → y ≡ false → (x || y) ≡ x
or_none true y off = refl
or_none false y off = off

pub returns-then-told : goal.returns-then-told
returns-then-told c = λ k.
    let places = c.args.places in
    let place = c.args.place % 64 in
    let within : place < 64 = omega arith in
    elim (cases_Bool (place == k)) as (λ _. is_set (bit_or places (bit place)) k ≡ (is_set places k || (place == k))) [
      | inl at ↦ (let same = eqb-true place k at in ap (is_set (bit_or places (bit place))) (sym same) ∙ ap (λ b. b == 1) (bit_at_set_same w64 places place within) ∙ sym (or_right (is_set places k) (place == k) at))
      | inr off ↦ ap (λ b. b == 1) (bit_at_set_other w64 places place within k (λ e. eqb-false place k off (sym e))) ∙ sym (or_none (is_set places k) (place == k) off)
    ] ∙ ap (λ told. is_set places k || (told && (place == k))) (sym c.if-told.true)

pub returns-else-told : goal.returns-else-told
returns-else-told c = λ k.
    let here = c.args.place % 64 == k in
    sym (or_none (is_set c.args.places k) (c.args.told && here) (ap (λ told. told && here) c.if-told.false))
