-- A text stands for what its parts do.
use Rattle.std.proofs.Common.{IfOk, ◌∙◌, sym, subst}
use Rattle.std.proofs.lemmas.Bool.{eqb-true, eqb-false}
use Rattle.solid_model.specs.Line.{IsNear}
use Rattle.dxf_groups.proofs.NumeralReach.{scaled_near}
use Rattle.dxf_groups.proofs.NumeralReading.{no_exponent, no_digit, with_digit}
use Rattle.dxf_groups.proofs.numerals.scaled.Goals as goal
use Rattle.dxf_groups.proofs.numerals.scaled.Goals.{else-is_empty-via-then-is_empty+else-is_empty-2, else-is_empty-via-else-is_empty}

pub returns-in_default-clause-value : goal.returns-in_default-clause-value
returns-in_default-clause-value c =
    let sign = c.split_sign-negative.ensures in
    let digits = c.split_digits.ensures in
    let places = c.split_places.ensures in
    no_exponent _ _ _ _ _ _ _ _ sign.negative sign.rest digits.leading digits.past places.leading
    places.past
    c.in_default.ensures

pub returns-then-is_empty-2-clause-value : goal.returns-then-is_empty-2-clause-value
returns-then-is_empty-2-clause-value c =
    let sign = c.split_sign-negative.ensures in
    let digits = c.split_digits.ensures in
    let places = c.split_places.ensures in
    let exponent = c.in-Some.ensures in
    no_digit _ _ _ _ _ _ _ _ sign.negative sign.rest digits.leading digits.past places.leading
    places.past
    exponent.value exponent.is (eqb-true _ 0 (sym c.if-is_empty.ensures))
    (eqb-true _ 0 (sym c.if-is_empty-2.ensures))

pub returns-clause-value : goal.returns-clause-value
returns-clause-value c =
    let sign = c.split_sign-negative.ensures in
    let digits = c.split_digits.ensures in
    let places = c.split_places.ensures in
    let exponent = c.in-Some.ensures in
    c.within_reach.ensures _ (c.magnitude.ensures exponent.value exponent.is_kept)
    ∙ sym
    (with_digit _ _ _ _ _ _ _ _ sign.negative sign.rest digits.leading digits.past places.leading places.past
    exponent.value exponent.is (λ none_before none_after. elim c.else-is_empty.branch [
      | else-is_empty-via-then-is_empty+else-is_empty-2 w ↦ eqb-false _ 0 (sym w.if-is_empty-2.ensures) none_after
      | else-is_empty-via-else-is_empty w ↦ eqb-false _ 0 (sym w.if-is_empty.ensures) none_before
    ]))

pub returns-clause-near : goal.returns-clause-near
returns-clause-near c =
    subst (λ r. IfOk r IsNear) (sym (returns-clause-value c)) (scaled_near c.args.decimals c.args.text.now)
