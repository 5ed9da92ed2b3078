use Rattle.std.proofs.Common.{◌+◌, inl, inr, refl, sym, ◌∙◌, ap, arith, Some}
use Rattle.text_lines.proofs.FirstLines.{some_lines}
use Rattle.proof_check.specs.declared.fault.LogKind.TheVariants.{BadLine, BadCount, Long}
use Rattle.proof_check.specs.LogLines.{log_reading}
use Rattle.proof_check.proofs.LastLines.{wrong_end, right_end}
use Rattle.proof_check.proofs.walk.check_end.Goals as goal

pub returns-in-None : goal.returns-in-None
returns-in-None c = λ p. wrong_end log_reading p c.args.listed c.args.number c.args.rest.now c.first_line.result.0.now c.first_line.result.1.now c.first_line.ensures.lines
    _ BadLine c.args.number (sym c.closing_count.ensures ∙ c.in-None.is) (refl, refl)

pub returns-then-count-listed : goal.returns-then-count-listed
returns-then-count-listed c = λ p. wrong_end log_reading p c.args.listed c.args.number c.args.rest.now c.first_line.result.0.now c.first_line.result.1.now c.first_line.ensures.lines
    (Some c.in-Some.count) BadCount c.args.number (sym c.closing_count.ensures ∙ c.in-Some.is) (inl (refl, c.if-count-listed.true, refl))

pub returns-then-more-eq0 : goal.returns-then-more-eq0
returns-then-more-eq0 c = λ p. right_end log_reading p c.args.listed c.args.number c.args.rest.now c.first_line.result.0.now c.first_line.result.1.now c.first_line.ensures.lines
    (sym c.closing_count.ensures ∙ c.in-Some.is ∙ ap Some c.if-count-listed.false) c.if-more-eq0.true

pub returns-else-more-eq0 : goal.returns-else-more-eq0
returns-else-more-eq0 c = λ p. wrong_end log_reading p c.args.listed c.args.number c.args.rest.now c.first_line.result.0.now c.first_line.result.1.now c.first_line.ensures.lines
    (Some c.in-Some.count) Long (c.args.number + 1) (sym c.closing_count.ensures ∙ c.in-Some.is)
    (inr (refl, c.if-count-listed.false, some_lines c.first_line.result.1.now (omega (arith, c.if-more-eq0.false)), omega arith))
