-- A log whose first line is right is what its other lines say.
use Rattle.std.proofs.Common.{ap, ◌∙◌}
use Rattle.completeness_logs.specs.LogTexts.{opening_line}
use Rattle.proof_check.proofs.SaidRefusals.{rest_told}
use Rattle.proof_check.proofs.WholeLogs.{log_from}
use Rattle.proof_check.proofs.walk.check_text.Goals as goal

pub returns-in-Ok-clause-ok : goal.returns-in-Ok-clause-ok
returns-in-Ok-clause-ok c =
    log_from c.args.partial.now.problem c.args.log.now c.first_line.result.0.now c.first_line.result.1.now c.in-Ok.found.items c.first_line.ensures.lines
    (c.is_opening.ensures.0 c.if-is_opening.true ∙ ap opening_line c.block_count.ensures) c.in-Ok.ensures.ok.0 c.in-Ok.ensures.ok.1

pub returns-in-Err-clause-refused : goal.returns-in-Err-clause-refused
returns-in-Err-clause-refused c =
    rest_told c.args.partial.now.problem c.args.log.now c.first_line.result.0.now c.first_line.result.1.now c.first_line.ensures.lines
    (c.is_opening.ensures.0 c.if-is_opening.true ∙ ap opening_line c.block_count.ensures) c.in-Err.refused c.in-Err.ensures.refused
