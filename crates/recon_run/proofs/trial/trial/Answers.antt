use Rattle.std.proofs.Common.{◌≡◌, List, length, Err, ap, subst}
use Rattle.recon_run.specs.Answers.{first_volume}
use Rattle.recon_run.specs.Searched.{FillSolids}
use Rattle.report.specs.Texts.{trial_text}
use Rattle.solid_model.specs.declared.cell.Cell.{Cell}
use Rattle.recon_run.proofs.Trials.{figures_are, made_is_faultless, made_is_short}
use Rattle.solid_model.specs.Blocks.{ProblemParts}
use Rattle.recon_run.proofs.trial.trial.Goals as goal

pub problem_of-requires-clause-short : goal.problem_of-requires-clause-short
problem_of-requires-clause-short g c = made_is_short c.args.n c.in_ok-file.file.items c.in_ok-file.ensures

pub returns : goal.returns
returns g c =
    let searched = c.in_ok-searched.searched in let text = c.in_ok-text.text.items in let found = searched.ended.solids in
    figures_are c.args.n c.in_ok-file.file.items c.in_ok-file.ensures c.in-Ok.problem c.in-Ok.ensures.problem searched.ended.kind
    searched.ended.opened found c.in_ok-searched.ensures.1 text
    (subst (λ (p : ProblemParts). (solids : List (List Cell)) → FillSolids p found solids
    → text ≡ trial_text c.args.n p.blocks.count (length found) searched.ended.opened (first_volume solids)) c.in_ok-searched.ensures.0 c.in_ok-text.ensures)

pub unreachable-requires : goal.unreachable-requires
unreachable-requires g c = made_is_faultless c.args.n c.in_ok-file.file.items c.in_ok-file.ensures c.in-Err-Fault.field-0-0
    (c.in-Err-Fault.ensures.fault c.in-Err-Fault.field-0-0 (ap Err c.in-Err-Fault.field-0-is))
