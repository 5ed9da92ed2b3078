-- The reader's text is the file.
use Rattle.std.proofs.Common.{◌≤◌, false, length, Err, IsErrOf, ap, ap₂, subst, sym}
use Rattle.std.proofs.lemmas.Result.{err_from_is_err_and}
use Rattle.dxf_groups.specs.Groups.{GroupsState}
use Rattle.file_problem.specs.Inputs.{HasProblem, IsFileFault, input_in}
use Rattle.further_views.specs.Further.{FurtherRuns}
use Rattle.solid_model.specs.declared.fault.Refused.TheVariants as refused
use Rattle.solid_model.specs.Blocks.{ProblemParts}
use Rattle.solid_model.specs.Limits.{most_file_bytes}
use Rattle.file_problem.proofs.problem.problem_of.Goals as goal

pub returns-in_err-problem-clause-fault : goal.returns-in_err-problem-clause-fault
returns-in_err-problem-clause-fault c fault is =
    let q = err_from_is_err_and c.from_residual.result c.from_residual.ensures.1 in
    let faulty : IsErrOf {T = ProblemParts × FurtherRuns} (Err c.in_err-problem.field-0.0) (refused.Fault fault) = cc in
    let text = ap (λ (g : GroupsState). g.text) c.new.ensures in
    let short = subst (λ t. length t ≤ most_file_bytes) (sym text) c.requires.short in
    subst (λ t. IsFileFault t fault) (ap₂ (λ form t. input_in form false most_file_bytes t) c.new-form.ensures text)
    (c.in_err-problem.ensures.fault most_file_bytes short fault faulty)

pub returns-clause-problem : goal.returns-clause-problem
returns-clause-problem c =
    let text = ap (λ (g : GroupsState). g.text) c.new.ensures in
    let short = subst (λ t. length t ≤ most_file_bytes) (sym text) c.requires.short in
    subst (λ t. HasProblem t c.in_ok-problem.problem) (ap₂ (λ form t. input_in form false most_file_bytes t) c.new-form.ensures text)
    (c.in_ok-problem.ensures.problem most_file_bytes short).0
