-- The reader's text is the input's.
use Rattle.std.proofs.Common.{◌≤◌, length, Err, IsErrOf, ap, subst, sym}
use Rattle.std.proofs.lemmas.Result.{err_from_is_err_and}
use Rattle.dxf_groups.specs.Groups.{GroupsState}
use Rattle.file_problem.specs.Inputs.{HasFurther, IsFileFault, input_in}
use Rattle.further_views.specs.Further.{FurtherRuns}
use Rattle.solid_model.specs.declared.fault.Refused.TheVariants as refused
use Rattle.solid_model.specs.Blocks.{ProblemParts}
use Rattle.file_problem.proofs.problem.problem_with_rest.Goals as goal

pub returns-in_err-problem-clause-fault : goal.returns-in_err-problem-clause-fault
returns-in_err-problem-clause-fault c most short fault is =
    let q = err_from_is_err_and c.from_residual.result c.from_residual.ensures.1 in
    let faulty : IsErrOf {T = ProblemParts × FurtherRuns} (Err c.in_err-problem.field-0.0) (refused.Fault fault) = cc in
    let text = ap (λ (g : GroupsState). g.text) c.new-groups.ensures in
    let within = subst (λ t. length t ≤ most) (sym text) short in
    subst (λ t. IsFileFault (input_in c.args.form c.args.two_views most t) fault) text
    (c.in_err-problem.ensures.fault most within fault faulty)

pub returns-clause-problem : goal.returns-clause-problem
returns-clause-problem c most short =
    let text = ap (λ (g : GroupsState). g.text) c.new-groups.ensures in
    let within = subst (λ t. length t ≤ most) (sym text) short in
    subst (λ t. HasFurther (input_in c.args.form c.args.two_views most t) c.in_ok-problem.problem c.in_ok-problem.further)
    text (c.in_ok-problem.ensures.problem most within)
