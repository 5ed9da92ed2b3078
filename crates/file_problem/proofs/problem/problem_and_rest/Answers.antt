-- The text isn't too long.
use Rattle.std.proofs.Common.{ℕ, Vec, false, Global, Err, IsErrOf, subst}
use Rattle.std.proofs.lemmas.Result.{err_from_is_err_and}
use Rattle.dxf_entities.specs.Forms.{three_views}
use Rattle.file_problem.specs.Inputs.{HasProblem, IsFileFault, input_in}
use Rattle.file_problem.proofs.Faults.{short_is_not_long}
use Rattle.further_views.specs.Further.{FurtherRuns}
use Rattle.solid_model.specs.declared.fault.Fault.TheVariants.{TooLong}
use Rattle.solid_model.specs.declared.fault.Refused.TheVariants as refused
use Rattle.solid_model.specs.Blocks.{ProblemParts}
use Rattle.solid_model.specs.Limits.{most_text_bytes}
use Rattle.file_problem.proofs.problem.problem_and_rest.Goals as goal

pub returns-in_err-problem-clause-not_long : goal.returns-in_err-problem-clause-not_long
returns-in_err-problem-clause-not_long c is =
    let q = err_from_is_err_and c.from_residual.result c.from_residual.ensures.1 in
    let faulty : IsErrOf {T = ProblemParts × FurtherRuns × Vec ℕ Global} (Err c.in_err-problem.field-0.0) (refused.Fault TooLong) = cc in
    short_is_not_long (input_in (three_views 0) false most_text_bytes c.args.text.items) c.requires
    (subst (λ form. IsFileFault (input_in form false most_text_bytes c.args.text.items) TooLong) c.new-form.ensures
    (c.in_err-problem.ensures.fault most_text_bytes c.requires TooLong faulty))

pub returns-clause-problem : goal.returns-clause-problem
returns-clause-problem c =
    subst (λ form. HasProblem (input_in form false most_text_bytes c.args.text.items) c.in_ok-problem.problem) c.new-form.ensures
    (c.in_ok-problem.ensures.problem most_text_bytes c.requires).0
