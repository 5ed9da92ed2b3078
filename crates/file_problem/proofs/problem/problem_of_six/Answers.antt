-- The reader's text is the file.
use Rattle.std.proofs.Common.{◌≤◌, false, length, IfOk, ap, ap₂, subst, sym}
use Rattle.dxf_groups.specs.Groups.{GroupsState}
use Rattle.file_problem.specs.Inputs.{HasFurther, IsFileFault, input_in}
use Rattle.further_views.specs.Further.{FurtherRuns}
use Rattle.solid_model.specs.Blocks.{ProblemParts}
use Rattle.solid_model.specs.Limits.{most_file_bytes}
use Rattle.file_problem.proofs.problem.problem_of_six.Goals as goal

pub returns-clause-problem : goal.returns-clause-problem
returns-clause-problem c =
    let text = ap (λ (g : GroupsState). g.text) c.new.ensures in
    let short = subst (λ t. length t ≤ most_file_bytes) (sym text) c.requires.short in
    subst (λ t. IfOk c.read.result (λ (found : ProblemParts × FurtherRuns). HasFurther t found.0 found.1))
    (ap₂ (λ form t. input_in form false most_file_bytes t) c.new-2.ensures text) (c.read.ensures.problem most_file_bytes short)

pub returns-clause-fault : goal.returns-clause-fault
returns-clause-fault c fault is =
    let text = ap (λ (g : GroupsState). g.text) c.new.ensures in
    let short = subst (λ t. length t ≤ most_file_bytes) (sym text) c.requires.short in
    subst (λ t. IsFileFault t fault) (ap₂ (λ form t. input_in form false most_file_bytes t) c.new-2.ensures text)
    (c.read.ensures.fault most_file_bytes short fault is)
