-- What is read is what the steps find, one after another.
use Rattle.std.proofs.Common.{◌≡◌, inl, inr, List, Ok, Err, IsErrOf, sym, ap₂, subst, ◌∙◌}
use Rattle.std.proofs.lemmas.Result.{err_from_is_err_and}
use Rattle.dxf_entities.specs.declared.layer_line.LayerLine.{LayerLine}
use Rattle.file_problem.specs.Inputs.{IsFaultOfLines, input_in}
use Rattle.file_problem.specs.Cuts.{first_uncut}
use Rattle.file_problem.proofs.Faults.{file_fault}
use Rattle.further_views.specs.Further.{AreFurtherOf, further_lines}
use Rattle.solid_model.specs.declared.fault.Fault.TheVariants.{NoCut}
use Rattle.solid_model.specs.declared.fault.Refused.TheVariants as refused
use Rattle.solid_model.specs.Blocks.{ProblemParts}
use Rattle.solid_model.specs.Drawings.{drawing_of, IsShown}
use Rattle.solid_model.specs.Line.{Line}
use Rattle.solid_model.specs.Panels.{IsGridOf}
use Rattle.file_problem.proofs.problem.read.Goals as goal

pub returns-in_err-problem-clause-fault : goal.returns-in_err-problem-clause-fault
returns-in_err-problem-clause-fault c most short fault is =
    let q = err_from_is_err_and c.from_residual-in_err-problem.result c.from_residual-in_err-problem.ensures.1 in
    let faulty : IsErrOf {T = ProblemParts} (Err c.in_err-problem.field-0.0) (refused.Fault fault) = cc in
    file_fault (input_in c.args.form c.args.two_views most c.args.groups.now.text) (Ok (c.in_ok-lines.lines.items, c.in_ok-lines.others.items)) fault short
    c.in_ok-lines.ensures.lines
    (inl (subst (λ (ls : List Line). IsFaultOfLines c.args.two_views ls fault) c.as_slice.ensures.value (c.in_err-problem.ensures.fault fault faulty)))

pub returns-in-Some-clause-fault : goal.returns-in-Some-clause-fault
returns-in-Some-clause-fault c most short fault is =
    let same : NoCut c.in-Some.line ≡ fault = cc in
    file_fault (input_in c.args.form c.args.two_views most c.args.groups.now.text) (Ok (c.in_ok-lines.lines.items, c.in_ok-lines.others.items)) fault short
    c.in_ok-lines.ensures.lines
    (inr (record {
      problem = c.in_ok-problem.problem;
      shown = subst (IsShown c.args.two_views) c.as_slice.ensures.value c.in_ok-problem.ensures.shown;
      grid = subst (λ (ls : List Line). IsGridOf (drawing_of ls) c.in_ok-problem.problem.grid) c.as_slice.ensures.value c.in_ok-problem.ensures.grid;
      blocks = c.in_ok-problem.ensures.blocks;
      few = c.in_ok-problem.ensures.few;
      line = c.in-Some.line;
      first =
          sym (c.first_uncut.ensures ∙ ap₂ first_uncut c.grid.ensures.grid c.as_slice-2.ensures.value)
          ∙ c.in-Some.is;
      is = sym same;
    }))

pub returns-clause-problem : goal.returns-clause-problem
returns-clause-problem c most short = (
  record {
    short = short;
    lines = c.in_ok-lines.lines.items;
    further = c.in_ok-lines.others.items;
    reads = c.in_ok-lines.ensures.lines;
    shown = subst (IsShown c.args.two_views) c.as_slice.ensures.value c.in_ok-problem.ensures.shown;
    grid = subst (λ (ls : List Line). IsGridOf (drawing_of ls) c.in_ok-problem.problem.grid) c.as_slice.ensures.value c.in_ok-problem.ensures.grid;
    blocks = c.in_ok-problem.ensures.blocks;
    few = c.in_ok-problem.ensures.few;
    cuts =
        sym (c.first_uncut.ensures ∙ ap₂ first_uncut c.grid.ensures.grid c.as_slice-2.ensures.value)
        ∙ c.in_default.is;
  },
  subst (λ (ls : List LayerLine). AreFurtherOf (further_lines ls) c.in_ok-further.further) c.as_slice-3.ensures.value
      c.in_ok-further.ensures,
)
