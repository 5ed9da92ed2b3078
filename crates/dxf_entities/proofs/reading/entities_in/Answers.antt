-- The lines that are kept are those of the views and those of further views.
use Rattle.std.proofs.Common.{List, Result, Ok, Err, IsErrOf, Vec, Global, sym, ap, ap₂, ◌∙◌}
use Rattle.std.proofs.lemmas.Result.{err_from_is_err_and}
use Rattle.solid_model.specs.declared.fault.Fault.{Fault}
use Rattle.solid_model.specs.declared.fault.Refused.TheVariants as refused
use Rattle.solid_model.specs.Line.{Line}
use Rattle.dxf_entities.specs.declared.layer_line.LayerLine.{LayerLine}
use Rattle.dxf_entities.specs.Apart.{lines_apart, lines_read}
use Rattle.dxf_entities.specs.Reading.{main_lines, other_lines}
use Rattle.dxf_entities.specs.Steps.{◌>>=◌}
use Rattle.dxf_entities.proofs.reading.entities_in.Goals as goal

-- what is read, apart
abbrev apart : Result (List LayerLine) Fault → Result (List Line × List LayerLine) Fault
apart read = read >>= λ ls. Ok (lines_apart ls)

pub returns-in_err-lines-clause-fault : goal.returns-in_err-lines-clause-fault
unfolding lines_read
returns-in_err-lines-clause-fault c = λ f is.
    let q = err_from_is_err_and c.from_residual.result c.from_residual.ensures.1 in
    let faulty : IsErrOf {T = Vec LayerLine Global} (Err c.in_err-lines.field-0.0) (refused.Fault f) = cc in
    ap apart (c.in_err-lines.ensures.fault f faulty)

pub returns-clause-lines : goal.returns-clause-lines
unfolding lines_read
returns-clause-lines c =
    ap apart c.in_ok-lines.ensures.lines
    ∙ ap₂ (λ (main : List Line) (other : List LayerLine). Ok (main, other))
    (sym (c.in_ok-main.ensures ∙ ap (main_lines) c.deref.ensures.value))
    (sym (c.in_ok-other.ensures ∙ ap other_lines c.deref-2.ensures.value))
