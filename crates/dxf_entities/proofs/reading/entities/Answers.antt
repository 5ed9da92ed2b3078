-- The lines that are kept in three views are those of the views.
use Rattle.std.proofs.Common.{List, Result, Ok, Err, IsErrOf, Vec, Global, sym, ap, ◌∙◌}
use Rattle.std.proofs.lemmas.Result.{err_from_is_err_and}
use Rattle.solid_model.specs.declared.fault.Fault.{Fault}
use Rattle.solid_model.specs.declared.fault.Refused.TheVariants as refused
use Rattle.solid_model.specs.Line.{Line}
use Rattle.dxf_entities.specs.declared.layer_line.LayerLine.{LayerLine}
use Rattle.dxf_entities.specs.Reading.{main_lines, read_of, text_read}
use Rattle.dxf_entities.specs.Steps.{◌>>=◌}
use Rattle.dxf_entities.proofs.reading.entities.Goals as goal

-- those of the views, of what is read
abbrev of_views : Result (List LayerLine) Fault → Result (List Line) Fault
of_views read = read >>= λ ls. Ok (main_lines ls)

pub returns-in_err-lines-clause-fault : goal.returns-in_err-lines-clause-fault
unfolding read_of text_read
returns-in_err-lines-clause-fault c = λ f is.
    let q = err_from_is_err_and c.from_residual.result c.from_residual.ensures.1 in
    let faulty : IsErrOf {T = Vec LayerLine Global} (Err c.in_err-lines.field-0.0) (refused.Fault f) = cc in
    ap of_views (ap (λ form. text_read form c.args.groups.now.text) (sym c.new.ensures) ∙ c.in_err-lines.ensures.fault f faulty)

pub returns-clause-lines : goal.returns-clause-lines
unfolding read_of text_read
returns-clause-lines c =
    ap of_views (ap (λ form. text_read form c.args.groups.now.text) (sym c.new.ensures) ∙ c.in_ok-lines.ensures.lines)
    ∙ ap Ok (sym (c.in_ok-own.ensures ∙ ap (main_lines) c.deref.ensures.value))
