-- Bit by bit.
use Rattle.std.proofs.Common.{if◌then◌else◌, pos, Bool, Option, Some, ap, sym, ◌∙◌, rules}
use Rattle.solid_model.specs.Known.{known_bits}
use Rattle.line_demands.proofs.SpanMarks.{within_full, known_full, within_empty, known_empty, within_free, known_free}
use Rattle.line_demands.proofs.spans.set_span.Goals as goal
use Rattle.lemmas.specs.Bits.{is_set}

pub returns-in-Some-true-clause-within : goal.returns-in-Some-true-clause-within
returns-in-Some-true-clause-within c = within_full c.args.column.full c.args.column.may c.args.cells (search rules) (search rules) (search rules) c.requires

pub returns-in-Some-true-clause-known : goal.returns-in-Some-true-clause-known
returns-in-Some-true-clause-known c = λ k. known_full c.args.column.full c.args.column.may c.args.cells (search rules) (search rules) (search rules) c.requires k
    ∙ ap (λ (m : Option Bool). if is_set c.args.cells k then m else (known_bits c.args.column.full c.args.column.may (pos k))) (sym (c.in-Some-true.is ∙ ap Some c.in-Some-true.field-0-test))

pub returns-in-Some-false-clause-within : goal.returns-in-Some-false-clause-within
returns-in-Some-false-clause-within c = within_empty c.args.column.full c.args.column.may c.args.cells (search rules) (search rules) (search rules) c.requires

pub returns-in-Some-false-clause-known : goal.returns-in-Some-false-clause-known
returns-in-Some-false-clause-known c = λ k. known_empty c.args.column.full c.args.column.may c.args.cells (search rules) (search rules) (search rules) c.requires k
    ∙ ap (λ (m : Option Bool). if is_set c.args.cells k then m else (known_bits c.args.column.full c.args.column.may (pos k))) (sym (c.in-Some-false.is ∙ ap Some c.in-Some-false.field-0-test))

pub returns-in-None-clause-within : goal.returns-in-None-clause-within
returns-in-None-clause-within c = within_free c.args.column.full c.args.column.may c.args.cells (search rules) (search rules) (search rules) c.requires

pub returns-in-None-clause-known : goal.returns-in-None-clause-known
returns-in-None-clause-known c = λ k. known_free c.args.column.full c.args.column.may c.args.cells (search rules) (search rules) (search rules) c.requires k
    ∙ ap (λ (m : Option Bool). if is_set c.args.cells k then m else (known_bits c.args.column.full c.args.column.may (pos k))) (sym c.in-None.is)
