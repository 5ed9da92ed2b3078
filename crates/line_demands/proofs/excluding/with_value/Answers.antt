-- A bit is set or taken away.
use Rattle.std.proofs.Common.{◌<◌, ◌^◌, rules, ap, sym, ◌∙◌}
use Rattle.solid_model.specs.Known.{known_bits}
use Rattle.solid_model.specs.Forcing.{with_value}
use Rattle.line_demands.proofs.ValueBits.{within_more, within_less, known_more, known_less}
use Rattle.line_demands.proofs.excluding.with_value.Goals as goal

pub returns-then-value-clause-within : goal.returns-then-value-clause-within
returns-then-value-clause-within c =
    let fits : c.args.column.may < 2 ^ 64 = search rules in
    within_more c.args.column.full c.args.column.may c.args.depth c.requires.within c.requires.depth fits c.requires.undecided

pub returns-then-value-clause-known : goal.returns-then-value-clause-known
returns-then-value-clause-known c = λ k.
    let fits : c.args.column.may < 2 ^ 64 = search rules in
    known_more c.args.column.full c.args.column.may c.args.depth c.requires.within c.requires.depth fits c.requires.undecided k
    ∙ ap (λ v. with_value c.args.depth v (known_bits c.args.column.full c.args.column.may) k) (sym c.if-value.true)

pub returns-else-value-clause-within : goal.returns-else-value-clause-within
returns-else-value-clause-within c =
    let fits : c.args.column.may < 2 ^ 64 = search rules in
    within_less c.args.column.full c.args.column.may c.args.depth c.requires.within c.requires.depth fits c.requires.undecided

pub returns-else-value-clause-known : goal.returns-else-value-clause-known
returns-else-value-clause-known c = λ k.
    let fits : c.args.column.may < 2 ^ 64 = search rules in
    known_less c.args.column.full c.args.column.may c.args.depth c.requires.within c.requires.depth fits c.requires.undecided k
    ∙ ap (λ v. with_value c.args.depth v (known_bits c.args.column.full c.args.column.may) k) (sym c.if-value.false)
