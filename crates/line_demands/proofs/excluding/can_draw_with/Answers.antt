-- The column with the value is tried.
use Rattle.solid_model.specs.Known.{known_bits}
use Rattle.line_demands.proofs.ValueBits.{draws_with}
use Rattle.line_demands.proofs.excluding.can_draw_with.Goals as goal

pub returns : goal.returns
returns c =
    let drawn = draws_with (known_bits c.args.column.full c.args.column.may) (known_bits c.args.beside.full c.args.beside.may)
    (known_bits c.with_value.result.full c.with_value.result.may) c.args.style c.args.depth c.args.value c.requires.undecided c.with_value.ensures.known in
    (λ e. drawn.0 (c.can_draw.ensures.0 e), λ with. c.can_draw.ensures.1 (drawn.1 with))
