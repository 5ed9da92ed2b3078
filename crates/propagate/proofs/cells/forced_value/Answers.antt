-- Both values are tried.
use Rattle.std.proofs.Common.{Bool, true, false}
use Rattle.solid_model.specs.Known.{known_bits}
use Rattle.line_demands.specs.Doubted.{CanDrawWith}
use Rattle.propagate.proofs.cells.forced_value.Goals as goal

either_value : (P : Bool → Type 0) → P true → P false → (v : Bool) → P v
either_value P t f true = t
either_value P t f false = f

pub returns : goal.returns
returns c = λ _ block value (at, none, out). out
    (either_value (CanDrawWith (known_bits c.args.column.full c.args.column.may) (known_bits c.args.beside.full c.args.beside.may) c.args.style c.args.depth)
    (c.can_draw_with-2.ensures.0 c.if-not-can_draw_with-2.false) (c.can_draw_with.ensures.0 c.if-not-can_draw_with.false) value)
