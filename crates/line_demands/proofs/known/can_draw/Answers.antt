-- Style by style.
use Rattle.std.proofs.Common.{◌↔◌, IsTrue, sym, subst}
use Rattle.solid_model.specs.declared.segment.Style.{Style}
use Rattle.solid_model.specs.Demands.{CanDraw}
use Rattle.solid_model.specs.Known.{known_bits}
use Rattle.line_demands.proofs.known.can_draw.Goals as goal

pub returns-in-Blank : goal.returns-in-Blank
returns-in-Blank c = subst (λ (style : Style). IsTrue c.can_be_equal.result ↔ CanDraw (known_bits c.args.after.full c.args.after.may) (known_bits c.args.before.full c.args.before.may) style) (sym c.in-Blank.is) c.can_be_equal.ensures

pub returns-in-Dashed : goal.returns-in-Dashed
returns-in-Dashed c = subst (λ (style : Style). IsTrue c.can_part_behind.result ↔ CanDraw (known_bits c.args.after.full c.args.after.may) (known_bits c.args.before.full c.args.before.may) style) (sym c.in-Dashed.is) c.can_part_behind.ensures

pub returns-in-Solid : goal.returns-in-Solid
returns-in-Solid c = subst (λ (style : Style). IsTrue c.can_begin_apart.result ↔ CanDraw (known_bits c.args.after.full c.args.after.may) (known_bits c.args.before.full c.args.before.may) style) (sym c.in-Solid.is) c.can_begin_apart.ensures
