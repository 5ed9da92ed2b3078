-- Style by style.
use Rattle.std.proofs.Common.{sym, subst}
use Rattle.solid_model.specs.Known.{known_bits}
use Rattle.line_demands.specs.Doubted.{IsDoubted}
use Rattle.line_demands.proofs.doubts.doubted.Goals as goal
use Rattle.solid_model.specs.declared.segment.Style.{Style}
use Rattle.solid_model.specs.Demands.{CanDraw}

pub doubted_equal-requires-clause-met : goal.doubted_equal-requires-clause-met
doubted_equal-requires-clause-met c = subst (λ (style : Style). CanDraw (known_bits c.args.column.full c.args.column.may) (known_bits c.args.beside.full c.args.beside.may) style) c.in-Blank.is c.requires.met

pub returns-in-Blank : goal.returns-in-Blank
returns-in-Blank c = subst (λ (style : Style). IsDoubted (known_bits c.args.column.full c.args.column.may) (known_bits c.args.beside.full c.args.beside.may) style c.doubted_equal.result) (sym c.in-Blank.is) c.doubted_equal.ensures

pub doubted_behind-requires-clause-met : goal.doubted_behind-requires-clause-met
doubted_behind-requires-clause-met c = subst (λ (style : Style). CanDraw (known_bits c.args.column.full c.args.column.may) (known_bits c.args.beside.full c.args.beside.may) style) c.in-Dashed.is c.requires.met

pub returns-in-Dashed : goal.returns-in-Dashed
returns-in-Dashed c = subst (λ (style : Style). IsDoubted (known_bits c.args.column.full c.args.column.may) (known_bits c.args.beside.full c.args.beside.may) style c.doubted_behind.result) (sym c.in-Dashed.is) c.doubted_behind.ensures

pub doubted_apart-requires-clause-met : goal.doubted_apart-requires-clause-met
doubted_apart-requires-clause-met c = subst (λ (style : Style). CanDraw (known_bits c.args.column.full c.args.column.may) (known_bits c.args.beside.full c.args.beside.may) style) c.in-Solid.is c.requires.met

pub returns-in-Solid : goal.returns-in-Solid
returns-in-Solid c = subst (λ (style : Style). IsDoubted (known_bits c.args.column.full c.args.column.may) (known_bits c.args.beside.full c.args.beside.may) style c.doubted_apart.result) (sym c.in-Solid.is) c.doubted_apart.ensures
