-- The points of an upright line stand a row apart, those of a level one beside one another.
use Rattle.std.proofs.Common.{◌↔◌, IsTrue, sym, subst}
use Rattle.fit_lanes.specs.Drawn.{DrawsLine}
use Rattle.fit_lanes.proofs.points.draws_line.Goals as goal

pub returns-then-upright : goal.returns-then-upright
returns-then-upright c = subst (λ u. IsTrue c.draws_from.result ↔ DrawsLine c.args.width c.args.height u c.args.drawn.now c.args.line) (sym c.if-upright.true) c.draws_from.ensures

pub returns-else-upright : goal.returns-else-upright
returns-else-upright c = subst (λ u. IsTrue c.draws_from-else-upright.result ↔ DrawsLine c.args.width c.args.height u c.args.drawn.now c.args.line) (sym c.if-upright.false) c.draws_from-else-upright.ensures
