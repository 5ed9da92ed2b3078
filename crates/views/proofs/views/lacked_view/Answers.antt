-- Each view that comes before the one that is lacked isn't missing.
use Rattle.std.proofs.Common.{ap, subst, arith}
use mir.Val.{bool_byte}
use Rattle.solid_model.specs.declared.frame.View.TheVariants.{Front, Top}
use Rattle.views.specs.Missing.{TellsMissing}
use Rattle.views.proofs.Missing.{none_lacked, front_lacked, top_lacked, side_lacked}
use Rattle.views.proofs.views.lacked_view.Goals as goal

pub returns-then-from : goal.returns-then-from
returns-then-from c ls f t s =
    none_lacked ls c.args.two_views c.args.front c.args.top c.args.side (omega (arith, c.from.ensures, c.from-2.ensures, c.from-3.ensures, c.from-4.ensures)) f t s

pub returns-then-front : goal.returns-then-front
returns-then-front c ls f t s =
    let is = ap bool_byte c.if-front.true in
    front_lacked ls c.args.two_views c.args.top c.args.side (omega (arith, c.from.ensures, c.from-2.ensures, c.from-3.ensures, c.from-4.ensures, is))
    (subst (TellsMissing ls Front) c.if-front.true f) t s

pub returns-then-top : goal.returns-then-top
returns-then-top c ls f t s =
    let is_not = ap bool_byte c.if-front.false in
    let is = ap bool_byte c.if-top.true in
    top_lacked ls c.args.two_views c.args.side (omega (arith, c.from.ensures, c.from-2.ensures, c.from-3.ensures, c.from-4.ensures, is_not, is))
    (subst (TellsMissing ls Front) c.if-front.false f) (subst (TellsMissing ls Top) c.if-top.true t) s

pub returns-else-top : goal.returns-else-top
returns-else-top c ls f t s =
    let not_front = ap bool_byte c.if-front.false in
    let not_top = ap bool_byte c.if-top.false in
    side_lacked ls c.args.two_views c.args.side (omega (arith, c.from.ensures, c.from-2.ensures, c.from-3.ensures, c.from-4.ensures, not_front, not_top))
    (subst (TellsMissing ls Front) c.if-front.false f) (subst (TellsMissing ls Top) c.if-top.false t) s
