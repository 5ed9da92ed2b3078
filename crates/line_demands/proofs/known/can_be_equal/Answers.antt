-- No depth is left at which one must be full and the other one can't be.
use Rattle.std.proofs.Common.{bit_or}
use Rattle.std.proofs.lemmas.Bool.{eqb-true, eq-eqb}
use Rattle.solid_model.proofs.KnownBits.{blank_from, blank_to}
use Rattle.line_demands.proofs.known.can_be_equal.Goals as goal

pub returns : goal.returns
returns c =
    let after = c.args.after in
    let before = c.args.before in (
      λ none. blank_from after.full after.may before.full before.may c.requires.after c.requires.before c.without.result c.without-2.result c.without.ensures c.without-2.ensures (eqb-true (bit_or c.without.result c.without-2.result) 0 none),
      λ drawn. eq-eqb (bit_or c.without.result c.without-2.result) 0 (blank_to after.full after.may before.full before.may c.requires.after c.requires.before c.without.result c.without-2.result c.without.ensures c.without-2.ensures drawn),
    )
