-- All words.
use Rattle.std.proofs.Common.{◌*◌, ◌≤◌, length, arith}
use Rattle.lemmas.proofs.KeptBits.{all_values}
use Rattle.solid_model.proofs.prefix.Prefix.from_bools.Goals as goal

pub returns : goal.returns
returns c =
    let values = c.args.values.now in
    let enough : length values ≤ c.loop-number.number * 64 = omega (arith, c.div_ceil-number-end.ensures) in
    all_values values c.loop-number.words.items c.loop-number.number c.loop-number.invariant enough
