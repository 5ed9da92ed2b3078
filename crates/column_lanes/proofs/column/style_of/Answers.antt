-- The numbers of zeros below the lowest bits are compared.
use Rattle.std.proofs.Common.{◌<◌, ◌^◌, rules}
use Rattle.std.proofs.lemmas.Nat.{xor_lt}
use Rattle.solid_model.proofs.FirstBits.{dashed_from_zeros, solid_from_zeros}
use Rattle.column_lanes.proofs.column.style_of.Goals as goal

pub returns-then-after-before-2 : goal.returns-then-after-before-2
returns-then-after-before-2 c =
    let after : c.args.after.0 < 2 ^ 64 = search rules in
    let before : c.args.before.0 < 2 ^ 64 = search rules in
    dashed_from_zeros _ _ after before (xor_lt 64 _ _ after before) c.if-after-before.false c.if-after-before-2.true

pub returns-else-after-before-2 : goal.returns-else-after-before-2
returns-else-after-before-2 c = solid_from_zeros _ _ (search rules) (search rules) c.if-after-before-2.false
