-- The numbers of zeros below the first full depths are compared.
use Rattle.std.proofs.Common.{◌<◌, ◌^◌, rules}
use Rattle.fit_lanes.proofs.LeftBits.{left_blank, left_solid}
use Rattle.fit_lanes.proofs.cuts.left_style.Goals as goal

pub returns-then-after-before : goal.returns-then-after-before
returns-then-after-before c kept a b after_within before_within of_after of_before =
    let after : c.args.after.0 < 2 ^ 64 = search rules in
    let before : c.args.before.0 < 2 ^ 64 = search rules in
    left_blank kept c.args.after.0 c.args.before.0 a b of_after of_before after_within before_within after before c.if-after-before.true

pub returns-else-after-before : goal.returns-else-after-before
returns-else-after-before c kept a b after_within before_within of_after of_before =
    let after : c.args.after.0 < 2 ^ 64 = search rules in
    let before : c.args.before.0 < 2 ^ 64 = search rules in
    left_solid kept c.args.after.0 c.args.before.0 a b of_after of_before after_within before_within after before c.if-after-before.false
