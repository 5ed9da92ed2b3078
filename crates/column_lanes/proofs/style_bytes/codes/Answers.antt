-- Lane by lane.
use Rattle.std.proofs.Common.{bit_and}
use Rattle.column_lanes.proofs.EightLanes.{each_two, all_are, as_they_are, where_equal}
use Rattle.column_lanes.proofs.style_bytes.codes.Goals as goal

pub returns : goal.returns
returns c =
    let after = as_they_are c.args.after c.requires.after in
    let before = as_they_are c.args.before c.requires.before in
    where_equal after before (all_are 0)
    (where_equal (each_two bit_and after (c.near.ensures _ after)) (each_two bit_and before (c.near-2.ensures _ before)) (all_are 1) (all_are 2))
