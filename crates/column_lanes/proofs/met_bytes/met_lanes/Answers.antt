-- Lane by lane.
use Rattle.std.proofs.Common.{ℕ, List, bit_and, bit_or}
use Rattle.std.specs.Int.RustNames.{bit_xor}
use Rattle.column_lanes.specs.Lanes.{AreLanes}
use Rattle.column_lanes.specs.Meets.{bits_without}
use Rattle.column_lanes.proofs.EightLanes.{each_two, all_are, as_they_are, where_equal}
use Rattle.column_lanes.proofs.met_bytes.met_lanes.Goals as goal
use lib.Lanes.{zip2}

each_without : {xs ys : List ℕ} {x y : ℕ → ℕ} → AreLanes xs x → AreLanes ys y → AreLanes (zip2 bit_xor xs (zip2 bit_and xs ys)) (λ k. bits_without (x k) (y k))
each_without xs_are ys_are = each_two bit_xor xs_are (each_two bit_and xs_are ys_are)

pub returns : goal.returns
returns c =
    let full_l = as_they_are c.args.full_l c.requires.full_l in
    let may_l = as_they_are c.args.may_l c.requires.may_l in
    let full_r = as_they_are c.args.full_r c.requires.full_r in
    let may_r = as_they_are c.args.may_r c.requires.may_r in
    let want = as_they_are c.args.want c.requires.want in
    let zero = all_are 0 in
    let one = all_are 1 in
    let must_differ = each_two bit_or (each_without full_l may_r) (each_without full_r may_l) in
    let can_differ = each_two bit_or (each_without may_l full_r) (each_without may_r full_l) in
    let down_to_full = c.near-down_to_full.ensures _ (each_two bit_or full_l full_r) in
    let begin = each_two bit_and (each_two bit_and may_l may_r) down_to_full in
    let behind = each_without can_differ (c.near.ensures _ begin) in
    where_equal want zero (where_equal must_differ zero one zero)
    (where_equal want one (where_equal behind zero zero one) (where_equal (each_two bit_and can_differ down_to_full) zero zero one))
