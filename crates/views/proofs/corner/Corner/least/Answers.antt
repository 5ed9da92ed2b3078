use Rattle.std.proofs.Common.{arith}
use Rattle.std.proofs.lemmas.Int.{ints, clamps}
use Rattle.views.proofs.CornerSteps.{least_in_code}
use Rattle.views.proofs.corner.Corner.least.Goals as goal

pub invariant_of-result : goal.invariant_of-result
invariant_of-result c = record {
  near_right = (omega (arith, ints, clamps), omega (arith, ints, clamps));
  near_up = (omega (arith, ints, clamps), omega (arith, ints, clamps));
}

pub returns : goal.returns
returns c =
    let a = c.args.self in
    let b = c.args.other in
    record {
      right = least_in_code a.right b.right c.min.result a.near_right b.near_right (record { sfits = c.min.type_inv }) c.min.ensures.value;
      up = least_in_code a.up b.up c.min-2.result a.near_up b.near_up (record { sfits = c.min-2.type_inv }) c.min-2.ensures.value;
    }
