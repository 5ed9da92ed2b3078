-- The ends so far.
use Rattle.std.proofs.Common.{◌≡◌, take}
use Rattle.stl_out.specs.CornerParts.{all_ends}
use Rattle.stl_out.proofs.corner_parts.ends.Given as goal

abbrev pub invariant-loop-z : goal.invariant-loop-z
invariant-loop-z l = l.ends.items ≡ all_ends (take l.z-index l.zs)
