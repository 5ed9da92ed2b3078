-- The loops so far.
use Rattle.std.proofs.Common.{◌≡◌, map, take, pos}
use Rattle.faces.specs.PlaneFaces.{loop_in_space}
use Rattle.faces.proofs.space.face_of.Given as goal

abbrev pub invariant-loop-plane_loop : goal.invariant-loop-plane_loop
invariant-loop-plane_loop l = l.found.items ≡ map (loop_in_space l.out (pos l.at)) (take l.plane_loop-index l.loops)
