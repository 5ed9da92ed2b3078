-- The faces so far.
use Rattle.std.proofs.Common.{◌≡◌, ◌++◌, map, take, pos}
use Rattle.faces.specs.PlaneFaces.{face_of}
use Rattle.faces.proofs.space.add_faces.Given as goal

abbrev pub invariant-loop-loops : goal.invariant-loop-loops
invariant-loop-loops l =
    l.faces.items ≡ l.initial.faces.items ++ map (face_of l.out (pos l.at)) (map (λ g. g.items) (take l.loops-index l.groups))
