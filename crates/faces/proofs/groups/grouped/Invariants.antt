-- The groups of the loops so far.
use Rattle.std.proofs.Common.{map}
use Rattle.faces.specs.declared.plane_loop.PlaneLoop.{PlaneLoop}
use Rattle.faces.specs.SquareSteps.{number_of}
use Rattle.faces.proofs.Grouping.{AreSoFar}
use Rattle.faces.proofs.groups.grouped.Given as goal

abbrev pub invariant-loop-plane_loop : goal.invariant-loop-plane_loop
invariant-loop-plane_loop l =
    (goal.iterator-loop-plane_loop).can_next l.plane_loop-iterator ×
    (goal.iterator-loop-plane_loop).is_finite l.plane_loop-iterator ×
    AreSoFar (λ (p : PlaneLoop). number_of l.components.numbers.items p.square) l.components.count l.yielded l.table.items (map (λ g. g.items) l.groups.items)
