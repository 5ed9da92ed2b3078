use Rattle.std.proofs.Common.{◌≤◌}
use Rattle.solution_book.specs.Editions.{EditionParts, Begins}
use Rattle.left_right.specs.Sides.{view}
use Rattle.solution_book.proofs.reader.learnt.Given as goal

-- what goes on from what is known now goes on from what was known
abbrev pub invariant-loop : goal.invariant-loop
invariant-loop g l = (goal.iterator-loop g).can_next l.iterator' × (goal.iterator-loop g).is_finite l.iterator'
    × ((e : EditionParts) → Begins e (view l.lens.place).edition → Begins e (view l.initial.lens.place).edition)
    × ((view l.initial.lens.place).looks ≤ (view l.lens.place).looks)
