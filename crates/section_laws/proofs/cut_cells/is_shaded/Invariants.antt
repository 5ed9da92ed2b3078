-- None is chosen so far.
use Rattle.std.proofs.Common.{◌≡◌, ◌≤◌, ◌<◌, true, false, ℕ, slice_index_or, if◌then◌else◌}
use Rattle.solid_model.specs.GridPlaces.{place_in}
use Rattle.solid_model.specs.PerAxis.{numbers_of, numbered}
use Rattle.section_laws.proofs.cut_cells.is_shaded.Given as goal

abbrev pub invariant-loop-number : goal.invariant-loop-number
invariant-loop-number l = ((if l.away.forward then l.first else l.own) ≤ l.number)
    × ((m : ℕ) → (if l.away.forward then l.first else l.own) ≤ m → m < l.number
    → slice_index_or l.cells (place_in (numbers_of l.sizes) (numbered l.away.axis m (numbers_of l.cell))) false ≡ true → ⊥)
