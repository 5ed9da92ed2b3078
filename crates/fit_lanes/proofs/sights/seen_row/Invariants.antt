-- The bits of the cells so far.
use Rattle.solid_model.specs.GridPlaces.{number_on}
use Rattle.solid_model.specs.PerAxis.{numbers_of}
use Rattle.lemmas.specs.Bits.{is_set}
use Rattle.fit_lanes.proofs.SightRows.{GoesTo}
use Rattle.fit_lanes.proofs.sights.seen_row.Given as goal

abbrev pub invariant-loop-depth : goal.invariant-loop-depth
invariant-loop-depth l = GoesTo (λ k. is_set l.row (number_on (numbers_of l.sizes) l.away k)) l.depth l.seen
