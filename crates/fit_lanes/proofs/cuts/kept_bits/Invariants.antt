-- The bits of the depths so far.
use Rattle.fit_lanes.specs.Cuts.{is_kept}
use Rattle.fit_lanes.proofs.SightRows.{GoesTo}
use Rattle.fit_lanes.proofs.cuts.kept_bits.Given as goal

abbrev pub invariant-loop-depth : goal.invariant-loop-depth
invariant-loop-depth l = GoesTo (is_kept l.area l.first) l.depth l.bits
