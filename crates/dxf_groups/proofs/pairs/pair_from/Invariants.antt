-- What was passed over isn't given.
use Rattle.std.proofs.Common.{◌≡◌, ◌-◌, length}
use Rattle.dxf_groups.specs.Groups.{wanted_on}
use Rattle.dxf_groups.specs.ReadPairs.{IsPlaceIn, pairs_at}
use Rattle.dxf_groups.proofs.pairs.pair_from.Given as goal

abbrev pub invariant-loop-read : goal.invariant-loop-read
invariant-loop-read g l = let wanted = g.T.CodeTest.wanted l.fn.test in record {
  place : IsPlaceIn l.fn.text l.place.start l.place.line;
  passed : wanted_on wanted (pairs_at l.fn.text l.fn.start l.fn.line)
      ≡ wanted_on wanted (pairs_at l.fn.text l.place.start l.place.line);
}

abbrev pub decreases-loop-read : goal.decreases-loop-read
decreases-loop-read g l = length l.fn.text - l.place.start
