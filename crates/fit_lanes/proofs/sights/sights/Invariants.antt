-- The spans behind the places so far.
use Rattle.std.proofs.Common.{map}
use Rattle.solid_model.specs.PerAxis.{numbers_of}
use Rattle.lemmas.proofs.Pushed.{HoldsSoFar}
use Rattle.fit_lanes.specs.Sights.{IsSightAt}
use Rattle.fit_lanes.proofs.sights.sights.Given as goal

abbrev pub invariant-loop-place : goal.invariant-loop-place
invariant-loop-place l = HoldsSoFar (IsSightAt l.layer (numbers_of l.sizes) l.rows.numbers l.kept) (map (λ r. r.items) l.sights.items) l.place
