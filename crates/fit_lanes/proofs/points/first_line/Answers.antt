-- A line more on which nothing is drawn; the first on which something is; or none.
use Rattle.std.proofs.Common.{inl, inr, subst, ◌≡◌, arith}
use Rattle.std.proofs.lemmas.Bool.{both_ways, cases_lt}
use Rattle.fit_lanes.specs.Drawn.{DrawsLine}
use Rattle.fit_lanes.proofs.points.first_line.Goals as goal

pub returns-then-draws_line : goal.returns-then-draws_line
returns-then-draws_line c = record {
  within = (let e = c.across_of-line-end.ensures in let l = c.loop-line-test.true in omega (arith, e, l));
  drawn = c.draws_line.ensures.0 c.if-draws_line.true;
  first = c.loop-line.invariant;
}

pub loop-line-preserved : goal.loop-line-preserved
loop-line-preserved c m l d = elim (cases_lt m c.loop-line.line) as (λ _. ⊥) [
  | inl earlier ↦ c.loop-line.invariant m earlier d
  | inr later ↦ both_ways c.draws_line.result c.if-draws_line.false
      (c.draws_line.ensures.1 (subst (DrawsLine c.args.width c.args.height c.args.upright c.args.drawn.now) (let same : m ≡ c.loop-line.line = omega (arith, l, later) in same) d))
]

pub returns : goal.returns
returns c line within d = c.loop-line.invariant line (let e = c.across_of-line-end.ensures in let l = c.loop-line-test.false in omega (arith, e, l, within)) d
