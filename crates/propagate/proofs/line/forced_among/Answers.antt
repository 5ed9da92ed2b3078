-- The lowest cell that is left is taken.
use Rattle.std.proofs.Common.{◌<◌, ◌-◌, ◌==◌, rules, ap, sym, subst, ◌∙◌, arith}
use Rattle.std.proofs.lemmas.Nat.Bits.{bit_at-zero}
use Rattle.line_demands.specs.Excluding.{ExcludesAt}
use Rattle.propagate.specs.Beside.{ExcludesAmong}
use Rattle.propagate.specs.Looking.{TellsLeast}
use Rattle.propagate.proofs.Least.{Taken, told_alike, told_more}
use Rattle.line_demands.proofs.LowestLeft.{rest_higher}
use Rattle.propagate.proofs.line.forced_among.Goals as goal
use Rattle.lemmas.specs.Bits.{is_set}
use Rattle.lemmas.proofs.WordBits.{zeros, lowest_set}

pub forced_at-requires-clause-depth : goal.forced_at-requires-clause-depth
forced_at-requires-clause-depth c =
    let left = c.loop-left.left in
    c.requires.inside (zeros left) (c.loop-left.invariant.within (zeros left) (lowest_set left c.loop-left.invariant.fits c.loop-left-test.true).0)

pub forced_at-requires-clause-within : goal.forced_at-requires-clause-within
forced_at-requires-clause-within c =
    (lowest_set c.loop-left.left c.loop-left.invariant.fits c.loop-left-test.true).1

pub forced_at-requires-clause-open : goal.forced_at-requires-clause-open
forced_at-requires-clause-open c =
    let left = c.loop-left.left in
    c.requires.open (zeros left) (c.loop-left.invariant.within (zeros left) (lowest_set left c.loop-left.invariant.fits c.loop-left-test.true).0)

pub loop-left-smaller : goal.loop-left-smaller
loop-left-smaller c =
    let left = c.loop-left.left in
    let rest = c.without_lowest-left.result in
    let higher = rest_higher left rest c.loop-left.invariant.fits (search rules) c.loop-left-test.true c.without_lowest-left.ensures in
    let within = (lowest_set left c.loop-left.invariant.fits c.loop-left-test.true).1 in
    let smaller : 64 - zeros rest < 64 - zeros left = omega (arith, higher, within) in
    smaller

pub loop-left-preserved : goal.loop-left-preserved
loop-left-preserved c =
    let left = c.loop-left.left in
    let rest = c.without_lowest-left.result in
    let excludes = ExcludesAt c.args.problem.now c.args.seen c.args.of_after in record {
      fits = search rules;
      within = λ k set. c.loop-left.invariant.within k ((c.without_lowest-left.ensures k).0 set).0;
      told = subst (TellsLeast (Taken excludes c.args.cells rest)) (sym c.lesser-least.ensures)
          (told_more excludes c.args.cells left rest c.loop-left.invariant.fits (search rules) c.loop-left-test.true c.without_lowest-left.ensures
          (c.loop-left.invariant.within (zeros left) (lowest_set left c.loop-left.invariant.fits c.loop-left-test.true).0) c.loop-left.least c.forced_at.result c.loop-left.invariant.told c.forced_at.ensures);
    }

pub returns : goal.returns
returns c =
    let excludes = ExcludesAt c.args.problem.now c.args.seen c.args.of_after in
    let cells = c.args.cells in
    told_alike (Taken excludes cells c.loop-left.left) (ExcludesAmong c.args.problem.now c.args.seen c.args.of_after cells) c.loop-left.least
    (λ b v (k, set, _, e). (k, set, e))
    (λ b v (k, set, e). (k, set, ap (λ n. is_set n k) c.loop-left-test.false ∙ ap (λ n. n == 1) (bit_at-zero k), e))
    c.loop-left.invariant.told
