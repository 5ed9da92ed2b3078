-- The lesser of what the two columns force.
use Rattle.std.proofs.Common.{None, true, false, ◌<◌, IsTrue, sym, subst}
use Rattle.std.proofs.lemmas.Bool.{both_ways}
use Rattle.line_demands.specs.Seen.{known_beside}
use Rattle.propagate.specs.Beside.{ExcludesAmong}
use Rattle.line_demands.specs.Excluding.{ExcludesOpen}
use Rattle.propagate.specs.Looking.{TellsLeast}
use Rattle.line_demands.proofs.SeenCells.{seen_draws, draws_back}
use Rattle.propagate.proofs.LineCells.{line_told, among_told, open_inside}
use Rattle.line_demands.proofs.LowestLeft.{none_of_either}
use Rattle.propagate.proofs.line.forced_by_line.Goals as goal
use Rattle.solid_model.specs.Blocks.{ProblemParts, IsBlocksOf}
use Rattle.lemmas.specs.Bits.{is_set}
use Rattle.solid_model.specs.Decisions.{decided_by}
use Rattle.solid_model.specs.Demands.{has_line}
use Rattle.solid_model.specs.Frames.{frame_of}
use Rattle.solid_model.specs.GridBox.{grid_sizes}

pub doubted-after-requires-clause-met : goal.doubted-after-requires-clause-met
doubted-after-requires-clause-met c =
    let p = c.args.partial.now.problem in
    seen_draws p (decided_by c.args.partial.now.decisions) c.args.seen c.requires.seen c.requires.met

pub doubted-before-requires-clause-met : goal.doubted-before-requires-clause-met
doubted-before-requires-clause-met c =
    let p = c.args.partial.now.problem in
    let s = c.args.seen in
    draws_back (known_beside s true) (known_beside s false) s.style
    (seen_draws p (decided_by c.args.partial.now.decisions) s c.requires.seen c.requires.met)

pub returns-then-after-before-eq0 : goal.returns-then-after-before-eq0
returns-then-after-before-eq0 c =
    let p = c.args.partial.now.problem in
    let known = decided_by c.args.partial.now.decisions in
    let s = c.args.seen in
    let blocks = c.known.ensures.blocks in
    let none = none_of_either c.doubted-after.result c.doubted-before.result c.if-after-before-eq0.true in
    line_told p blocks known s c.requires.seen None None
    (among_told p blocks known s c.requires.seen true c.doubted-after.result None c.doubted-after.ensures (λ b v (k, set, _). both_ways (is_set c.doubted-after.result k) (none k).0 set))
    (among_told p blocks known s c.requires.seen false c.doubted-before.result None c.doubted-before.ensures (λ b v (k, set, _). both_ways (is_set c.doubted-before.result k) (none k).1 set))

pub forced_among-requires-clause-line : goal.forced_among-requires-clause-line
forced_among-requires-clause-line c = subst (λ (q : ProblemParts). IsTrue (has_line q.grid c.args.seen.line)) (sym c.problem-problem.ensures) c.requires.seen.has

pub forced_among-requires-clause-inside : goal.forced_among-requires-clause-inside
forced_among-requires-clause-inside c = λ k set.
    let p = c.args.partial.now.problem in
    let s = c.args.seen in
    subst (λ (q : ProblemParts). k < grid_sizes q.grid (frame_of s.line.view).away.axis) (sym c.problem-problem.ensures)
    (open_inside p c.known.ensures.blocks (decided_by c.args.partial.now.decisions) s c.requires.seen true k
    (c.doubted-after.ensures.undecided k set))

pub forced_among-requires-2-clause-line : goal.forced_among-requires-2-clause-line
forced_among-requires-2-clause-line c = subst (λ (q : ProblemParts). IsTrue (has_line q.grid c.args.seen.line)) (sym c.problem-problem.ensures) c.requires.seen.has

pub forced_among-requires-2-clause-inside : goal.forced_among-requires-2-clause-inside
forced_among-requires-2-clause-inside c = λ k set.
    let p = c.args.partial.now.problem in
    let s = c.args.seen in
    subst (λ (q : ProblemParts). k < grid_sizes q.grid (frame_of s.line.view).away.axis) (sym c.problem-problem.ensures)
    (open_inside p c.known.ensures.blocks (decided_by c.args.partial.now.decisions) s c.requires.seen false k
    (c.doubted-before.ensures.undecided k set))

pub returns : goal.returns
returns c =
    let p = c.args.partial.now.problem in
    let known = decided_by c.args.partial.now.decisions in
    let s = c.args.seen in
    let blocks = c.known.ensures.blocks in
    subst (TellsLeast (ExcludesOpen p known s.line)) (sym c.lesser.ensures)
    (line_told p blocks known s c.requires.seen c.forced_among.result c.forced_among-2.result
    (among_told p blocks known s c.requires.seen true c.doubted-after.result c.forced_among.result c.doubted-after.ensures
    (subst (λ (q : ProblemParts). TellsLeast (ExcludesAmong q s true c.doubted-after.result) c.forced_among.result) c.problem-problem.ensures c.forced_among.ensures))
    (among_told p blocks known s c.requires.seen false c.doubted-before.result c.forced_among-2.result c.doubted-before.ensures
    (subst (λ (q : ProblemParts). TellsLeast (ExcludesAmong q s false c.doubted-before.result) c.forced_among-2.result) c.problem-problem.ensures c.forced_among-2.ensures)))
