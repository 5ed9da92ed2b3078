-- The neighbour gets a mark.
use Rattle.std.proofs.Common.{length, ◌≡◌, ◌<◌, ◌∙◌, rules}
use Rattle.std.proofs.lemmas.List.{get_or_default}
use Rattle.flood.specs.NodeMarks.{no_mark, mark_of}
use Rattle.flood.proofs.Spreading.{spreads_one}
use Rattle.flood.proofs.flood.visit.Goals as goal

pub returns-then-marks-node-clause-spreads : goal.returns-then-marks-node-clause-spreads
returns-then-marks-node-clause-spreads c =
    let marks = c.args.marks.now in
    let node = c.in-Some.node in
    let within : node < length marks = search rules in
    let none : mark_of marks node ≡ no_mark = get_or_default marks node no_mark 0 within ∙ c.if-marks-node.true in
    rw (c.mark.ensures.marks, c.mark.ensures.stack)
    (spreads_one c.args.neighbour node c.args.number marks c.args.stack.now.items c.in-Some.is within none c.requires.number)
