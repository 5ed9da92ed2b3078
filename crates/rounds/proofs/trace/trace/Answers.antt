-- The start, and one node more; and back at the start.
use Rattle.std.proofs.Common.{◌<◌, length, arith}
use Rattle.rounds.proofs.Tracing.{traces_begin, traces_more, traces_end}
use Rattle.rounds.proofs.trace.trace.Goals as goal

pub loop-node-init : goal.loop-node-init
loop-node-init g c =
    let s = c.args.succession.now in
    let nodes = g.S.Succession.nodes s in
    let inside = g.S.Succession.inside s in
    let start = c.args.start in
    let within : start < length c.args.marks.now = omega (arith, c.requires.start.0, c.requires.size) in
    let on_next = rw c.following-node.ensures.next at c.following-node.ensures.inside in
    rw (c.in_ok-mark.ensures.marks, c.in_ok-mark.ensures.round, c.new-round.ensures.items, c.following-node.ensures.next)
    (traces_begin nodes inside (g.S.Succession.next s) start c.args.marks.now c.requires.start within c.requires.none
    c.requires.closed on_next)

pub mark-requires-in-loop-node-clause-node : goal.mark-requires-in-loop-node-clause-node
mark-requires-in-loop-node-clause-node g c =
    omega (arith, c.loop-node.invariant.stays.0, c.loop-node.invariant.marking.size, c.requires.size)

pub mark-requires-in-loop-node-clause-none : goal.mark-requires-in-loop-node-clause-none
mark-requires-in-loop-node-clause-none g c = c.loop-node.invariant.ahead c.loop-node-test.true

pub following-node-requires-in-loop-node : goal.following-node-requires-in-loop-node
following-node-requires-in-loop-node g c = c.loop-node.invariant.stays

pub loop-node-smaller : goal.loop-node-smaller
loop-node-smaller g c = let fewer = c.in_ok-mark-2.ensures.few in omega (arith, fewer)

pub loop-node-preserved : goal.loop-node-preserved
loop-node-preserved g c =
    let s = c.args.succession.now in
    let node = c.loop-node.node in
    let so_far = c.loop-node.invariant in
    let within : node < length c.loop-node.marks = omega (arith, so_far.stays.0, so_far.marking.size, c.requires.size) in
    let on_next = rw c.following-node-in-loop-node.ensures.next at c.following-node-in-loop-node.ensures.inside in
    rw (c.in_ok-mark-2.ensures.marks, c.in_ok-mark-2.ensures.round, c.following-node-in-loop-node.ensures.next)
    (traces_more (g.S.Succession.nodes s) (g.S.Succession.inside s) (g.S.Succession.next s) c.args.start c.args.marks.now
    c.following-node.ensures.one_to_one c.loop-node.marks c.loop-node.round.items node so_far c.loop-node-test.true within
    on_next)

pub returns : goal.returns
returns g c =
    let s = c.args.succession.now in
    traces_end (g.S.Succession.nodes s) (g.S.Succession.inside s) (g.S.Succession.next s) c.args.start c.args.marks.now
    c.following-node.ensures.one_to_one c.loop-node.marks c.loop-node.round.items c.loop-node.node c.loop-node.invariant
    c.loop-node-test.false
