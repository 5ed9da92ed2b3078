-- One node more; and all of them.
use Rattle.std.proofs.Common.{◌≡◌, ◌<◌, ◌≤◌, length, vec_len, vec_capacity, ◌∙◌, sym, ap, subst, true, arith}
use Rattle.std.proofs.lemmas.Grind.{common_steps}
use Rattle.std.proofs.lemmas.List.{get_or_default}
use Rattle.flood.specs.NodeMarks.{no_mark, IsMarked, Numbers}
use Rattle.flood.proofs.Numbered.{numbers_skip, numbers_more}
use Rattle.flood.proofs.numbering.number_nodes.Goals as goal
use Rattle.flood.proofs.numbering.number_nodes.Goals.{then-marks-node, else-marks-node}

pub loop-node-preserved : goal.loop-node-preserved
loop-node-preserved g c =
    let step = g.G.Graph.steps c.args.graph.now in
    let nodes = g.G.Graph.nodes c.args.graph.now in
    let node = c.loop-node.node in
    let count = c.loop-node.count in
    let marks = c.loop-node.marks in
    let so_far = c.loop-node.invariant.numbers in
    let inside : node < nodes = omega (arith, c.loop-node-test.true, c.node_count-node-end.ensures) in
    let within : node < length marks = omega (arith, so_far.listed, inside) in
    let small : count < no_mark = omega (arith, so_far.few, inside, c.requires.few) in
    elim c.if-marks-node.branch [
      | then-marks-node w ↦ (let none = get_or_default marks node no_mark 0 within ∙ w.if-marks-node.true in record {
        numbers = rw (w.marks-is, w.count-is)
            (numbers_more step nodes (λ _. true) marks w.flood.new.marks node count so_far small c.requires.back none w.flood.ensures.floods);
        empty = ap vec_len w.stack-is ∙ w.flood.ensures.empty;
        room = subst (λ n. nodes ≤ n) (sym (ap vec_capacity w.stack-is ∙ w.flood.ensures.capacity)) c.loop-node.invariant.room;
      })
      | else-marks-node w ↦ (let has : IsMarked marks node = grind (arith, common_steps) in record {
        numbers = rw (w.marks-is, w.count-is) (numbers_skip step nodes (λ _. true) marks node count so_far has);
        empty = ap vec_len w.stack-is ∙ c.loop-node.invariant.empty;
        room = subst (λ n. nodes ≤ n) (sym (ap vec_capacity w.stack-is)) c.loop-node.invariant.room;
      })
    ]

pub returns : goal.returns
returns g c =
    let nodes = g.G.Graph.nodes c.args.graph.now in
    let end : c.loop-node.node ≡ nodes = omega (arith, c.loop-node-test.false, c.loop-node.auto.node-end, c.node_count-node-end.ensures) in
    subst (λ n. Numbers (g.G.Graph.steps c.args.graph.now) nodes (λ _. true) c.loop-node.marks n c.loop-node.count) end c.loop-node.invariant.numbers
