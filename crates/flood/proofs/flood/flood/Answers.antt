-- The beginning of the flood, and one node more.
use Rattle.std.proofs.Common.{◌≡◌, ◌<◌, ◌==◌, [], length, ◌∙◌, sym, arith}
use Rattle.std.proofs.lemmas.List.{nil_from_length}
use Rattle.std.proofs.lemmas.List.Sums.{count_by-le-length}
use Rattle.lemmas.proofs.Lists.{member-push_last}
use Rattle.flood.specs.NodeMarks.{no_mark}
use Rattle.flood.proofs.Spreading.{marked_within}
use Rattle.flood.proofs.Flooding.{floods_begin, floods_more}
use Rattle.flood.proofs.flood.flood.Goals as goal

pub loop-node-init : goal.loop-node-init
loop-node-init g c =
    let step = g.G.Graph.steps c.args.graph.now in
    let marks = c.args.marks.now in
    let within : c.args.start < length marks = omega (arith, c.requires.start, c.requires.size) in
    let few = count_by-le-length (λ mark. mark == no_mark) marks in
    let empty : c.args.stack.now.items ≡ [] = nil_from_length c.args.stack.now.items (sym c.args.stack.now.ok.0 ∙ c.requires.empty) in
    record {
      floods = rw (c.mark.ensures.marks, c.mark.ensures.stack, empty)
          (floods_begin step c.args.start c.args.number c.requires.number marks within c.requires.none c.requires.closed);
      room = omega (arith, c.mark.ensures.room, c.mark.ensures.capacity, c.requires.empty, c.requires.room, c.requires.size, few);
      capacity = c.mark.ensures.capacity;
    }

pub spread-requires-clause-node : goal.spread-requires-clause-node
spread-requires-clause-node g c =
    let node = c.in-Some.node in
    let so_far = rw c.in-Some.ensures.items at c.loop-node.invariant.floods in
    let within : node < length c.loop-node.marks = marked_within c.loop-node.marks node (so_far.stacked node (member-push_last c.pop.new.self.items node)).0 in
    omega (arith, within, so_far.size, c.requires.size)

pub loop-node-preserved : goal.loop-node-preserved
loop-node-preserved g c =
    let step = g.G.Graph.steps c.args.graph.now in
    let stack = c.pop.new.self.items in
    let so_far = rw c.in-Some.ensures.items at c.loop-node.invariant.floods in
    record {
      floods = floods_more step c.args.start c.args.number c.requires.number c.args.marks.now c.in-Some.node c.loop-node.marks stack
          c.spread.new.marks c.spread.new.stack.items so_far c.spread.ensures.spreads;
      room = let popped = c.in-Some.ensures.len in let kept = c.in-Some.ensures.capacity in
          omega (arith, c.spread.ensures.room, c.spread.ensures.capacity, popped, kept, c.loop-node.invariant.room);
      capacity = c.spread.ensures.capacity ∙ c.in-Some.ensures.capacity ∙ c.loop-node.invariant.capacity;
    }
