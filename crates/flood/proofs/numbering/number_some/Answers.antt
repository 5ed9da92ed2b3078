-- One node more, past those that aren't asked for; and all of them.
use Rattle.std.proofs.Common.{◌<◌, ◌≤◌, ◌+◌, ℕ, List, length, vec_len, vec_capacity, ◌∙◌, sym, ap, subst, arith}
use Rattle.std.proofs.lemmas.Grind.{common_steps}
use Rattle.std.proofs.lemmas.List.{get_or_default}
use Rattle.lemmas.specs.Bits.{bit_of}
use Rattle.cell_rows.proofs.BitPlaces.{clear_beyond}
use Rattle.flood.specs.NodeMarks.{no_mark, IsMarked, Numbers}
use Rattle.flood.proofs.Numbered.{numbers_unmarked, numbers_onward, numbers_skip, numbers_more}
use Rattle.flood.proofs.numbering.number_some.Goals as goal
use Rattle.flood.proofs.numbering.number_some.Goals.{then-marks-node, else-marks-node}

pub loop-node-init : goal.loop-node-init
loop-node-init g c =
    let step = g.G.Graph.steps c.args.graph.now in
    let nodes = g.G.Graph.nodes c.args.graph.now in
    let asked = bit_of c.args.nodes.now in
    record {
      numbers = numbers_onward step nodes asked c.args.marks.now 0 c.next_place-node.result 0
          (numbers_unmarked step nodes asked c.args.marks.now c.requires.none) c.next_place-node.ensures.later c.next_place-node.ensures.none;
      within = c.next_place-node.ensures.within;
      empty = c.requires.empty;
      room = c.requires.room;
    }

pub flood-requires-clause-closed : goal.flood-requires-clause-closed
flood-requires-clause-closed g c = c.loop-node.invariant.numbers.closed

pub flood-requires-clause-number : goal.flood-requires-clause-number
flood-requires-clause-number g c =
    omega (arith, c.loop-node.invariant.numbers.few, c.loop-node.invariant.within, c.requires.within, c.requires.few)

pub flood-requires-clause-empty : goal.flood-requires-clause-empty
flood-requires-clause-empty g c = c.loop-node.invariant.empty

pub flood-requires-clause-room : goal.flood-requires-clause-room
flood-requires-clause-room g c = c.loop-node.invariant.room

pub overflow_add-count : goal.overflow_add-count
overflow_add-count g c =
    omega (arith, c.loop-node.invariant.numbers.few, c.loop-node.invariant.within, c.requires.within, c.requires.few)

pub loop-node-smaller : goal.loop-node-smaller
loop-node-smaller g c =
    omega (arith, c.loop-node-test.true, c.next_place-node-in-loop-node.ensures.later, c.next_place-node-in-loop-node.ensures.within)

pub loop-node-preserved : goal.loop-node-preserved
loop-node-preserved g c =
    let step = g.G.Graph.steps c.args.graph.now in
    let nodes = g.G.Graph.nodes c.args.graph.now in
    let asked = bit_of c.args.nodes.now in
    let node = c.loop-node.node in
    let count = c.loop-node.count in
    let marks = c.loop-node.marks in
    let so_far = c.loop-node.invariant.numbers in
    let inside : node < nodes = omega (arith, c.loop-node-test.true, c.requires.within) in
    let within : node < length marks = omega (arith, so_far.listed, inside) in
    let small : count < no_mark = omega (arith, so_far.few, inside, c.requires.few) in
    let next = c.next_place-node-in-loop-node.result in
    let later = c.next_place-node-in-loop-node.ensures in
    let onward = λ (after : List ℕ) (n : ℕ) (is : Numbers step nodes asked after (node + 1) n).
    numbers_onward step nodes asked after (node + 1) next n is later.later later.none in
    elim c.if-marks-node.branch [
      | then-marks-node w ↦ (let none = get_or_default marks node no_mark 0 within ∙ w.if-marks-node.true in record {
        numbers = rw (w.marks-is, w.count-is) (onward w.flood.new.marks (count + 1)
            (numbers_more step nodes asked marks w.flood.new.marks node count so_far small c.requires.back none w.flood.ensures.floods));
        within = later.within;
        empty = ap vec_len w.stack-is ∙ w.flood.ensures.empty;
        room = subst (λ n. nodes ≤ n) (sym (ap vec_capacity w.stack-is ∙ w.flood.ensures.capacity)) c.loop-node.invariant.room;
      })
      | else-marks-node w ↦ (let has : IsMarked marks node = grind (arith, common_steps) in record {
        numbers = rw (w.marks-is, w.count-is) (onward marks count (numbers_skip step nodes asked marks node count so_far has));
        within = later.within;
        empty = ap vec_len w.stack-is ∙ c.loop-node.invariant.empty;
        room = subst (λ n. nodes ≤ n) (sym (ap vec_capacity w.stack-is)) c.loop-node.invariant.room;
      })
    ]

pub returns : goal.returns
returns g c =
    let nodes = g.G.Graph.nodes c.args.graph.now in
    let words = c.args.nodes.now in
    numbers_onward (g.G.Graph.steps c.args.graph.now) nodes (bit_of words) c.loop-node.marks c.loop-node.node nodes c.loop-node.count
    c.loop-node.invariant.numbers (omega (arith, c.loop-node.invariant.within, c.requires.within))
    (λ a l m. clear_beyond words a (omega (arith, l, c.loop-node-test.false)))
