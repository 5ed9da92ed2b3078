-- All nodes are numbered.
use Rattle.std.proofs.Common.{◌∙◌, sym, subst}
use Rattle.std.proofs.lemmas.List.{take_at}
use Rattle.flood.specs.Graph.{AreComponents}
use Rattle.flood.proofs.Numbered.{numbers_all}
use Rattle.flood.proofs.numbering.components.Goals as goal

pub returns : goal.returns
returns g c =
    let step = g.G.Graph.steps c.args.graph.now in
    let nodes = g.G.Graph.nodes c.args.graph.now in
    let marks = c.number_nodes-count.new.marks in
    let whole = take_at marks _ c.in_ok-numbers.numbers.len (c.number_nodes-count.auto.marks ∙ c.as_mut_slice.ensures.len) in
    let count = c.number_nodes-count.result in
    subst (λ ns. AreComponents step nodes ns count) (sym whole) (numbers_all step nodes marks count c.number_nodes-count.ensures)
