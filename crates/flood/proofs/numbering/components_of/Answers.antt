-- All nodes that are asked for are numbered.
use Rattle.std.proofs.Common.{◌∙◌, sym, subst}
use Rattle.std.proofs.lemmas.List.{take_at}
use Rattle.lemmas.specs.Bits.{bit_of}
use Rattle.flood.specs.Graph.{AreComponentsOf}
use Rattle.flood.proofs.Numbered.{numbers_asked}
use Rattle.flood.proofs.numbering.components_of.Goals as goal

pub returns : goal.returns
returns g c =
    let step = g.G.Graph.steps c.args.graph.now in
    let nodes = g.G.Graph.nodes c.args.graph.now in
    let asked = bit_of c.args.nodes.now in
    let marks = c.number_some-count.new.marks in
    let whole = take_at marks _ c.in_ok-numbers.numbers.len (c.number_some-count.auto.marks ∙ c.as_mut_slice.ensures.len) in
    let count = c.number_some-count.result in
    subst (λ ns. AreComponentsOf step nodes asked ns count) (sym whole) (numbers_asked step nodes asked marks count c.number_some-count.ensures)
