-- The way that is led on is one of the ways.
use Rattle.std.proofs.Common.{◌%◌, arith}
use Rattle.prefix_tree.proofs.Ways.{way_number, way_read, ways_set}
use Rattle.prefix_tree.proofs.prefixes.Prefixes.keep_all.Goals as goal

pub lead_along-requires-clause-way : goal.lead_along-requires-clause-way
lead_along-requires-clause-way c =
    let nodes = c.self.inside.nodes in
    let ways = c.self.inside.ways.items in
    let l = way_number nodes ways c.args.by c.len.result c.self.invariant (omega arith) in
    way_read nodes ways (c.args.by % c.len.result) c.index_mut.result.now c.self.invariant l c.index_mut.ensures.value

pub invariant_of-self : goal.invariant_of-self
invariant_of-self c =
    let nodes = c.self.inside.nodes in
    let ways = c.self.inside.ways.items in
    let l = way_number nodes ways c.args.by c.len.result c.self.invariant (omega arith) in
    ways_set nodes c.lead_along.new.nodes c.lead_along.ensures.grown ways (c.args.by % c.len.result) c.lead_along.new.way c.self.invariant l c.lead_along.ensures.way
