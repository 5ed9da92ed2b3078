-- The way is left where the first one says something else.
use Rattle.std.proofs.Common.{◌≡◌, [], take, ◌∙◌, ap}
use Rattle.std.proofs.lemmas.List.{get_or_read}
use Rattle.prefix_tree.specs.Places.{prefix_at}
use Rattle.prefix_tree.proofs.Ways.{way_turned}
use Rattle.prefix_tree.proofs.prefixes.lead_along.Goals as goal

pub lead_all-requires-clause-way : goal.lead_all-requires-clause-way
lead_all-requires-clause-way c =
    let prefixes = c.args.prefixes.now in
    let led = c.shared-led.result in
    let first : c.index-prefixes-0.result ≡ prefix_at prefixes 0 = get_or_read prefixes 0 c.index-prefixes-0.result c.requires.some c.index-prefixes-0.is [] in
    way_turned c.args.nodes.now c.args.way.now (prefix_at prefixes 0) led (c.shared-led.ensures.same ∙ ap (take led) first) c.requires.way
