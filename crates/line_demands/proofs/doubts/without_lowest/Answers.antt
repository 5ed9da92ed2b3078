-- The bits that aren't down to the lowest one.
use Rattle.std.proofs.Common.{◌<◌, ◌^◌, not, ◌&&◌, rules, ap, ◌∙◌}
use Rattle.lemmas.specs.Bits.{is_set}
use Rattle.line_demands.proofs.LowestLeft.{left_lowest}
use Rattle.line_demands.proofs.doubts.without_lowest.Goals as goal

pub returns : goal.returns
returns c =
    let fits : c.args.number < 2 ^ 64 = search rules in
    left_lowest c.args.number fits c.without.result (λ k. c.without.ensures k ∙ ap (λ n. is_set c.args.number k && not (is_set n k)) c.near.ensures)
