-- One volume grows.
use Rattle.std.proofs.Common.{◌<◌, ◌+◌, length, IfSome, if◌then◌else◌, Some, slice_set, ap, sym, subst, ◌∙◌}
use Rattle.std.proofs.lemmas.Grind.{get_or_default_zero}
use Rattle.solid_model.specs.Choices.{is_chosen}
use Rattle.report.specs.Volumes.{chosen_sum}
use Rattle.report.proofs.ChosenSums.{sum_grown}
use Rattle.report.proofs.volumes.add_volume.Goals as goal

pub returns-in-Some-clause-sums : goal.returns-in-Some-clause-sums
returns-in-Some-clause-sums c choice =
    let items = c.args.volumes.now.items in
    let there = subst (λ k. k < length items) (sym c.from.ensures) (subst (λ o. IfSome o (λ k. k < length items)) c.in-Some.is c.requires.there) in
    ap (λ v. chosen_sum (slice_set items c.from.result (v + c.args.volume)) choice) (c.index_mut.ensures.value ∙ get_or_default_zero items c.from.result c.index_mut.result.now there)
    ∙ sum_grown items choice c.from.result c.args.volume there
    ∙ ap (λ o. chosen_sum items choice + (if is_chosen choice o then c.args.volume else 0)) (ap Some c.from.ensures ∙ sym c.in-Some.is)
