-- Past the text, or where it has no '#'.
use Rattle.std.proofs.Common.{◌≡◌, false, ◌==◌, slice_index_or, ap}
use Rattle.std.proofs.lemmas.Bool.{ne_eqb}
use Rattle.std.proofs.lemmas.List.{get_or_past}
use Rattle.search_tests.proofs.ToldTrees.{none_let}
use Rattle.search_tests.proofs.trees.+lets_on.Goals as goal
use Rattle.search_tests.proofs.trees.+lets_on.Goals.{then-place-text-via-then-place-text, then-place-text-via-else-place-text+then-text-place-ne35}

pub returns-then-place-text : goal.returns-then-place-text
returns-then-place-text t c =
    let text = c.args.text.now in
    let place = c.args.place in
    none_let text place c.args.values.now (elim c.then-place-text.branch as (λ _. (slice_index_or text place 0 == 35) ≡ false) [
      | then-place-text-via-then-place-text w ↦ ap (λ byte. byte == 35) (get_or_past text place 0 w.if-place-text.true)
      | then-place-text-via-else-place-text+then-text-place-ne35 w ↦ ne_eqb (slice_index_or text place 0) 35 w.if-text-place-ne35.true
    ])
