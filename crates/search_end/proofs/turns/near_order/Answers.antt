-- Parts have the same members in any order.
use Rattle.std.proofs.Common.{List, Bool, IsPermutation, sym, subst}
use Rattle.std.specs.List.{flat_map}
use Rattle.std.proofs.lemmas.List.Sorted.{IsPermutation-trans}
use Rattle.search_end.proofs.MovedParts.{parts_moved}
use Rattle.search_end.proofs.turns.near_order.Goals as goal

pub returns : goal.returns
returns c =
    let near = c.in_ok-near.near.items in
    let sorted = flat_map (λ part. part.choices.items) c.sort_by_key.new.self.items in
    let parts : IsPermutation c.args.choices.items sorted =
    subst (λ (xs : List (List Bool)). IsPermutation xs sorted) c.in_ok-parts.ensures
    (parts_moved (λ part. part.choices.items) c.in_ok-parts.parts.items c.sort_by_key.new.self.items c.sort_by_key.ensures.permutation) in
    let turns : IsPermutation sorted near =
    subst (λ (xs : List (List Bool)). IsPermutation xs near) c.in_ok-turns.ensures
    (subst (IsPermutation (flat_map (λ turn. turn.items) c.in_ok-turns.turns.items)) (sym c.in_ok-near.ensures)
    (parts_moved (λ turn. turn.items) c.in_ok-turns.turns.items c.sort_unstable_by.new.self.items c.sort_unstable_by.ensures.permutation)) in
    IsPermutation-trans c.args.choices.items sorted near parts turns
