-- The choices near the stated order are the same ones, and then they are sorted.
use Rattle.std.proofs.Common.{◌≡◌, ◌≢◌, ℕ, List, Bool, length, IsPermutation, vec_len, sym, ◌∙◌, subst}
use Rattle.std.proofs.lemmas.List.{with_items_is}
use Rattle.std.proofs.lemmas.List.Sorted.{IsPermutation-sym, IsPermutation-trans, length_permutation}
use Rattle.lemmas.specs.Lists.{Each, Ascends}
use Rattle.lemmas.specs.Truth.{same_values}
use Rattle.lemmas.proofs.Truth.{Decides-same_values}
use Rattle.lemmas.proofs.Lists.{each-at, each-from}
use Rattle.lemmas.proofs.Permutations.{member-permutation, once-permutation}
use Rattle.search_end.proofs.turns.in_order.Goals as goal

pub sort_choices-requires-clause-lengths : goal.sort_choices-requires-clause-lengths
sort_choices-requires-clause-lengths c =
    let near = c.in_ok-list.list.items in
    let all = c.args.choices.items in
    let long = λ (choice : List Bool). length choice ≡ c.requires.lengths.0 in
    subst (λ (xs : List (List Bool)). (n : ℕ) × Each (λ choice. length choice ≡ n) xs) (sym c.deref_mut.ensures.value) (
      c.requires.lengths.0,
      each-from long near (λ x m. each-at long all x c.requires.lengths.1 (member-permutation near all x (IsPermutation-sym all near c.in_ok-list.ensures) m)),
    )

pub sort_choices-requires-clause-once : goal.sort_choices-requires-clause-once
sort_choices-requires-clause-once c =
    subst (Ascends ◌≢◌) (sym c.deref_mut.ensures.value)
    (once-permutation same_values Decides-same_values c.args.choices.items c.in_ok-list.list.items c.in_ok-list.ensures c.requires.once)

pub returns-clause-permutation : goal.returns-clause-permutation
returns-clause-permutation c =
    let sorted = c.sort_choices.new.choices in
    let near = c.in_ok-list.list.items in
    let moved : IsPermutation near sorted = subst (λ (xs : List (List Bool)). IsPermutation xs sorted) c.deref_mut.ensures.value c.sort_choices.ensures.permutation in
    let whole : length sorted ≡ vec_len c.in_ok-list.list = length_permutation c.deref_mut.result.now sorted c.sort_choices.ensures.permutation ∙ c.deref_mut.ensures.len in
    rw (with_items_is c.in_ok-list.list sorted whole) (IsPermutation-trans c.args.choices.items near sorted c.in_ok-list.ensures moved)
