-- They are sorted by the length and the stated order.
use Rattle.std.proofs.Common.{rules}
use Rattle.std.specs.Ordering.{is_lt}
use Rattle.std.proofs.lemmas.List.Sorted.{answers_always}
use Rattle.solid_model.specs.Sorting.{order_of}
use Rattle.solid_model.proofs.SortedChoices.{order_total, sorted_choices}
use Rattle.solid_model.proofs.sorted.sort_choices.Goals as goal

pub returns-clause-ordered : goal.returns-clause-ordered
returns-clause-ordered c =
    sorted_choices c.args.choices.now c.sort_unstable_by.new.self c.requires.lengths c.requires.once c.sort_unstable_by.ensures.permutation
    (c.sort_unstable_by.ensures.sorted (λ x y. is_lt (order_of x y)) order_total (answers_always _ _ _ (λ f a r g h. search rules)))
