use Rattle.std.proofs.Common.{◌+◌, get_or, sym, ◌∙◌, rules}
use Rattle.std.proofs.lemmas.List.Sorted.{answers_always, list_any-IsPermutation}
use Rattle.solid_model.specs.Segments.{start_of, line_of}
use Rattle.views.specs.Strokes.{is_drawn}
use Rattle.views.proofs.InOrder.{begins_from}
use Rattle.views.proofs.strokes.strokes_in_order.Goals as goal

pub returns-clause-drawn : goal.returns-clause-drawn
returns-clause-drawn c = λ style g of_view kind.
    sym (list_any-IsPermutation (is_drawn style (line_of g) (start_of g)) c.in_ok-strokes.strokes.items c.sort_by_key.new.self.items c.in_ok-sort_by_key.ensures.permutation)
    ∙ c.in_ok-strokes.ensures style g of_view kind

pub returns-clause-ordered : goal.returns-clause-ordered
returns-clause-ordered c = λ k d within.
    let strokes = c.sort_by_key.new.self.items in
    let sorted = c.in_ok-sort_by_key.ensures.sorted (λ r. (r.at, r.from)) (answers_always _ _ _ (λ f a r g h. search rules)) in
    begins_from (get_or strokes k d) (get_or strokes (k + 1) d) (sorted k d (search rules) within)
