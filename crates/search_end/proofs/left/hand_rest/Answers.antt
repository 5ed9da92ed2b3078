-- Page after page is a part of what is left.
use Rattle.std.proofs.Common.{◌∙◌, ◌++◌, Bool, List, sym, ap, subst, append_assoc}
use Rattle.std.specs.Vec.Iter.{into_iter_items}
use Rattle.search_end.specs.Handed.{AreFewSolutions}
use Rattle.search_end.proofs.PageCalls.{few_left, paged}
use Rattle.search_end.proofs.left.hand_rest.Goals as goal

pub returns-in_default-clause-out : goal.returns-in_default-clause-out
returns-in_default-clause-out g c p most all before out =
    paged before (g.P.PageOut.calls c.loop-page.pages) (g.P.PageOut.calls c.loop-page.pages) c.loop-page.handed (into_iter_items c.loop-page.left)
    (c.loop-page.invariant.out before out) p most
    (few_left p most c.loop-page.handed.choices (into_iter_items c.loop-page.left) (subst (AreFewSolutions p most) (sym c.loop-page.invariant.all) all))

pub returns-in-Err-clause-out : goal.returns-in-Err-clause-out
returns-in-Err-clause-out g c p most all before out =
    let page = c.in-Ok.page.items in
    let later = into_iter_items c.next_page.new.left in
    let handed = c.loop-page.handed.choices in
    let whole = append_assoc handed page later ∙ ap (λ (xs : List (List Bool)). handed ++ xs) (sym c.in-Ok.ensures.parts) ∙ c.loop-page.invariant.all in
    c.in-Err.ensures.out p most (few_left p most (handed ++ page) later (subst (AreFewSolutions p most) (sym whole) all))
    before (c.loop-page.invariant.out before out)
