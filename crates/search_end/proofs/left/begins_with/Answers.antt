-- All first ones are the same, and the others follow.
use Rattle.std.proofs.Common.{◌≤◌, ◌++◌, ℕ, Bool, List, length, drop, sym, ◌∙◌, ap, arith}
use Rattle.std.proofs.lemmas.List.{take_all, take-append-drop}
use Rattle.search_end.proofs.left.begins_with.Goals as goal

pub returns : goal.returns
returns c here =
    let n : ℕ = c.loop-at.at in
    let choices = c.args.choices.now in
    let all : length c.args.first.now ≤ n = omega (arith, c.loop-at-test.false, c.loop-at.auto.at-end) in
    (drop n choices, sym (take-append-drop n choices) ∙ ap (λ (l : List (List Bool)). l ++ drop n choices) (c.loop-at.invariant ∙ take_all n c.args.first.now all))
