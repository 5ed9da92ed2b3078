use Rattle.std.proofs.Common.{◌≤◌, ℕ, ◌++◌, List, Bool, length, drop, refl, sym, ap, ◌∙◌, arith}
use Rattle.std.proofs.lemmas.List.{take_all, take-append-drop}
use Rattle.solution_book.proofs.solids.Solids.begin_with.Goals as goal

pub returns : goal.returns
returns c =
    let n : ℕ = c.loop-place.place in
    let all : length c.args.earlier.now ≤ n = omega (arith, c.loop-place-test.false, c.loop-place.auto.place-end, c.earlier.invariant.counted, ap length c.earlier.view_is) in
    ((λ _. (drop n c.args.self.now, sym (take-append-drop n c.args.self.now) ∙ ap (λ (l : List (List Bool)). l ++ drop n c.args.self.now) (c.loop-place.invariant ∙ take_all n c.args.earlier.now all))), (λ _. refl))
