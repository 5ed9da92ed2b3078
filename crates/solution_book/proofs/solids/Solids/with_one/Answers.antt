use Rattle.std.proofs.Common.{◌≡◌, ◌∷◌, [], ◌++◌, ◌+◌, map, length, List, Bool, ap, ◌∙◌, arith}
use Rattle.std.specs.Arc.{arc_value}
use Rattle.solution_book.proofs.Parts.{batch_filled}
use Rattle.solution_book.proofs.solids.Solids.with_one.Goals as goal

pub invariant_of-result-2 : goal.invariant_of-result-2
invariant_of-result-2 c =
    let last : c.push.new.self ≡ c.self.inside.last ++ c.args.choice.now ∷ [] = c.in_ok-push.ensures in
    let before : List (List (List Bool)) = map (λ b. arc_value b) (arc_value c.self.inside.full).items in
    let whole : length (c.self.inside.last ++ c.args.choice.now ∷ []) ≡ 256 = omega (arith, ap length last, c.len.ensures, c.if-len-ne-FULL.false) in
    let full : map (λ b. arc_value b) (arc_value c.in_ok-with_batch.field-0).items ≡ before ++ (c.self.inside.last ++ c.args.choice.now ∷ []) ∷ [] =
    c.in_ok-with_batch.ensures ∙ ap (λ xs. map (λ b. arc_value b) xs ++ c.push.new.self ∷ []) (c.as_slice.ensures.value ∙ ap (λ v. v.items) c.deref.ensures)
    ∙ ap (λ (x : List (List Bool)). before ++ x ∷ []) last in
    let count : c.in-Some.count ≡ c.self.inside.count + 1 = omega (arith, c.in-Some.ensures) in
    rw (full, c.new.ensures, count) (batch_filled before c.self.inside.last c.self.inside.count c.args.choice.now c.self.invariant whole)
