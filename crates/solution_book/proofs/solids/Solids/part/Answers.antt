use Rattle.std.proofs.Common.{◌++◌, ◌∷◌, [], Bool, List, ◌∙◌, ap, length, arith}
use Rattle.solution_book.proofs.Parts.{part_more}
use Rattle.solution_book.proofs.solids.Solids.part.Goals as goal

pub loop-place-preserved : goal.loop-place-preserved
loop-place-preserved c =
    c.in_ok-push.ensures.items ∙ ap (λ (l : List (List Bool)). l ++ c.in_ok-try_clone.field-0 ∷ []) c.loop-place.invariant
    ∙ part_more c.args.self.now c.args.from c.loop-place.place [] c.in_ok-try_clone.field-0 c.loop-place.auto.place
    (omega (arith, c.loop-place-test.true, c.loop-place.auto.place-end, c.min-place-end.ensures, c.self.invariant.counted, ap length c.self.view_is)) (c.in_ok-try_clone.ensures ∙ c.get.ensures)
