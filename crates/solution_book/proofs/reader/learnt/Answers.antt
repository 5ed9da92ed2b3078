use Rattle.solution_book.proofs.Known.{known_before, looked_since, looks_on}
use Rattle.solution_book.proofs.reader.learnt.Goals as goal

pub returns-then-goes_on : goal.returns-then-goes_on
returns-then-goes_on g c =
    let look = c.look_for-back.ensures in
    (look.0, looked_since _ _ _ look.0 c.loop.invariant.2 c.loop.invariant.3 look.1, look.2 c.if-goes_on.true)

pub loop-preserved : goal.loop-preserved
loop-preserved g c =
    let look = c.look_for-back.ensures in
    (tt, tt, (λ e begins. c.loop.invariant.2 e (known_before _ _ look.0 look.1 e begins)), looks_on _ _ look.0 _ c.loop.invariant.3 look.1)
