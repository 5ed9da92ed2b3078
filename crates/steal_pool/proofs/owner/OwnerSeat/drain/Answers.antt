use Rattle.std.proofs.Common.{◌++◌, ◌∷◌, [], length, length-append, ap, ◌∙◌, arith}
use Rattle.crossbeam_deque.specs.Handles.{worker_view}
use Rattle.steal_pool.specs.declared.rule.Account.{Account}
use Rattle.steal_pool.specs.Accounts.{account}
use Rattle.steal_pool.specs.Seats.{OwnerState}
use Rattle.steal_pool.proofs.Passes.{learns, takes, finds, emptied, settled_length, settled_none, settled_again, settled_moved, seen, has_room}
use Rattle.steal_pool.proofs.owner.OwnerSeat.drain.Goals as goal

pub len_as-requires : goal.len_as-requires
len_as-requires c =
    let inv = c.loop-self.invariant in
    let parts = ap (λ (v : Account). v.parts) inv.moved.2 ∙ ap (λ (o : OwnerState). o.parts) c.self.view_is ∙ c.requires.whole in
    learns _ _ parts

pub pop_as-requires-clause-fifo : goal.pop_as-requires-clause-fifo
pop_as-requires-clause-fifo c =
    let inv = c.loop-self.invariant in
    let parts = ap (λ (v : Account). v.parts) (c.len_as.ensures.same.2 ∙ inv.moved.2) ∙ ap (λ (o : OwnerState). o.parts) c.self.view_is ∙ c.requires.whole in
    λ _. takes _ _ (omega (arith, parts))

pub pop_as-requires-clause-empty : goal.pop_as-requires-clause-empty
pop_as-requires-clause-empty c = finds _ _

pub push_reserved-requires : goal.push_reserved-requires
push_reserved-requires c =
    let inv = c.loop-self.invariant in
    let rule = c.len_as.ensures.rule in
    let knows = inv.moved.2 ∙ ap (λ (o : OwnerState). account o.parts o.put (o.taken ++ inv.moved.0)) c.self.view_is in
    let l = has_room (worker_view c.loop-self.self-inside.worker) rule.0 c.args.self.now.taken inv.moved.0 rule.2 (omega (arith, rule.1, c.loop-self-test.true)) (ap (λ (v : Account). v.taken) knows) in
    let put = ap (λ (v : Account). length v.put) knows in
    let grown = ap length inv.moved.1 ∙ length-append c.args.left.now.items inv.moved.0 in
    omega (arith, l, put, grown, inv.reserved, c.requires.capacity, c.loop-self.left.ok, c.args.left.now.ok)

pub loop-self-smaller : goal.loop-self-smaller
loop-self-smaller c =
    let rule = c.len_as.ensures.rule in
    let w = c.in-Some.ensures.rule.0 ∙ ap (λ (v : Account). account v.parts v.put (v.taken ++ c.in-Some.piece ∷ [])) c.len_as.ensures.same.2 in
    let l = settled_length (worker_view c.loop-self.self-inside.worker) rule.0 rule.2 in
    let put = ap (λ (v : Account). length v.put) w in
    let taken = ap (λ (v : Account). length v.taken) w in
    omega (arith, l, put, taken, rule.1, c.loop-self-test.true, length-append (worker_view c.loop-self.self-inside.worker).taken (c.in-Some.piece ∷ []))

pub returns-after-loop-self-clause-left : goal.returns-after-loop-self-clause-left
returns-after-loop-self-clause-left c =
    let inv = c.loop-self.invariant in
    let more = inv.moved.0 in
    let now = c.args.self.now in
    let rule = c.len_as.ensures.rule in
    let knows = inv.moved.2 ∙ ap (λ (o : OwnerState). account o.parts o.put (o.taken ++ more)) c.self.view_is in
    let none = settled_none (worker_view c.loop-self.self-inside.worker) rule.0 (omega (arith, rule.1, c.loop-self-test.false)) rule.2 in (
      more,
      inv.moved.1,
      seen now _ _ _ more (c.len_as.ensures.same.0.0 ∙ inv.same.0 ∙ ap (λ (o : OwnerState). o.deque) c.self.view_is) (inv.capacity ∙ ap (λ (o : OwnerState). o.capacity) c.self.view_is) (c.len_as.ensures.same.2 ∙ knows),
      settled_moved now more (settled_again (account now.parts now.put (now.taken ++ more)) (worker_view c.loop-self.self-inside.worker) [] knows none),
    )

pub returns-in-None-clause-left : goal.returns-in-None-clause-left
returns-in-None-clause-left c =
    let inv = c.loop-self.invariant in
    let more = inv.moved.0 in
    let now = c.args.self.now in
    let rule = c.in-None.ensures.rule in
    let knows = inv.moved.2 ∙ ap (λ (o : OwnerState). account o.parts o.put (o.taken ++ more)) c.self.view_is in
    let before = c.len_as.ensures.same.2 ∙ knows in (
      more,
      inv.moved.1,
      seen now _ _ _ more (c.in-None.ensures.same.0.0 ∙ c.len_as.ensures.same.0.0 ∙ inv.same.0 ∙ ap (λ (o : OwnerState). o.deque) c.self.view_is) (inv.capacity ∙ ap (λ (o : OwnerState). o.capacity) c.self.view_is) (rule.0 ∙ before),
      settled_moved now more (settled_again (account now.parts now.put (now.taken ++ more)) (worker_view c.len_as.new.self) [] before (emptied (worker_view c.len_as.new.self) (ap (λ (v : Account). v.parts) before ∙ c.requires.whole) rule.1)),
    )
