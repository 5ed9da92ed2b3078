use Rattle.std.proofs.Common.{◌≡◌, ap, ◌∙◌, arith}
use Rattle.crossbeam_deque.specs.Handles.{stealer_flavor}
use Rattle.steal_pool.specs.declared.rule.Account.{Account}
use Rattle.steal_pool.proofs.Passes.{takes, finds_few}
use Rattle.steal_pool.proofs.thief.ThiefSeat.steal.Goals as goal

pub steal_as-requires-clause-takes : goal.steal_as-requires-clause-takes
steal_as-requires-clause-takes g c =
    let parts = ap (λ (v : Account). v.parts) c.loop.invariant.knows in
    takes _ _ (omega (arith, parts, c.self.invariant.2))

pub steal_as-requires-clause-empty : goal.steal_as-requires-clause-empty
steal_as-requires-clause-empty g c =
    let none : stealer_flavor c.loop.self-inside.stealer ≡ 0 = ap stealer_flavor c.loop.invariant.stealer ∙ c.self.invariant.1 in
    λ items views few. finds_few _ _ items views (omega (arith, none))
