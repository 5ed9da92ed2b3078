-- Counting the pieces leaves what the seat has put, and what it has of the right to draw the balance.
use Rattle.std.proofs.Common.{◌<◌, ◌∙◌, sym, subst}
use Rattle.steal_pool.specs.declared.rule.Account.{Account}
use Rattle.steal_pool.proofs.Passes.{puts}
use Rattle.steal_pool.proofs.owner.OwnerSeat.put.Goals as goal

pub push_as-requires-clause-pushes : goal.push_as-requires-clause-pushes
push_as-requires-clause-pushes c =
    let same = c.len_as-waiting.ensures.same in
    puts _ _ _ (same.0.2 ∙ c.self.invariant.5) (subst (λ (v : Account). 0 < v.parts) (sym same.2) c.self.invariant.1)
