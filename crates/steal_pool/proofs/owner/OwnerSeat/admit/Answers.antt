use Rattle.std.proofs.Common.{◌<◌, sym, subst}
use Rattle.steal_pool.specs.Seats.{OwnerState}
use Rattle.steal_pool.proofs.Passes.{forks}
use Rattle.steal_pool.proofs.owner.OwnerSeat.admit.Goals as goal

pub another-pass-requires : goal.another-pass-requires
another-pass-requires c = forks _ _ (subst (λ (m : OwnerState). 1 < m.parts) (sym c.self.view_is) c.requires)
