use Rattle.grid.proofs.InOrder.{ascends-kept, same_members}
use Rattle.grid.proofs.positions.in_order.Goals as goal

pub returns-clause-ordered : goal.returns-clause-ordered
returns-clause-ordered c =
    ascends-kept c.sort_unstable.new.self.items c.dedup.new.self.items c.sort_unstable.ensures.sorted c.dedup.ensures.filtered

pub returns-clause-same : goal.returns-clause-same
returns-clause-same c =
    same_members c.args.positions.items c.sort_unstable.new.self.items c.dedup.new.self.items c.sort_unstable.ensures.permutation c.dedup.ensures.filtered
