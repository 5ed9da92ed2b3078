-- How a desk goes on.
use Rattle.std.specs.Prelude.{◌≡◌, ◌≤◌}
use Rattle.search_core.specs.Desk.{DeskParts, IsDesk}

-- it is of the same problem and within the same limits, stands as its history leaves it, and no fewer prefixes are opened
pub record DeskGoesOn (before after : DeskParts) : Type 0 where
  pub problem : after.problem ≡ before.problem
  pub limits : after.limits ≡ before.limits
  pub opened : before.opened ≤ after.opened
  pub kept : IsDesk after
