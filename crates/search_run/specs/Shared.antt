-- What the workers of a search share.
use Rattle.std.specs.Prelude.{◌≡◌}
use Rattle.search_core.specs.Desk.{DeskParts}
use Rattle.solution_book.specs.Editions.{EditionParts, StartsWith}

-- a desk, and what is published of what it has found
pub record SharedParts : Type 0 where
  pub desk : DeskParts
  pub edition : EditionParts

-- the book is of the desk's problem, and the list of what the desk has found begins with the published one
pub record IsShared (s : SharedParts) : Type 0 where
  pub problem : s.edition.problem ≡ s.desk.problem
  pub begins : StartsWith s.desk.found s.edition.solids
