-- Pages of a book. A page from a place that the list hasn't got is empty, and the list ends there: so no place is refused.
use Rattle.std.specs.Prelude.{◌≡◌, ◌+◌, ◌≤◌, ◌↔◌, ℕ, Bool, List, length, take, drop, IsTrue}
use Rattle.solution_book.specs.declared.reader.Page.{Page}

-- the part of a list from a place on, at most so long, and whether the list has no place after it
pub record IsPageOf (from most : ℕ) (list : List (List Bool)) (page : Page) : Type 0 where
  pub place : page.from ≡ from
  pub part : page.solids.items ≡ take most (drop from list)
  pub ends : IsTrue page.ends_here ↔ (length list ≤ from + most)
