-- What a ledger keeps of a report.
use Rattle.std.specs.Prelude.{◌≡◌, Bool, List, []}
use Rattle.prefix_tree.specs.Alike.{BeginAlike}
use Rattle.search_core.specs.declared.copies.Copies.{Copies}

-- they are copies of these choices, no place is listed yet, and it is told how the prefixes of this rest begin
pub record AreCopies (choices rest : List (List Bool)) (c : Copies) : Type 0 where
  pub found : c.found.items ≡ choices
  pub places : c.places.items ≡ []
  pub alike : BeginAlike rest c.alike.items
