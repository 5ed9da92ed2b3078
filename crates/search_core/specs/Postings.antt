-- What a report puts into the ledger of a desk.
use Rattle.std.specs.Prelude.{◌≡◌, ◌<◌, ◌≤◌, ◌+◌, Bool, ℕ, List, length, map, vec_len, vec_capacity, Option, Some, None}
use Rattle.lemmas.specs.Lists.{Each}
use Rattle.search_core.specs.declared.ledger.Ledger.{Ledger}
use Rattle.search_core.specs.declared.ledger.Placed.{Placed}
use Rattle.search_core.specs.declared.ledger.Posting.{Posting}
use Rattle.search_core.specs.Ledger.{next_first}
use Rattle.prefix_tree.specs.Places.{prefix_at, StandsAt}

-- the ledger has room for it
pub record HasCapacity (b : Ledger) (e : Posting) : Type 0 where
  pub places : Each (λ k. k < length b.frontier.counts) e.rest.items
  pub put : length b.frontier.put + length e.rest.items ≤ b.frontier.capacity
  pub notes : vec_len b.notes < vec_capacity b.notes
  pub found : vec_len b.found + vec_len e.found ≤ vec_capacity b.found

-- this prefix and its place, if there is one, or else the other
abbrev pub placed_or : Placed → Option Placed → Placed
placed_or other None = other
placed_or other (Some placed) = placed

-- it has these choices and the places of these prefixes, and what is the first piece after it; and the ledger has room for it
pub record IsPosting (b : Ledger) (piece : ℕ) (choices prefixes : List (List Bool)) (e : Posting) : Type 0 where
  pub found : e.found.items ≡ choices
  pub rest : map (prefix_at b.prefixes) e.rest.items ≡ prefixes
  pub below : Each (λ k. k < length b.prefixes) e.rest.items
  pub next : (placed_or b.first e.first).place ≡ next_first b piece e.rest.items
  pub first : StandsAt b.prefixes (placed_or b.first e.first).prefix (placed_or b.first e.first).place
  pub capacity : HasCapacity b e
