-- Finite graphs, whose nodes are numbered from 0, and their components.
use Rattle.std.specs.Prelude.{◌≡◌, ◌↔◌, ℕ, ◌<◌, Bool, List, length, slice_index_or, Option, Some, IsTrue}
use Rattle.lemmas.specs.Chains.{Reaches}

-- one of so many ways out of a node leads from a to b
abbrev pub Leads : ℕ → (ℕ → ℕ → Option ℕ) → ℕ → ℕ → Type 0
Leads ways next a b = (way : ℕ) × (way < ways) × (next a way ≡ Some b)

-- each step between two of the first nodes has a step back
abbrev pub GoesBack : ℕ → (ℕ → ℕ → Type 0) → Type 0
GoesBack size step = (a b : ℕ) → a < size → b < size → step a b → step b a

-- the number that a list has for a node
abbrev pub component : List ℕ → ℕ → ℕ
component numbers a = slice_index_or numbers a 0

-- The components of a graph whose steps go back: nodes have the same number exactly where a chain of steps leads from one to
-- the other. Components are numbered from 0 by their first nodes: what stands before such a node is in an earlier component.
pub record AreComponents (step : ℕ → ℕ → Type 0) (size : ℕ) (numbers : List ℕ) (count : ℕ) : Type 0 where
  pub listed : length numbers ≡ size
  pub joined : (a b : ℕ) → a < size → b < size → (component numbers a ≡ component numbers b) ↔ Reaches step a b
  pub below : (a : ℕ) → a < size → component numbers a < count
  pub first : (k : ℕ) → k < count → (a : ℕ) × (a < size) × (component numbers a ≡ k)
      × ((b : ℕ) → b < a → component numbers b < k)

-- The components of a graph whose steps go back, as far as nodes are asked for: two of these have the same number exactly where a
-- chain of steps leads from one to the other. So many numbers are given.
pub record AreComponentsOf (step : ℕ → ℕ → Type 0) (size : ℕ) (asked : ℕ → Bool) (numbers : List ℕ) (count : ℕ) : Type 0 where
  pub listed : length numbers ≡ size
  pub joined : (a b : ℕ) → IsTrue (asked a) → IsTrue (asked b) → a < size → b < size
      → (component numbers a ≡ component numbers b) ↔ Reaches step a b
  pub below : (a : ℕ) → IsTrue (asked a) → a < size → component numbers a < count
