-- Marks on the nodes of a graph, and what a flood makes of them.
use Rattle.std.specs.Prelude.{◌≡◌, ◌⊎◌, ◌==◌, ◌↔◌, Bool, ℕ, ◌<◌, ◌≤◌, List, length, slice_index_or, IsTrue}
use Rattle.std.specs.List.{count_by}
use Rattle.lemmas.specs.Chains.{Reaches}
use Rattle.lemmas.specs.Lists.{Member}

-- what stands in place of a mark: the greatest number of 32 bits
abbrev pub no_mark : ℕ
no_mark = 4294967295

-- a node's mark; past the end of the list there is none
abbrev pub mark_of : List ℕ → ℕ → ℕ
mark_of marks a = slice_index_or marks a no_mark

-- a node has a mark
abbrev pub IsMarked : List ℕ → ℕ → Type 0
IsMarked marks a = mark_of marks a < no_mark

-- how many nodes have none
abbrev pub unmarked : List ℕ → ℕ
unmarked marks = count_by (λ mark. mark == no_mark) marks

-- where a step leads from a node with a mark, there is a mark
abbrev pub AreClosed : (ℕ → ℕ → Type 0) → List ℕ → Type 0
AreClosed step marks = (a b : ℕ) → IsMarked marks a → step a b → IsMarked marks b

-- Each of these nodes has a mark. Those that had none got the number, and were put on the stack.
pub record Spreads (These : ℕ → Type 0) (number : ℕ) (marks stack new_marks new_stack : List ℕ) : Type 0 where
  pub size : length new_marks ≡ length marks
  pub kept : (a : ℕ) → IsMarked marks a → mark_of new_marks a ≡ mark_of marks a
  pub fresh : (a : ℕ) → IsMarked new_marks a → IsMarked marks a ⊎ ((mark_of new_marks a ≡ number) × These a × Member new_stack a)
  pub marked : (a : ℕ) → These a → IsMarked new_marks a
  pub stacked : (a : ℕ) → Member new_stack a → Member stack a ⊎ These a
  pub waiting : (a : ℕ) → Member stack a → Member new_stack a

-- A flood from a node: what got a mark got the number, and a chain of steps leads to it. From a node that isn't on the stack
-- steps lead to nodes with marks.
pub record Floods (step : ℕ → ℕ → Type 0) (start number : ℕ) (before marks stack : List ℕ) : Type 0 where
  pub size : length marks ≡ length before
  pub kept : (a : ℕ) → IsMarked before a → mark_of marks a ≡ mark_of before a
  pub fresh : (a : ℕ) → IsMarked marks a → IsMarked before a ⊎ ((mark_of marks a ≡ number) × Reaches step start a)
  pub seeded : mark_of marks start ≡ number
  pub pending : (a : ℕ) → IsMarked marks a → Member stack a ⊎ ((b : ℕ) → step a b → IsMarked marks b)
  pub stacked : (a : ℕ) → Member stack a → IsMarked marks a × Reaches step start a

-- Of the first nodes those that are asked for have the numbers of their components, and so have all to which chains of steps lead
-- from them. Components are numbered by the first such nodes.
pub record Numbers (step : ℕ → ℕ → Type 0) (size : ℕ) (asked : ℕ → Bool) (marks : List ℕ) (nodes count : ℕ) : Type 0 where
  pub listed : length marks ≡ size
  pub few : count ≤ nodes
  pub all : (a : ℕ) → a < nodes → IsTrue (asked a) → IsMarked marks a
  pub closed : AreClosed step marks
  pub below : (a : ℕ) → IsMarked marks a → mark_of marks a < count
  pub joined : (a b : ℕ) → IsMarked marks a → IsMarked marks b → (mark_of marks a ≡ mark_of marks b) ↔ Reaches step a b
  pub first : (k : ℕ) → k < count → (a : ℕ) × (a < nodes) × (mark_of marks a ≡ k)
      × ((b : ℕ) → b < a → IsTrue (asked b) → mark_of marks b < k)
