-- What the passes of one deque know together. A pass is a worker's right to put pieces into a deque or to take them out.
use Rattle.std.specs.Prelude.{◌≡◌, ◌+◌, ℕ, Bool, List, [], ◌++◌}
use mathlib.Core.Option.{some}
use lib.ListN.{get_elem?}
use Rattle.steal_pool.specs.declared.rule.Account.{Account}
use Rattle.lemmas.specs.Counts.{total}

abbrev pub Piece : Type 0
Piece = List Bool

abbrev pub account : ℕ → List Piece → List Piece → Account
account parts put taken = record { parts = parts; put = put; taken = taken }

-- a pass that has no part has put and taken nothing
abbrev pub IdleIsEmpty : List Account → Type 0
IdleIsEmpty accounts = (pass : ℕ) (v : Account) → get_elem? accounts pass ≡ some v → v.parts ≡ 0 → (v.put ≡ []) × (v.taken ≡ [])

-- the first pass is the owner's; the deque holds what it put last, in that order
abbrev pub HoldsTheLast : List Piece → List Account → Type 0
HoldsTheLast items accounts = (owner : Account) × (gone : List Piece) × (get_elem? accounts 0 ≡ some owner) × (owner.put ≡ gone ++ items)

-- What holds at each step of a deque, of the pieces in it, front first, and of what each pass knows.
pub record Balanced (items : List Piece) (accounts : List Account) : Type 0 where
  pub parts : total (λ v. v.parts) accounts ≡ 64
  -- what was put is what was taken and what the deque holds, however pieces are weighed
  pub sums : (h : Piece → ℕ) → total (λ v. total h v.put) accounts ≡ total (λ v. total h v.taken) accounts + total h items
  pub idle : IdleIsEmpty accounts
  pub order : HoldsTheLast items accounts

-- at one step the deque held these pieces, front first, and a pass knew this
abbrev pub Held : List Piece → Account → Type 0
Held items v = (pass : ℕ) × (accounts : List Account) × Balanced items accounts × (get_elem? accounts pass ≡ some v)

-- at one step these were the first pieces of the deque, and a pass knew this
abbrev pub WasFirst : List Piece → Account → Type 0
WasFirst xs v = (items : List Piece) × Held (xs ++ items) v

-- what was put is what was taken and what is left
abbrev pub IsSettled : Account → List Piece → Type 0
IsSettled v items = (h : Piece → ℕ) → total h v.put ≡ total h v.taken + total h items
