-- Successions that tests tell as tables.
use Rattle.std.specs.Prelude.{◌≡◌, ◌⊎◌, ◌==◌, not, Bool, IsTrue, ℕ, ◌<◌, List, length, slice_index_or}

-- the follower that the table has for a node, 10 if none
abbrev pub follower : List ℕ → ℕ → ℕ
follower followers a = slice_index_or followers a 10

-- it has one
abbrev pub has_follower : List ℕ → ℕ → Bool
has_follower followers a = not (follower followers a == 10)

-- a node has no follower, or one of the nodes that have one, whose leader is the node
abbrev pub IsTold : List ℕ → List ℕ → ℕ → Type 0
IsTold followers leaders a = (follower followers a ≡ 10)
    ⊎ ((follower followers a < length followers) × IsTrue (has_follower followers (follower followers a))
    × (slice_index_or leaders (follower followers a) 10 ≡ a))
