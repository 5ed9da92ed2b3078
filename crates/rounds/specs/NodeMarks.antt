-- Marks on the nodes of a succession, and what tracing makes of them.
use Rattle.std.specs.Prelude.{◌≡◌, ◌≢◌, ◌⊎◌, ◌↔◌, Bool, false, not, IsTrue, ℕ, ◌<◌, List, length, slice_index_or}
use Rattle.std.specs.List.{count_by}
use Rattle.lemmas.specs.Lists.{Member, Each, Ascends}
use Rattle.rounds.specs.Succession.{IsInside, node_ahead, run, first, IsRoundFrom, IsInsideRound}

-- a node has a mark
abbrev pub has_mark : List Bool → ℕ → Bool
has_mark marks a = slice_index_or marks a false

-- how many nodes have none
abbrev pub unmarked_nodes : List Bool → ℕ
unmarked_nodes marks = count_by not marks

-- where the node that follows has a mark, a node has one
abbrev pub AreClosedBack : ℕ → (ℕ → Bool) → (ℕ → ℕ) → List Bool → Type 0
AreClosedBack nodes inside next marks =
    (a : ℕ) → IsInside nodes inside a → IsTrue (has_mark marks (next a)) → IsTrue (has_mark marks a)

-- these nodes, which had no marks, have got them
pub record Marks (before marks : List Bool) (these : List ℕ) : Type 0 where
  pub size : length marks ≡ length before
  pub marked : (a : ℕ) → IsTrue (has_mark marks a) ↔ (IsTrue (has_mark before a) ⊎ Member these a)
  pub fresh : Each (λ a. has_mark before a ≡ false) these

-- The nodes from the start to the one before this are listed and have got marks. This one has none, unless it is the start again.
pub record Traces (nodes : ℕ) (inside : ℕ → Bool) (next : ℕ → ℕ) (start : ℕ) (before marks : List Bool) (round : List ℕ)
    (node : ℕ) : Type 0 where
  pub marking : Marks before marks round
  pub some : 0 < length round
  pub steps : round ≡ run next (length round) start
  pub here : node ≡ node_ahead next (length round) start
  pub once : Ascends ◌≢◌ round
  pub within : Each (IsInside nodes inside) round
  pub stays : IsInside nodes inside node
  pub ahead : node ≢ start → has_mark marks node ≡ false
  pub behind : (a : ℕ) × IsInside nodes inside a × IsTrue (has_mark marks a) × (next a ≡ node)
  pub closed : (a : ℕ) → IsInside nodes inside a → IsTrue (has_mark marks (next a))
      → IsTrue (has_mark marks a) ⊎ (next a ≡ start)

-- a round from the start is listed, and its nodes have got marks
pub record IsTraced (nodes : ℕ) (inside : ℕ → Bool) (next : ℕ → ℕ) (start : ℕ) (before marks : List Bool) (round : List ℕ)
    : Type 0 where
  pub marking : Marks before marks round
  pub turns : IsRoundFrom next start round
  pub within : Each (IsInside nodes inside) round
  pub closed : AreClosedBack nodes inside next marks

-- the rounds of the first nodes are listed, and their nodes have marks
pub record AreTraced (nodes : ℕ) (inside : ℕ → Bool) (next : ℕ → ℕ) (marks : List Bool) (rounds : List (List ℕ)) (node : ℕ)
    : Type 0 where
  pub size : length marks ≡ nodes
  pub each : Each (IsInsideRound nodes inside next) rounds
  pub ordered : Ascends (λ r s. first r < first s) rounds
  pub earlier : Each (λ r. first r < node) rounds
  pub apart : Ascends (λ r s. (a : ℕ) → Member r a → Member s a → ⊥) rounds
  pub complete : (a : ℕ) → a < node → IsTrue (inside a) → IsTrue (has_mark marks a)
  pub marked : (a : ℕ) → IsTrue (has_mark marks a) ↔ ((r : List ℕ) × Member rounds r × Member r a)
  pub closed : AreClosedBack nodes inside next marks
