-- Successions on finitely many nodes, which are numbered from 0, and their rounds.
use Rattle.std.specs.Prelude.{◌≡◌, ◌≢◌, Bool, IsTrue, ℕ, zero, suc, ◌<◌, ◌≤◌, List, [], ◌∷◌, length}
use Rattle.lemmas.specs.Lists.{Member, Each, Ascends}

-- a node is one of the first so many, and inside
abbrev pub IsInside : ℕ → (ℕ → Bool) → ℕ → Type 0
IsInside nodes inside a = (a < nodes) × IsTrue (inside a)

-- no two inside nodes are followed by the same one
abbrev pub IsOneToOne : ℕ → (ℕ → Bool) → (ℕ → ℕ) → Type 0
IsOneToOne nodes inside next = (a b : ℕ) → IsInside nodes inside a → IsInside nodes inside b → next a ≡ next b → a ≡ b

-- each inside node is followed by an inside node, and follows one alone
pub record IsSuccession (nodes : ℕ) (inside : ℕ → Bool) (next : ℕ → ℕ) : Type 0 where
  pub kept : (a : ℕ) → IsInside nodes inside a → IsInside nodes inside (next a)
  pub one_to_one : IsOneToOne nodes inside next

-- the node that stands n steps on from a
abbrev pub node_ahead : (ℕ → ℕ) → ℕ → ℕ → ℕ
node_ahead next zero a = a
node_ahead next (suc n) a = next (node_ahead next n a)

-- n nodes from a on, each the next of the one before
abbrev pub run : (ℕ → ℕ) → ℕ → ℕ → List ℕ
run next zero a = []
run next (suc n) a = a ∷ run next n (next a)

-- The round of a node: from the node on, which stands first, until the next of the last is the node again. None stands on it
-- twice.
pub record IsRoundFrom (next : ℕ → ℕ) (start : ℕ) (round : List ℕ) : Type 0 where
  pub some : 0 < length round
  pub steps : round ≡ run next (length round) start
  pub back : node_ahead next (length round) start ≡ start
  pub once : Ascends ◌≢◌ round

-- the first of a list
abbrev pub first : List ℕ → ℕ
first [] = 0
first (a ∷ round) = a

-- a round of inside nodes, told from its least node on
pub record IsInsideRound (nodes : ℕ) (inside : ℕ → Bool) (next : ℕ → ℕ) (round : List ℕ) : Type 0 where
  pub from : IsRoundFrom next (first round) round
  pub within : Each (IsInside nodes inside) round
  pub least : Each (λ a. first round ≤ a) round

-- All rounds of a succession, by their least nodes: each inside node stands on one of them, and on no other.
pub record AreRounds (nodes : ℕ) (inside : ℕ → Bool) (next : ℕ → ℕ) (rounds : List (List ℕ)) : Type 0 where
  pub each : Each (IsInsideRound nodes inside next) rounds
  pub ordered : Ascends (λ r s. first r < first s) rounds
  pub complete : (a : ℕ) → IsInside nodes inside a → (r : List ℕ) × Member rounds r × Member r a
  pub apart : Ascends (λ r s. (a : ℕ) → Member r a → Member s a → ⊥) rounds
