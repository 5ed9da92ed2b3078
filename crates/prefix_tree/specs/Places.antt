-- Prefixes in a list, which are named by their places.
use Rattle.std.specs.Prelude.{◌≡◌, ◌<◌, Bool, ℕ, List, [], length, slice_index_or}

-- the prefix at a place
abbrev pub prefix_at : List (List Bool) → ℕ → List Bool
prefix_at stored k = slice_index_or stored k []

-- a prefix stands at a place
pub record StandsAt (stored : List (List Bool)) (p : List Bool) (k : ℕ) : Type 0 where
  pub below : k < length stored
  pub there : prefix_at stored k ≡ p

-- no two of them are equal
abbrev pub AreDistinct : List (List Bool) → Type 0
AreDistinct stored = (i j : ℕ) → i < length stored → j < length stored → prefix_at stored i ≡ prefix_at stored j → i ≡ j
