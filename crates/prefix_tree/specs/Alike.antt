-- Lists that begin with the same values as the next one.
use Rattle.std.specs.Prelude.{◌≡◌, ◌<◌, ◌≤◌, Bool, ℕ, suc, List, length, take, slice_index_or}
use Rattle.prefix_tree.specs.Places.{prefix_at}

-- two lists begin with the same values, so many
pub record IsAlike (p q : List Bool) (count : ℕ) : Type 0 where
  pub within : count ≤ length p
  pub inside : count ≤ length q
  pub same : take count p ≡ take count q

-- a number for each list, as far as there are numbers: it and the next one begin with the same values, so many
abbrev pub BeginAlike : List (List Bool) → List ℕ → Type 0
BeginAlike lists alike = (k : ℕ) → suc k < length lists → IsAlike (prefix_at lists k) (prefix_at lists (suc k)) (slice_index_or alike k 0)
