-- A list of choices, kept in full batches and a last one.
use Rattle.std.specs.Prelude.{◌≡◌, ℕ, Bool, List, ◌++◌, length}
use Rattle.std.specs.List.{flat_map}
use Rattle.lemmas.specs.Lists.{Each}

-- the choices of the full batches and then those of the last one
abbrev pub in_batches : List (List (List Bool)) → List (List Bool) → List (List Bool)
in_batches full last = flat_map (λ b. b) full ++ last

-- so many choices, in batches of which each full one has 256
pub record AreBatches (full : List (List (List Bool))) (last : List (List Bool)) (count : ℕ) : Type 0 where
  pub full_ones : Each (λ b. length b ≡ 256) full
  pub counted : count ≡ length (in_batches full last)
