-- Lists that a plan of a problem is made of.
use Rattle.std.specs.Prelude.{◌≡◌, ◌↔◌, ◌==◌, ◌&&◌, ◌-◌, Bool, false, ℕ, nat_lt, List, [], ◌∷◌, ◌++◌, length, slice_index_or, if◌then◌else◌}
use Rattle.std.specs.List.{list_any}
use Rattle.lemmas.specs.Counts.{times_listed}

-- a number more, if it isn't there
abbrev pub IsAddedOnce : ℕ → List ℕ → List ℕ → Type 0
IsAddedOnce x old new = (n : ℕ) → (times_listed n new ≡ 0) ↔ ((times_listed n old ≡ 0) × ((x == n) ≡ false))

-- the number is the last of a list
abbrev pub ends_with : List ℕ → ℕ → Bool
ends_with xs n = nat_lt 0 (length xs) && (slice_index_or xs (length xs - 1) 0 == n)

-- the list with the number as its last
abbrev pub add_last : List ℕ → ℕ → List ℕ
add_last xs n = if ends_with xs n then xs else (xs ++ n ∷ [])

-- a list, with a number at its end or not
abbrev pub with_hit : List ℕ → Bool → ℕ → List ℕ
with_hit base hit n = if hit then base ++ n ∷ [] else base

-- the number is in the list
abbrev pub is_listed : ℕ → List ℕ → Bool
is_listed b xs = list_any (λ x. x == b) xs
