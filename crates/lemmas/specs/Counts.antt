-- How often something stands in a list. Sums go down the list, as the words of Lists do, and std's `sum_by` doesn't.
use Rattle.std.specs.Prelude.{◌==◌, ◌+◌, Bool, ℕ, List, [], ◌∷◌, if◌then◌else◌}
use Rattle.lemmas.specs.Truth.{same_values}

-- 1 where the test holds
abbrev pub one_if : Bool → ℕ
one_if b = if b then 1 else 0

-- the numbers of the members, added up
abbrev pub total : {A : Type 0} → (A → ℕ) → List A → ℕ
total f [] = 0
total f (x ∷ xs) = f x + total f xs

-- how often a number stands in a list
abbrev pub times_listed : ℕ → List ℕ → ℕ
times_listed i xs = total (λ x. one_if (x == i)) xs

-- how often a list of truth values stands in a list of them
abbrev pub times_among : List Bool → List (List Bool) → ℕ
times_among p xs = total (λ q. one_if (same_values p q)) xs
