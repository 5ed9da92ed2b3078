-- Truth values, and lists of them.
use Rattle.std.specs.Prelude.{Bool, true, false, not, ◌&&◌, List, [], ◌∷◌}

-- both are true or both false
abbrev pub agree : Bool → Bool → Bool
agree true b = b
agree false b = not b

-- two lists of truth values are the same
abbrev pub same_values : List Bool → List Bool → Bool
same_values [] [] = true
same_values (x ∷ xs) (y ∷ ys) = agree x y && same_values xs ys
same_values _ _ = false
