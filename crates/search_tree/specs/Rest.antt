-- What is left where a walk stands: prefixes of which each is a live side of one that was opened.
use Rattle.std.specs.Prelude.{Bool, true, false, ℕ, List, [], ◌∷◌, ◌++◌, filter, take, drop}
use Rattle.solid_model.specs.Tree.{PrefixTest}

-- a prefix with one value more, if it is live
abbrev pub live_side : PrefixTest → List Bool → Bool → List (List Bool)
live_side live prefix full = filter live ((prefix ++ full ∷ []) ∷ [])

-- both sides, the full one first
abbrev pub live_sides : PrefixTest → List Bool → List (List Bool)
live_sides live prefix = live_side live prefix true ++ live_side live prefix false

-- From a piece with these values more, from the last value upwards: where a value is full, the live empty side in its place.
abbrev pub live_besides : PrefixTest → List Bool → List Bool → List (List Bool)
live_besides live piece [] = []
live_besides live piece (true ∷ values) = live_besides live (piece ++ true ∷ []) values ++ live_side live piece false
live_besides live piece (false ∷ values) = live_besides live (piece ++ false ∷ []) values

-- the same for a prefix whose first values, so many, are the piece
abbrev pub besides : PrefixTest → ℕ → List Bool → List (List Bool)
besides live floor prefix = live_besides live (take floor prefix) (drop floor prefix)
