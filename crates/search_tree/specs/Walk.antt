-- What is still to come of a walk through the tree of prefixes in the stated order.
use Rattle.std.specs.Prelude.{◌≡◌, Bool, true, false, ℕ, ◌≤◌, List, [], ◌∷◌, ◌++◌, length, take, drop, IsTrue}
use Rattle.solid_model.specs.Tree.{PrefixTest, live_from}

-- From a piece with these values more: the live prefixes that begin with the piece and come after whatever begins with the
-- present prefix, those below its empty sides.
abbrev pub after : PrefixTest → ℕ → List Bool → List Bool → List (List Bool)
after live n piece [] = []
after live n piece (true ∷ values) = after live n (piece ++ true ∷ []) values ++ live_from live n (piece ++ false ∷ [])
after live n piece (false ∷ values) = after live n (piece ++ false ∷ []) values

-- the same for a prefix whose first values, so many, are the piece
abbrev pub later : PrefixTest → ℕ → ℕ → List Bool → List (List Bool)
later live n floor prefix = after live n (take floor prefix) (drop floor prefix)

-- and before them those that begin with the present prefix and are longer: all that is still to come
abbrev pub coming : PrefixTest → ℕ → ℕ → List Bool → List (List Bool)
coming live n floor prefix = drop 1 (live_from live n prefix) ++ later live n floor prefix

-- a live prefix is the first of these, and the others are still to come
pub record StandsAtFirst (live : PrefixTest) (n floor : ℕ) (left : List (List Bool)) (prefix : List Bool) : Type 0 where
  pub lives : IsTrue (live prefix)
  pub within : length prefix ≤ n
  pub below : floor ≤ length prefix
  pub first : left ≡ prefix ∷ coming live n floor prefix
