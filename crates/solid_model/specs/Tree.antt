-- The tree of prefixes, over any test "live" that tells some lists of truth values from others. A prefix says for each of
-- the first blocks whether it is full; below it stand those that say so for one block more, the full one first. The live
-- ones are filtered from the list of all extensions, whose order is theirs: so no second order has to be believed, and the
-- definition doesn't lean on the law that what a live prefix begins with is live.
use Rattle.std.specs.Prelude.{◌≡◌, Bool, true, false, ◌&&◌, ℕ, zero, suc, ◌+◌, ◌-◌, ◌≤◌, ◌==◌, List, [], ◌∷◌, ◌++◌, length, take, drop, filter, map, sum, IsPermutation, IsTrue}
use Rattle.std.specs.List.{flat_map, list_any}
use Rattle.lemmas.specs.Truth.{agree}
use Rattle.lemmas.specs.Lists.{Each}

-- a test of prefixes: which are live
abbrev pub PrefixTest : Type 0
PrefixTest = List Bool → Bool

-- what a live prefix begins with is live
abbrev pub IsClosed : PrefixTest → Type 0
IsClosed live = (prefix rest : List Bool) → IsTrue (live (prefix ++ rest)) → IsTrue (live prefix)

-- the live prefixes of n blocks are a tree: none is too long, and they are closed
pub record IsTree (live : PrefixTest) (n : ℕ) : Type 0 where
  pub short : (prefix : List Bool) → IsTrue (live prefix) → length prefix ≤ n
  pub closed : IsClosed live

-- And the tree is one of these choices, which match: whatever one of them begins with is live, and a live prefix of full length is
-- one of them.
pub record KeepsMatching (live : PrefixTest) (n : ℕ) (matches : List Bool → Type 0) : Type 0 where
  pub tree : IsTree live n
  pub reached : (prefix rest : List Bool) → length (prefix ++ rest) ≡ n → matches (prefix ++ rest) → IsTrue (live prefix)
  pub ends : (choice : List Bool) → length choice ≡ n → IsTrue (live choice) → matches choice

-- ---- the prefixes that begin with one

-- All lists that begin with a prefix and have at most so many values more, in the stated order: a prefix before its
-- extensions, and a full block before an empty one.
abbrev pub extensions : ℕ → List Bool → List (List Bool)
extensions zero prefix = prefix ∷ []
extensions (suc more) prefix = prefix ∷ extensions more (prefix ++ true ∷ []) ++ extensions more (prefix ++ false ∷ [])

-- the live prefixes of n blocks that begin with this one, itself included
abbrev pub live_from : PrefixTest → ℕ → List Bool → List (List Bool)
live_from live n prefix = filter live (extensions (n - length prefix) prefix)

-- their number
abbrev pub live_count : PrefixTest → ℕ → List Bool → ℕ
live_count live n prefix = length (live_from live n prefix)

-- it says of each of n blocks whether it is full
abbrev pub is_whole : ℕ → List Bool → Bool
is_whole n prefix = length prefix == n

-- those of full length
abbrev pub live_below : PrefixTest → ℕ → List Bool → List (List Bool)
live_below live n prefix = filter (is_whole n) (live_from live n prefix)

-- ---- reports

-- An allowed report of a piece, which is a prefix: so many prefixes were opened, these choices were found, and these prefixes
-- are the rest. The live prefixes that begin with the piece are those that were opened and those that begin with one of the
-- rest; and so are the choices among them.
pub record IsAllowed (live : PrefixTest) (n : ℕ) (piece : List Bool) (opened : ℕ) (found rest : List (List Bool)) : Type 0 where
  pub some : 1 ≤ opened
  pub rest_live : Each (λ prefix. IsTrue (live prefix)) rest
  pub counted : live_count live n piece ≡ opened + sum (map (live_count live n) rest)
  pub shared : IsPermutation (live_below live n piece) (found ++ flat_map (live_below live n) rest)

-- a list is another one with one value more
abbrev pub is_one_more : List Bool → List Bool → Bool
is_one_more [] (x ∷ []) = true
is_one_more (x ∷ prefix) (y ∷ other) = agree x y && is_one_more prefix other
is_one_more _ _ = false

-- it is one of these with one value more
abbrev pub is_next_to : List (List Bool) → List Bool → Bool
is_next_to prefixes other = list_any (λ prefix. is_one_more prefix other) prefixes

-- the first live prefixes that begin with a piece, so many of them
abbrev pub opened_of : PrefixTest → ℕ → List Bool → ℕ → List (List Bool)
opened_of live n piece quantum = take quantum (live_from live n piece)

-- those of full length
abbrev pub found_of : PrefixTest → ℕ → List Bool → ℕ → List (List Bool)
found_of live n piece quantum = filter (is_whole n) (opened_of live n piece quantum)

-- the live prefixes behind them that are one of them with one value more
abbrev pub rest_of : PrefixTest → ℕ → List Bool → ℕ → List (List Bool)
rest_of live n piece quantum = filter (is_next_to (opened_of live n piece quantum)) (drop quantum (live_from live n piece))
