-- The first live prefixes that begin with a piece.
use Rattle.std.specs.Prelude.{◌≡◌, Bool, ℕ, ◌≤◌, List, [], ◌∷◌, ◌++◌, length, drop, IsTrue}
use Rattle.solid_model.specs.Tree.{PrefixTest, live_from, opened_of}
use Rattle.search_tree.specs.Walk.{coming}

-- There are so many of them, a live prefix is the last, and what comes after it is still to come.
pub record StandsAtLast (live : PrefixTest) (n : ℕ) (piece : List Bool) (opened : ℕ) (prefix : List Bool) : Type 0 where
  pub lives : IsTrue (live prefix)
  pub within : length prefix ≤ n
  pub below : length piece ≤ length prefix
  pub count : length (opened_of live n piece opened) ≡ opened
  pub last : (before : List (List Bool)) × (opened_of live n piece opened ≡ before ++ prefix ∷ [])
  pub left : drop opened (live_from live n piece) ≡ coming live n (length piece) prefix
