-- The frontier of a search, by the places of its prefixes.
use Rattle.std.specs.Prelude.{◌≡◌, ◌==◌, ◌<◌, ◌≤◌, ◌-◌, ℕ, List, [], ◌∷◌, length, drop, slice_index, slice_index_or, if◌then◌else◌}
use Rattle.lemmas.specs.Counts.{times_listed}

-- how often a place stands in it
abbrev pub count_of : List ℕ → ℕ → ℕ
count_of counts k = slice_index_or counts k 0

-- how often a place is counted once this one is taken
abbrev pub count_without : List ℕ → ℕ → ℕ → ℕ
count_without counts piece k = if k == piece then count_of counts k - 1 else count_of counts k

-- the places that are left of a list when those at its beginning that aren't counted are passed over
abbrev pub passed : (ℕ → ℕ) → List ℕ → List ℕ
passed count [] = []
passed count (k ∷ ks) = if count k == 0 then passed count ks else k ∷ ks

-- the first one of a list, or else this one
abbrev pub first_or : ℕ → List ℕ → ℕ
first_or other [] = other
first_or other (k ∷ ks) = k

-- Each place stands in it at most as often as it was put and not yet passed over; the first that isn't passed over stands in it.
pub record IsFrontier (put counts : List ℕ) (first : ℕ) : Type 0 where
  pub within : first ≤ length put
  pub behind : (k : ℕ) → count_of counts k ≤ times_listed k (drop first put)
  pub there : first < length put → 0 < count_of counts (slice_index put first)

-- A place stands in it, and what does was put no earlier.
pub record IsFirstPut (put counts : List ℕ) (place : ℕ) : Type 0 where
  pub at : ℕ
  pub within : at < length put
  pub is : place ≡ slice_index put at
  pub counted : 0 < count_of counts place
  pub behind : (k : ℕ) → count_of counts k ≤ times_listed k (drop at put)

-- so many can be put at most, since how often a place stands in it is a number of 32 bits
abbrev pub most_puts : ℕ
most_puts = 4294967295

-- a frontier: the places that were ever put into it, how often each stands in it, which of those that were put aren't passed
-- over, and how many it has room for
pub record FrontierParts : Type 0 where
  pub put : List ℕ
  pub counts : List ℕ
  pub ahead : List ℕ
  pub capacity : ℕ
