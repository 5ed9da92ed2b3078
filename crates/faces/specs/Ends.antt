-- The points of a row at which sides of the border of squares may end.
use Rattle.std.specs.Prelude.{◌≡◌, ◌<◌, Bool, false, ℕ, zero, suc, List, length, slice_index_or}
use Rattle.lemmas.specs.Bits.{is_set}

-- the bit before a bit
abbrev pub is_set_before : ℕ → ℕ → Bool
is_set_before word zero = false
is_set_before word (suc k) = is_set word k

-- Between a row of squares and the one below it: where no bit tells a point, the four squares round it are all there, or none is.
abbrev pub TellRowEnds : ℕ → ℕ → ℕ → Type 0
TellRowEnds above below ends = (u : ℕ) → u < 64 → is_set ends u ≡ false
    → (is_set below u ≡ is_set above u) × (is_set_before above u ≡ is_set above u) × (is_set_before below u ≡ is_set above u)

-- the columns of rows, as rows
pub record AreTurned (rows columns : List ℕ) : Type 0 where
  pub count : length columns ≡ 64
  pub each : (j k : ℕ) → j < 64 → k < 64 → is_set (slice_index_or columns j 0) k ≡ is_set (slice_index_or rows k 0) j
