-- Numbers that are computed together, eight at once, and bytes that are put one after another.
use Rattle.std.specs.Prelude.{◌≡◌, ◌<◌, ℕ, List, length, slice_index_or}

-- eight lanes, each with its value
pub record AreLanes (lanes : List ℕ) (value : ℕ → ℕ) : Type 0 where
  pub eight : length lanes ≡ 8
  pub each : (k : ℕ) → k < 8 → slice_index_or lanes k 0 ≡ value k

-- the first bytes have their values, so many
abbrev pub AreBytes : (ℕ → ℕ) → List ℕ → ℕ → Type 0
AreBytes value bytes n = (k : ℕ) → k < n → slice_index_or bytes k 0 ≡ value k
