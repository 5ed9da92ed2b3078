-- Truth values kept as bits: value k of a list is bit k % 64 of word k / 64.
use Rattle.std.specs.Prelude.{◌==◌, ◌+◌, ◌-◌, ◌/◌, ◌%◌, ◌^◌, Bool, false, ℕ, ℤ, pos, negsuc, List, map, slice_index_or}
use Rattle.std.specs.Int.{bit_at}
use Rattle.std.specs.Int.RustNames.{bit_xor}
use Rattle.std.specs.List.{range_with_len}

-- bit k of a number is set
abbrev pub is_set : ℕ → ℕ → Bool
is_set n k = bit_at n k == 1

-- bit k of words, counted on from one word to the next
abbrev pub bit_of : List ℕ → ℕ → Bool
bit_of words k = is_set (slice_index_or words (k / 64) 0) (k % 64)

-- the first bits of words, so many of them
unfoldable pub first_bits : List ℕ → ℕ → List Bool
first_bits words count = map (bit_of words) (range_with_len 0 count)

-- ---- columns

-- the bits of a number as a column of cells along a sight line: bit k is the cell at depth k, and none is full before depth 0
abbrev pub bits : ℕ → ℤ → Bool
bits n (pos k) = is_set n k
bits n (negsuc k) = false

-- the bits of a number of 64 bits down to the lowest one that is set, that one too: it and the number before it differ there,
-- and before 0 stands the greatest number
abbrev pub near : ℕ → ℕ
near n = bit_xor n ((n + (2 ^ 64 - 1)) % 2 ^ 64)
