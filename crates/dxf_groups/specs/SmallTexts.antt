-- Small texts, for pairs that are written out.
use Rattle.std.specs.Prelude.{ℕ, ℤ, List, ◌++◌}
use Rattle.dxf_groups.specs.Pairs.{TextPair, Pairs, utf8_mark, pairs_of}

-- the pair whose code is on this line
abbrev pub pair_on : ℕ → ℤ → List ℕ → TextPair
pair_on line code value = record { code = code; value = value; line = line }

-- the pairs of a text after the mark of UTF-8
abbrev pub pairs_of_marked : List ℕ → Pairs
pairs_of_marked text = pairs_of (utf8_mark ++ text)
