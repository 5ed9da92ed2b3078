-- Tests of prefixes that a text tells, for trees that are written out: a '#' for each prefix that is live, first for the empty
-- prefix, then level by level, in each level in the stated order.
use Rattle.std.specs.Prelude.{Bool, true, false, ◌&&◌, ℕ, ◌+◌, ◌*◌, ◌==◌, List, [], ◌∷◌, length, nat_le, slice_index_or}

-- From a place in the text: each prefix on the way along these values has a '#'.
abbrev pub lets : List ℕ → ℕ → List Bool → Bool
lets text place [] = slice_index_or text place 0 == 35
lets text place (true ∷ values) = (slice_index_or text place 0 == 35) && lets text (2 * place + 1) values
lets text place (false ∷ values) = (slice_index_or text place 0 == 35) && lets text (2 * place + 2) values

-- the prefix isn't too long for so many blocks, and each on the way to it has a '#'
abbrev pub is_let : ℕ → List ℕ → List Bool → Bool
is_let n text values = nat_le (length values) n && lets text 0 values
