-- Cells of blocks by columns, and what is known of numbered columns.
use Rattle.std.specs.Prelude.{◌≡◌, ◌<◌, Bool, ℕ, pos, ◌==◌, ◌&&◌, ◌||◌, All, List, slice_index_or, Option}
use Rattle.std.specs.List.{list_any}
use Rattle.solid_model.specs.Known.{known_bits, LiesWithin}
use Rattle.line_demands.specs.declared.known.KnownColumn.{KnownColumn}
use Rattle.line_demands.specs.declared.spans.Span.{Span}
use Rattle.lemmas.specs.Bits.{is_set}

-- the cell of a column at a depth is one of a span's
abbrev pub is_in_span : ℕ → ℕ → Span → Bool
is_in_span c k s = (s.column == c) && is_set s.cells k

-- it is one of some span's
abbrev pub is_on : List Span → ℕ → ℕ → Bool
is_on spans c k = list_any (is_in_span c k) spans

-- a column that isn't there: each of its cells is empty
abbrev pub no_column : KnownColumn
no_column = record { full = 0; may = 0 }

abbrev pub column_there : List KnownColumn → ℕ → KnownColumn
column_there columns c = slice_index_or columns c no_column

-- what is known of a column's cell at a depth
abbrev pub known_there : List KnownColumn → ℕ → ℕ → Option Bool
known_there columns c k = known_bits (column_there columns c).full (column_there columns c).may (pos k)

-- in each column what is full may be full
abbrev pub AreWithin : List KnownColumn → Type 0
AreWithin columns = (c : ℕ) → LiesWithin (column_there columns c).full (column_there columns c).may

-- one cell of a column more
abbrev pub AreAdded : ℕ → ℕ → List Span → List Span → Type 0
AreAdded column depth old new = ((c k : ℕ) → is_on new c k ≡ (is_on old c k || ((column == c) && (depth == k))))
    × ((n : ℕ) → All (λ s. s.column < n) old → column < n → All (λ s. s.column < n) new)
