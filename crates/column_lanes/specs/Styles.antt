-- The styles of columns, as bytes.
use Rattle.std.specs.Prelude.{◌≡◌, ◌==◌, ℤ, Bool, ℕ, List, slice_index_or, if◌then◌else◌}
use Rattle.std.specs.Int.Bits.{bit_and}
use Rattle.solid_model.specs.declared.segment.Style.{Style}
use Rattle.solid_model.specs.declared.segment.Style.TheVariants.{Blank, Dashed, Solid}
use Rattle.lemmas.specs.Bits.{near}
use Rattle.solid_model.specs.Columns.{ColumnsDraw}

-- the byte of a style
abbrev pub style_byte : Style → ℕ
style_byte Blank = 0
style_byte Dashed = 1
style_byte Solid = 2

-- it is that of the style which the two columns draw
abbrev pub IsStyleByte : ℕ → (ℤ → Bool) → (ℤ → Bool) → Type 0
IsStyleByte byte after before = (style : Style) × ColumnsDraw after before style × (byte ≡ style_byte style)

-- ---- computed on numbers

-- the lowest bit of a number of 64 bits, by itself
abbrev pub lowest_bit : ℕ → ℕ
lowest_bit n = bit_and n (near n)

-- equal columns, columns with the same first full depth, or others
abbrev pub style_code : ℕ → ℕ → ℕ
style_code after before = if after == before then 0 else (if lowest_bit after == lowest_bit before then 1 else 2)

-- of the two at a place
abbrev pub code_at : List ℕ → List ℕ → ℕ → ℕ
code_at after before k = style_code (slice_index_or after k 0) (slice_index_or before k 0)
