-- Parts of a text.
use Rattle.std.specs.Prelude.{◌≤◌, ℕ, List, length, slice_range}
use Rattle.dxf_groups.specs.declared.span.Span.{Span}

-- the span lies in the text
abbrev pub IsSpanIn : List ℕ → Span → Type 0
IsSpanIn text span = (span.start ≤ span.end) × (span.end ≤ length text)

-- the bytes of a span of a text
abbrev pub span_of : List ℕ → Span → List ℕ
span_of text span = slice_range text span.start span.end
