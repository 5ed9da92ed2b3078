-- Points of a view's grid at which something may be drawn.
use Rattle.std.specs.Prelude.{◌≡◌, ◌+◌, ◌-◌, ◌/◌, ◌%◌, ◌<◌, ◌≤◌, Bool, false, ℕ, List, [], length, slice_index_or}
use Rattle.cell_rows.specs.declared.span.Span.{Span}
use Rattle.cell_rows.specs.Spans.{is_among}
use Rattle.lemmas.specs.Bits.{bits}
use Rattle.lemmas.specs.Lists.{Each}
use Rattle.solid_model.specs.Segments.{across_of}
use Rattle.fit_lanes.specs.Points.{places_before}

-- no column beside a point is of a block: neither the one after its lines nor those before them
pub record IsBare (sights : List (List Span)) (stride p : ℕ) : Type 0 where
  pub after : slice_index_or sights (p + stride) [] ≡ []
  pub before : (upright : Bool) → slice_index_or sights (p + stride - places_before stride upright) [] ≡ []

-- of so many points those beyond which that is so
pub record AreBusy (sights : List (List Span)) (stride count : ℕ) (points : List ℕ) : Type 0 where
  pub inside : Each (λ p. p < count) points
  pub beyond : (p : ℕ) → p < count → is_among points p ≡ false → IsBare sights stride p

-- none of these points, in rows of so many, stands on an upright, or a level, line before this one
abbrev pub IsNoLater : ℕ → Bool → List ℕ → ℕ → Type 0
IsNoLater stride upright points first = Each (λ p. first ≤ across_of upright (p % stride) (p / stride)) points

-- beyond these points the columns after and before the lines are the same,
abbrev pub AreAlikeBeyond : List ℕ → ℕ → Bool → List ℕ → ℕ → Type 0
AreAlikeBeyond columns stride upright points count = (p : ℕ) → p < count → is_among points p ≡ false
    → bits (slice_index_or columns (p + stride) 0) ≡ bits (slice_index_or columns (p + stride - places_before stride upright) 0)

-- and nothing is drawn
abbrev pub AreBlankBeyond : List ℕ → List ℕ → Type 0
AreBlankBeyond points bytes = (p : ℕ) → p < length bytes → is_among points p ≡ false → slice_index_or bytes p 0 ≡ 0
