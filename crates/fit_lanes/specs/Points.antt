-- Bytes of the segments of a view's grid, by the points at which they begin.
use Rattle.std.specs.Prelude.{◌≡◌, ◌+◌, ◌*◌, ◌≤◌, nat_lt, Bool, ℕ, List, length, slice_index_or, if◌then◌else◌}
use Rattle.solid_model.specs.declared.segment.Style.{Style}
use Rattle.solid_model.specs.declared.segment.Style.TheVariants.{Blank}
use Rattle.solid_model.specs.Segments.{along_of, across_of}
use Rattle.column_lanes.specs.Styles.{style_byte}

-- The byte of the level, or the upright, segment that begins at the point i to the right and j upwards, on a grid of w by h cells,
-- whose styles are listed by line and then by cell; that of Blank where there is none.
abbrev pub point_byte : ℕ → ℕ → Bool → List Style → ℕ → ℕ → ℕ
point_byte w h upright styles i j =
    if nat_lt (along_of upright i j) (along_of upright w h)
    then style_byte (slice_index_or styles (across_of upright i j * along_of upright w h + along_of upright i j) Blank)
    else 0

-- those at all points
pub record ArePointBytes (w h : ℕ) (upright : Bool) (styles : List Style) (bytes : List ℕ) : Type 0 where
  pub count : length bytes ≡ (h + 1) * (w + 1)
  pub each : (i j : ℕ) → i ≤ w → j ≤ h → slice_index_or bytes (j * (w + 1) + i) 0 ≡ point_byte w h upright styles i j

-- how many places before the column after a line the one before it stands, in rows of so many places
abbrev pub places_before : ℕ → Bool → ℕ
places_before stride upright = if upright then 1 else stride
