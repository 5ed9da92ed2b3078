-- Whether columns of which some cells are known can still draw a wanted style, as bytes.
use Rattle.std.specs.Prelude.{◌≡◌, ◌==◌, ◌<◌, ◌↔◌, ℤ, Bool, Option, ℕ, List, slice_index_or, if◌then◌else◌}
use Rattle.std.specs.Int.Bits.{bit_and, bit_or}
use Rattle.std.specs.Int.RustNames.{bit_xor}
use Rattle.solid_model.specs.declared.segment.Style.{Style}
use Rattle.lemmas.specs.Bits.{near}
use Rattle.solid_model.specs.Demands.{CanDraw}
use Rattle.column_lanes.specs.Styles.{style_byte}

-- 1 where some columns that agree with what is known of them draw the style of the wanted byte, else 0
abbrev pub IsMetByte : ℕ → ℕ → (ℤ → Option Bool) → (ℤ → Option Bool) → Type 0
IsMetByte byte wanted known other = (style : Style) × (wanted ≡ style_byte style) × (byte < 2) × ((byte ≡ 1) ↔ CanDraw known other style)

-- ---- computed on numbers: of two columns the cells that are full for certain, and those that may be full

-- the bits of a number that another one doesn't have
abbrev pub bits_without : ℕ → ℕ → ℕ
bits_without one other = bit_xor one (bit_and one other)

-- the depths at which the columns must differ,
abbrev pub must_differ : ℕ → ℕ → ℕ → ℕ → ℕ
must_differ full_l may_l full_r may_r = bit_or (bits_without full_l may_r) (bits_without full_r may_l)

-- and those at which they can
abbrev pub may_differ : ℕ → ℕ → ℕ → ℕ → ℕ
may_differ full_l may_l full_r may_r = bit_or (bits_without may_l full_r) (bits_without may_r full_l)

-- those at which both can begin: both may be full, and nearer none is full for certain
abbrev pub can_begin : ℕ → ℕ → ℕ → ℕ → ℕ
can_begin full_l may_l full_r may_r = bit_and (bit_and may_l may_r) (near (bit_or full_l full_r))

-- Blank, Dashed or Solid can be drawn
abbrev pub met_code : ℕ → ℕ → ℕ → ℕ → ℕ → ℕ
met_code full_l may_l full_r may_r want =
    if want == 0 then (if must_differ full_l may_l full_r may_r == 0 then 1 else 0)
    else (if want == 1 then (if bits_without (may_differ full_l may_l full_r may_r) (near (can_begin full_l may_l full_r may_r)) == 0 then 0 else 1)
    else (if bit_and (may_differ full_l may_l full_r may_r) (near (bit_or full_l full_r)) == 0 then 0 else 1))

-- of the two at a place
abbrev pub met_at : List ℕ → List ℕ → List ℕ → List ℕ → List ℕ → ℕ → ℕ
met_at full_l may_l full_r may_r want k = met_code (slice_index_or full_l k 0) (slice_index_or may_l k 0)
    (slice_index_or full_r k 0) (slice_index_or may_r k 0) (slice_index_or want k 0)
