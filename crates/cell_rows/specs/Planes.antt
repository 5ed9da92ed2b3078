-- Planes across the axes of a box, as numbers whose bits are the planes.
use Rattle.std.specs.Prelude.{◌≡◌, ◌&&◌, ◌<◌, not, Bool, true, false, ℕ, zero, suc, List, slice_index_or, pos}
use Rattle.cell_rows.specs.declared.changed_planes.ChangedPlanes.{ChangedPlanes}
use Rattle.cell_rows.specs.declared.changed_planes.PlanesAcross.{PlanesAcross}
use Rattle.lemmas.specs.Bits.{is_set}
use Rattle.solid_model.specs.declared.cell.Axis.{Axis}
use Rattle.solid_model.specs.declared.cell.Axis.TheVariants.{X, Y, Z}
use Rattle.solid_model.specs.declared.face.Out.{Out}
use Rattle.solid_model.specs.Faces.{outward, is_boundary}
use Rattle.solid_model.specs.Marks.{BoxMarks, is_marked}
use Rattle.solid_model.specs.Rounds.{Spot}

-- of the planes whose outward side is along their axis, or against it, that of number k is one of these
abbrev pub is_across : PlanesAcross → Bool → ℕ → Bool
is_across p true k = is_set p.forward k
is_across p false k = is_set p.backward k

-- those across an axis
abbrev pub planes_along : ChangedPlanes → Axis → PlanesAcross
planes_along planes X = planes.x
planes_along planes Y = planes.y
planes_along planes Z = planes.z

-- of those with an outward side, that of number k is one of these
abbrev pub is_plane_of : ChangedPlanes → Out → ℕ → Bool
is_plane_of planes out k = is_across (planes_along planes (outward out).axis) (outward out).forward k

-- of a row of cells, the one before that of number k is marked
abbrev pub is_marked_before : (ℕ → Bool) → ℕ → Bool
is_marked_before row zero = false
is_marked_before row (suc k) = row k

-- a row of cells has a boundary square in the plane at number k, whose outward side is along the row, or against it
abbrev pub ends_at : (ℕ → Bool) → Bool → ℕ → Bool
ends_at row true k = is_marked_before row k && not (row k)
ends_at row false k = row k && not (is_marked_before row k)

-- in a plane that isn't one of these, the first rows of two lists, so many of them, have the same boundary squares
abbrev pub EndAlikeBeside : PlanesAcross → List ℕ → List ℕ → ℕ → Type 0
EndAlikeBeside planes rows others count = (forward : Bool) (k : ℕ) → k < 64 → is_across planes forward k ≡ false → (p : ℕ) → p < count
    → ends_at (is_set (slice_index_or rows p 0)) forward k ≡ ends_at (is_set (slice_index_or others p 0)) forward k

-- in a plane that isn't one of these, marked cells have the same boundary squares, whichever of two boxes they are of
abbrev pub AreSameBeside : ChangedPlanes → BoxMarks → BoxMarks → Type 0
AreSameBeside planes m n = (out : Out) (at : ℕ) → at < 64 → is_plane_of planes out at ≡ false → (q : Spot)
    → is_boundary (is_marked m) out (pos at) q ≡ is_boundary (is_marked n) out (pos at) q
