-- The boundary rectangles of marked cells as they are come to: side by side, plane by plane, row by row.
use Rattle.std.specs.Prelude.{Bool, ℕ, ◌+◌, List, [], ◌∷◌, ℤ, pos, if◌then◌else◌}
use Rattle.std.specs.List.{flat_map, range_with_len}
use Rattle.faces.specs.PlaneFaces.{is_up_first}
use Rattle.solid_model.specs.declared.cell.Axis.{Axis}
use Rattle.solid_model.specs.declared.face.Out.{Out}
use Rattle.solid_model.specs.declared.face.Out.TheVariants.{MinusX, PlusX, MinusY, PlusY, MinusZ, PlusZ}
use Rattle.solid_model.specs.Faces.{outward, right_axis, up_axis, is_boundary}
use Rattle.solid_model.specs.Marks.{BoxMarks, is_marked}
use Rattle.solid_model.specs.PerAxis.{numbers_of}
use Rattle.solid_model.specs.Rounds.{Spot}
use Rattle.stl_out.specs.declared.rectangle.Rectangle.{Rectangle}

-- rows lie along the earlier of a plane's two axes, and follow one another along the later one
abbrev pub row_axis : Out → Axis
row_axis out = if is_up_first out then right_axis out else up_axis out

abbrev pub across_rows : Out → Axis
across_rows out = if is_up_first out then up_axis out else right_axis out

-- the square of a row at a place
abbrev pub square_in : Out → ℕ → ℕ → Spot
square_in out row place = if is_up_first out then record { u = pos place; v = pos row } else record { u = pos row; v = pos place }

-- the rectangle of a plane's square, where it is one of some squares
abbrev pub at_square : (Spot → Bool) → Out → ℤ → Spot → List Rectangle
at_square squares out at q = if squares q then record { out = out; at = at; right = q.u; up = q.v } ∷ [] else []

-- those of the squares of a row, so many
abbrev pub in_row : (Spot → Bool) → Out → ℤ → ℕ → ℕ → List Rectangle
in_row squares out at count row = flat_map (λ place. at_square squares out at (square_in out row place)) (range_with_len 0 count)

-- of so many rows
abbrev pub in_rows : (Spot → Bool) → Out → ℤ → ℕ → ℕ → List Rectangle
in_rows squares out at count rows = flat_map (in_row squares out at count) (range_with_len 0 rows)

-- the boundary rectangles of a plane of marked cells
abbrev pub in_plane : BoxMarks → Out → ℕ → List Rectangle
in_plane m out at = in_rows (is_boundary (is_marked m) out (pos at)) out (pos at) (numbers_of m.sizes (row_axis out)) (numbers_of m.sizes (across_rows out))

-- of so many planes
abbrev pub in_planes : BoxMarks → Out → ℕ → List Rectangle
in_planes m out planes = flat_map (in_plane m out) (range_with_len 0 planes)

-- of one side
abbrev pub on_side : BoxMarks → Out → List Rectangle
on_side m out = in_planes m out (numbers_of m.sizes (outward out).axis + 1)

-- of all six
abbrev pub on_all_sides : BoxMarks → List Rectangle
on_all_sides m = flat_map (on_side m) (MinusX ∷ PlusX ∷ MinusY ∷ PlusY ∷ MinusZ ∷ PlusZ ∷ [])
