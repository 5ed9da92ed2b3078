-- Faces, told in few words.
use Rattle.std.specs.Prelude.{ℤ, List}
use Rattle.solid_model.specs.declared.cell.Cell.{Cell}
use Rattle.solid_model.specs.declared.face.Out.{Out}
use Rattle.solid_model.specs.Faces.{FaceParts}

-- the face on an outward side, at a coordinate, with these loops
abbrev pub face_on : Out → ℤ → List (List Cell) → FaceParts
face_on out at loops = record { out = out; at = at; loops = loops }
