-- The unit cube has its six faces.
use Rattle.std.proofs.Common.{◌≡◌, inl, inr, Bool, true, false, ◌||◌, zero, List, [], ◌∷◌, map, ℤ, pos, ◌-ℤ◌, IsTrue, refl, sym, ap, subst, arith}
use Rattle.std.proofs.lemmas.Int.{ints}
use Rattle.solid_model.specs.declared.cell.Cell.{Cell}
use Rattle.solid_model.specs.declared.face.Out.{Out}
use Rattle.solid_model.specs.declared.face.Out.TheVariants.{MinusX, PlusX, MinusY, PlusY, MinusZ, PlusZ}
use Rattle.solid_model.specs.Cells.{cell_at, same_cell, is_full}
use Rattle.solid_model.specs.Faces.{inner_cell, is_boundary, place, BeginsLeast, FaceParts, IsFaceAt, FaceBefore, AreFacesOf}
use Rattle.lemmas.specs.Lists.{Member, Each, Ascends}
use Rattle.solid_model.specs.Rounds.{Spot, South, round_corners}
use Rattle.face_laws.specs.SmallFaces.{first_square, unit_cube_faces}
use Rattle.solid_model.specs.SmallSolids.{unit_cube}
use Rattle.face_laws.proofs.BoundarySquares.{inner_full}
use Rattle.solid_model.proofs.Fullness.{same_cell-true}
use Rattle.face_laws.proofs.LoneSquares.{in_each_heading, IsLone, lone_loops}
use Rattle.face_laws.proofs.SmallLoops.{round_is}
use Rattle.face_laws.proofs.SomeLoop.{side_of}
use Rattle.face_laws.proofs.Turns.{same_spot}

-- the planes of its faces
abbrev cube_plane : Out → ℤ
cube_plane MinusX = pos 0
cube_plane PlusX = pos 1
cube_plane MinusY = pos 0
cube_plane PlusY = pos 1
cube_plane MinusZ = pos 0
cube_plane PlusZ = pos 1

or_false : (b : Bool) → (b || false) ≡ true → b ≡ true
or_false true e = refl
or_false false e = e

one_more : (z : ℤ) → pos 0 ≡ z -ℤ pos 1 → z ≡ pos 1
one_more z e = omega (arith, ints)

-- the first square of such a plane is its one boundary square
only_square : (out : Out) (at : ℤ) (p : Spot) → IsTrue (is_boundary (is_full unit_cube) out at p)
    → (p ≡ first_square) × (at ≡ cube_plane out)
only_square out at p is = by out
    (same_cell-true (cell_at 0 0 0) (inner_cell out at p)
    (or_false (same_cell (cell_at 0 0 0) (inner_cell out at p)) (inner_full (is_full unit_cube) out at p is)))
  where
    by : (o : Out) → cell_at 0 0 0 ≡ inner_cell o at p → (p ≡ first_square) × (at ≡ cube_plane o)
    by MinusX e = (
      same_spot p first_square (sym (ap (λ (c : Cell). c.z) e)) (sym (ap (λ (c : Cell). c.y) e)),
      sym
          (ap (λ (c : Cell). c.x) e),
    )
    by PlusX e = (
      same_spot p first_square (sym (ap (λ (c : Cell). c.y) e)) (sym (ap (λ (c : Cell). c.z) e)),
      one_more at
          (ap (λ (c : Cell). c.x) e),
    )
    by MinusY e = (
      same_spot p first_square (sym (ap (λ (c : Cell). c.x) e)) (sym (ap (λ (c : Cell). c.z) e)),
      sym
          (ap (λ (c : Cell). c.y) e),
    )
    by PlusY e = (
      same_spot p first_square (sym (ap (λ (c : Cell). c.z) e)) (sym (ap (λ (c : Cell). c.x) e)),
      one_more at
          (ap (λ (c : Cell). c.y) e),
    )
    by MinusZ e = (
      same_spot p first_square (sym (ap (λ (c : Cell). c.y) e)) (sym (ap (λ (c : Cell). c.x) e)),
      sym
          (ap (λ (c : Cell). c.z) e),
    )
    by PlusZ e = (
      same_spot p first_square (sym (ap (λ (c : Cell). c.x) e)) (sym (ap (λ (c : Cell). c.y) e)),
      one_more at
          (ap (λ (c : Cell). c.z) e),
    )

-- its faces, one by one
abbrev cube_loop : Out → List Cell
cube_loop MinusX = cell_at 0 0 0 ∷ cell_at 0 0 1 ∷ cell_at 0 1 1 ∷ cell_at 0 1 0 ∷ []
cube_loop PlusX = cell_at 1 0 0 ∷ cell_at 1 1 0 ∷ cell_at 1 1 1 ∷ cell_at 1 0 1 ∷ []
cube_loop MinusY = cell_at 0 0 0 ∷ cell_at 1 0 0 ∷ cell_at 1 0 1 ∷ cell_at 0 0 1 ∷ []
cube_loop PlusY = cell_at 0 1 0 ∷ cell_at 0 1 1 ∷ cell_at 1 1 1 ∷ cell_at 1 1 0 ∷ []
cube_loop MinusZ = cell_at 0 0 0 ∷ cell_at 0 1 0 ∷ cell_at 1 1 0 ∷ cell_at 1 0 0 ∷ []
cube_loop PlusZ = cell_at 0 0 1 ∷ cell_at 1 0 1 ∷ cell_at 1 1 1 ∷ cell_at 0 1 1 ∷ []

abbrev cube_face : Out → FaceParts
cube_face out = record { out = out; at = cube_plane out; loops = cube_loop out ∷ [] }

-- the boundary squares in the plane of one
abbrev cube_squares : Out → Spot → Bool
cube_squares out = is_boundary (is_full unit_cube) out (cube_plane out)

-- each is gone round,
cube_lone : (out : Out) → IsLone (cube_squares out) first_square
cube_lone MinusX = record {
  is_round = round_is (cube_squares MinusX) (side_of South first_square) 3 refl refl refl refl;
  joined = (zero, refl);
  on = in_each_heading _ refl refl refl refl;
}
cube_lone PlusX = record {
  is_round = round_is (cube_squares PlusX) (side_of South first_square) 3 refl refl refl refl;
  joined = (zero, refl);
  on = in_each_heading _ refl refl refl refl;
}
cube_lone MinusY = record {
  is_round = round_is (cube_squares MinusY) (side_of South first_square) 3 refl refl refl refl;
  joined = (zero, refl);
  on = in_each_heading _ refl refl refl refl;
}
cube_lone PlusY = record {
  is_round = round_is (cube_squares PlusY) (side_of South first_square) 3 refl refl refl refl;
  joined = (zero, refl);
  on = in_each_heading _ refl refl refl refl;
}
cube_lone MinusZ = record {
  is_round = round_is (cube_squares MinusZ) (side_of South first_square) 3 refl refl refl refl;
  joined = (zero, refl);
  on = in_each_heading _ refl refl refl refl;
}
cube_lone PlusZ = record {
  is_round = round_is (cube_squares PlusZ) (side_of South first_square) 3 refl refl refl refl;
  joined = (zero, refl);
  on = in_each_heading _ refl refl refl refl;
}

-- as it is written out,
cube_written : (out : Out)
    → (cube_loop out ≡ map (place out (cube_plane out)) (round_corners (cube_squares out) (side_of South first_square) 3))
    × BeginsLeast (cube_loop out)
cube_written MinusX = (refl, (refl, (refl, (refl, tt))))
cube_written PlusX = (refl, (refl, (refl, (refl, tt))))
cube_written MinusY = (refl, (refl, (refl, (refl, tt))))
cube_written PlusY = (refl, (refl, (refl, (refl, tt))))
cube_written MinusZ = (refl, (refl, (refl, (refl, tt))))
cube_written PlusZ = (refl, (refl, (refl, (refl, tt))))

-- and is a face
cube_is_face : (out : Out) → IsTrue (cube_squares out first_square) → IsFaceAt (is_full unit_cube) first_square (cube_face out)
cube_is_face out is = (
  is,
  lone_loops (cube_squares out) out (cube_plane out) first_square
      (λ p in_p. (only_square out (cube_plane out) p in_p).0) (cube_lone out) (cube_loop out) (cube_written out).0
      (cube_written out).1,
)

cube_each : Each (λ f. (q : Spot) × IsFaceAt (is_full unit_cube) q f) unit_cube_faces
cube_each =
    let lower_x = cube_is_face MinusX refl in
    let upper_x = cube_is_face PlusX refl in
    let lower_y = cube_is_face MinusY refl in
    let upper_y = cube_is_face PlusY refl in
    let lower_z = cube_is_face MinusZ refl in
    let upper_z = cube_is_face PlusZ refl in (
      (first_square, lower_x),
      (
        (first_square, upper_x),
        ((first_square, lower_y), ((first_square, upper_y), ((first_square, lower_z), ((first_square, upper_z), tt)))),
      ),
    )

cube_ordered : Ascends FaceBefore unit_cube_faces
cube_ordered = (
  (refl, (refl, (refl, (refl, (refl, tt))))),
  ((refl, (refl, (refl, (refl, tt)))), ((refl, (refl, (refl, tt))), ((refl, (refl, tt)), ((refl, tt), (tt, tt))))),
)

-- a boundary square has its face
abbrev HasFace : Out → ℤ → Spot → Type 0
HasFace out at q = (f : FaceParts) × Member unit_cube_faces f × (f.out ≡ out) × (f.at ≡ at) × IsFaceAt (is_full unit_cube) q f

-- and each does
cube_complete : (out : Out) (at : ℤ) (q : Spot) → IsTrue (is_boundary (is_full unit_cube) out at q) → HasFace out at q
cube_complete out at q is = by out (only_square out at q is)
  where
    there : (o : Out) → Member unit_cube_faces (cube_face o) → IsTrue (cube_squares o first_square)
        → (q ≡ first_square) × (at ≡ cube_plane o) → HasFace o at q
    there o among here same = (
      cube_face o,
      among,
      refl,
      sym same.1,
      subst (λ r. IsFaceAt (is_full unit_cube) r (cube_face o)) (sym same.0)
          (cube_is_face o here),
    )

    by : (o : Out) → (q ≡ first_square) × (at ≡ cube_plane o) → HasFace o at q
    by MinusX same = there MinusX (inl refl) refl same
    by PlusX same = there PlusX (inr (inl refl)) refl same
    by MinusY same = there MinusY (inr (inr (inl refl))) refl same
    by PlusY same = there PlusY (inr (inr (inr (inl refl)))) refl same
    by MinusZ same = there MinusZ (inr (inr (inr (inr (inl refl))))) refl same
    by PlusZ same = there PlusZ (inr (inr (inr (inr (inr (inl refl)))))) refl same

pub cube_faces : AreFacesOf (is_full unit_cube) unit_cube_faces
cube_faces = record { each = cube_each; ordered = cube_ordered; complete = cube_complete }
