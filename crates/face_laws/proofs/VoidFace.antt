-- A void has faces of its own.
use Rattle.std.proofs.Common.{◌≡◌, Bool, true, false, not, ◌&&◌, zero, [], ◌∷◌, pos, int_lt, IsTrue, refl, sym, ap}
use Rattle.std.specs.Prelude.{int_le}
use Rattle.std.proofs.lemmas.Bool.{false≢true, and_parts}
use Rattle.solid_model.specs.declared.cell.Cell.{Cell}
use Rattle.solid_model.specs.declared.face.Out.TheVariants.{PlusX}
use Rattle.solid_model.specs.Cells.{cell_at, same_cell}
use Rattle.solid_model.specs.Faces.{inner_cell, outer_cell, is_boundary, place, AreLoopsOf}
use Rattle.solid_model.specs.Rounds.{Spot, South}
use Rattle.face_laws.specs.SmallFaces.{hollow_cube, middle_square, void_loops}
use Rattle.solid_model.proofs.Fullness.{same_cell-true}
use Rattle.face_laws.proofs.LoneSquares.{in_each_heading, lone_loops}
use Rattle.face_laws.proofs.SmallLoops.{round_is}
use Rattle.face_laws.proofs.SomeLoop.{side_of}
use Rattle.face_laws.proofs.Turns.{same_spot}

-- a cell beside one that is within the cube is within it too, so where it is empty it is the void
void_beside : (within empty : Bool) → within ≡ true → not (within && not empty) ≡ true → empty ≡ true
void_beside true true e f = refl
void_beside true false e f = absurd (false≢true f)
void_beside false empty e f = absurd (false≢true e)

-- the middle square is the one boundary square in this plane
only_middle : (p : Spot) → IsTrue (is_boundary hollow_cube PlusX (pos 1) p) → p ≡ middle_square
only_middle p is =
    let y_and_z : Bool = (int_le (pos 0) p.u && int_lt p.u (pos 3)) && (int_le (pos 0) p.v && int_lt p.v (pos 3)) in
    let parts = and_parts (hollow_cube (inner_cell PlusX (pos 1) p)) (not (hollow_cube (outer_cell PlusX (pos 1) p))) is in
    let within : y_and_z ≡ true = (and_parts y_and_z (not (same_cell (cell_at 1 1 1) (inner_cell PlusX (pos 1) p))) parts.0).0 in
    let void = same_cell-true (cell_at 1 1 1) (outer_cell PlusX (pos 1) p)
    (void_beside y_and_z (same_cell (cell_at 1 1 1) (outer_cell PlusX (pos 1) p)) within parts.1) in
    same_spot p middle_square (sym (ap (λ (c : Cell). c.y) void)) (sym (ap (λ (c : Cell). c.z) void))

pub void_loops_are : AreLoopsOf (is_boundary hollow_cube PlusX (pos 1)) (place PlusX (pos 1)) middle_square void_loops
void_loops_are =
    let squares : Spot → Bool = is_boundary hollow_cube PlusX (pos 1) in
    lone_loops squares PlusX (pos 1) middle_square only_middle
    (record {
      is_round = round_is squares (side_of South middle_square) 3 refl refl refl refl;
      joined =
          (zero, refl);
      on = in_each_heading _ refl refl refl refl;
    })
    (cell_at 1 1 1 ∷ cell_at 1 2 1 ∷ cell_at 1 2 2 ∷ cell_at 1 1 2 ∷ []) refl (refl, (refl, (refl, tt)))
