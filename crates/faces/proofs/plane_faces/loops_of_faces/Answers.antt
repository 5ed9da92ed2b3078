-- The groups are the faces.
use Rattle.std.proofs.Common.{ℕ, pos, IsTrue, subst}
use Rattle.std.proofs.lemmas.Result.{IfOk-weaker}
use Rattle.solid_model.specs.Rounds.{Spot}
use Rattle.lemmas.proofs.Lists.{each-from}
use Rattle.faces.specs.declared.plane_loop.PlaneLoop.{PlaneLoop}
use Rattle.faces.specs.PlaneFaces.{is_up_first}
use Rattle.faces.specs.PlaneLoops.{ArePlaneLoops}
use Rattle.faces.specs.PlaneSquares.{SquareTable, is_there}
use Rattle.faces.specs.SquareSteps.{number_of}
use Rattle.faces.proofs.FacesInPlane.{loop_there, faces_in_plane}
use Rattle.faces.proofs.NearCorners.{groups_near}
use Rattle.faces.proofs.SquarePlaces.{all_squares, in_all_squares, there_right}
use Rattle.faces.proofs.plane_faces.loops_of_faces.Goals as goal

pub grouped-requires-clause-there : goal.grouped-requires-clause-there
grouped-requires-clause-there c =
    let t : SquareTable = c.args.squares.now in
    let number : Spot → ℕ = number_of c.in_ok-components.components.numbers.items in
    let loops = c.in_ok-loops.loops.items in
    let are : ArePlaneLoops (is_there t) (is_up_first c.args.out) loops = subst (λ up. ArePlaneLoops (is_there t) up loops) c.is_up_first.ensures c.in_ok-loops.ensures in
    each-from (λ (l : PlaneLoop). IsTrue (is_there t l.square)) loops
    (loop_there (is_there t) c.args.out (pos 0) loops are number c.in_ok-components.ensures.joined)

pub returns : goal.returns
returns c =
    let t : SquareTable = c.args.squares.now in
    let number : Spot → ℕ = number_of c.in_ok-components.components.numbers.items in
    let loops = c.in_ok-loops.loops.items in
    let are : ArePlaneLoops (is_there t) (is_up_first c.args.out) loops = subst (λ up. ArePlaneLoops (is_there t) up loops) c.is_up_first.ensures c.in_ok-loops.ensures in
    IfOk-weaker c.grouped.result _ _ (λ groups grouped. (
      λ at full boundary. faces_in_plane (is_there t) c.args.out at loops are number c.in_ok-components.ensures.joined
          all_squares (in_all_squares t) (there_right t) full (λ i q. boundary q i) _ grouped,
      groups_near t (is_up_first c.args.out) loops are.each (λ (l : PlaneLoop). number l.square) _ grouped,
    )) c.grouped.ensures
