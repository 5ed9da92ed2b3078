-- The two parts of the line.
use Rattle.std.proofs.Common.{◌≡◌, ◌++◌, ◌∙◌, to_z, of_z, w64, ap, sym, subst, rules}
use Rattle.std.proofs.lemmas.Int.{to_z-of_z}
use Rattle.face_laws.specs.GridFaces.{grid_planes, planes_at, point_of_numbers}
use Rattle.solid_model.specs.declared.cell.Axis.TheVariants.{X, Y, Z}
use Rattle.solid_model.specs.declared.cell.Cell.{Cell}
use Rattle.solid_model.specs.Grid.{Coordinates}
use Rattle.solid_model.specs.Panels.{coordinates_of}
use Rattle.stl_out.specs.CornerParts.{corner_head, corner_end}
use Rattle.stl_out.specs.Numbered.{IsGridNumber}
use Rattle.stl_out.proofs.Texts.{corner_line}
use Rattle.stl_out.proofs.text.push_corner.Goals as goal

pub head-requires-clause-x : goal.head-requires-clause-x
head-requires-clause-x c =
    let n : Cell = c.args.corner in
    subst (IsGridNumber (coordinates_of c.args.parts.now X)) (sym (to_z-of_z w64 n.x (search rules))) (c.requires X)

pub head-requires-clause-y : goal.head-requires-clause-y
head-requires-clause-y c =
    let n : Cell = c.args.corner in
    subst (IsGridNumber (coordinates_of c.args.parts.now Y)) (sym (to_z-of_z w64 n.y (search rules))) (c.requires Y)

pub end-requires : goal.end-requires
end-requires c =
    let n : Cell = c.args.corner in
    subst (IsGridNumber (coordinates_of c.args.parts.now Z)) (sym (to_z-of_z w64 n.z (search rules))) (c.requires Z)

pub returns-clause-text : goal.returns-clause-text
returns-clause-text c =
    let n : Cell = c.args.corner in
    let cs : Coordinates = coordinates_of c.args.parts.now in
    let x : to_z w64 (of_z w64 n.x) ≡ n.x = to_z-of_z w64 n.x (search rules) in
    let y : to_z w64 (of_z w64 n.y) ≡ n.y = to_z-of_z w64 n.y (search rules) in
    let z : to_z w64 (of_z w64 n.z) ≡ n.z = to_z-of_z w64 n.z (search rules) in
    let corner : Cell = point_of_numbers (grid_planes cs) n in
    corner_line corner _ _ _
    (c.in_ok-extend_from_slice.ensures.items ∙ ap (λ part. c.args.text.now.items ++ part)
    (c.head.ensures.text ∙ (λ i. corner_head (planes_at (cs X) (x i)) (planes_at (cs Y) (y i)))))
    (c.in_ok-extend_from_slice-2.ensures.items ∙ ap (λ part. c.extend_from_slice.new.self.items ++ part)
    (c.end.ensures.text ∙ (λ i. corner_end (planes_at (cs Z) (z i)))))
