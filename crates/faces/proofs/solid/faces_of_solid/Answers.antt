-- The rows are those of the chosen cells.
use Rattle.std.proofs.Common.{◌≡◌, ◌≤◌, ◌++◌, Bool, List, length, sym, ap, subst, ◌∙◌, arith}
use Rattle.std.proofs.lemmas.Result.{IfOk-weaker}
use Rattle.solid_model.specs.declared.cell.Cell.{Cell}
use Rattle.solid_model.specs.Faces.{AreFacesOf}
use Rattle.solid_model.specs.Grid.{IsUnionOf}
use Rattle.solid_model.specs.Marks.{BoxMarks}
use Rattle.solid_model.specs.Panels.{coordinates_of}
use Rattle.solid_model.specs.PerAxis.{numbers_of}
use Rattle.solid_model.specs.WalledBoxes.{box_count}
use Rattle.faces.proofs.solid.faces_of_solid.Goals as goal

pub new-marks-requires : goal.new-marks-requires
new-marks-requires c = record {
  few = λ a. let l = c.sizes.ensures.few a in omega arith;
  listed = ap length (c.in_ok-extend_from_slice.ensures.items ∙ ap (λ (l : List Bool). l ++ c.args.cells.now) c.in_ok-chosen.ensures.items)
      ∙ c.requires ∙ sym (ap box_count c.sizes.ensures.sizes);
}

pub of-requires : goal.of-requires
of-requires c = λ a. subst (λ (m : BoxMarks). numbers_of m.sizes a ≤ 63) (sym c.new-marks.ensures) (c.sizes.ensures.few a)

pub faces_of_rows-requires : goal.faces_of_rows-requires
faces_of_rows-requires c = ap (λ (m : BoxMarks). numbers_of m.sizes) (c.in_ok-rows.ensures ∙ c.new-marks.ensures) ∙ c.sizes.ensures.sizes

pub returns : goal.returns
returns c =
    let coordinates = coordinates_of c.args.grid.now in
    let values : c.in_ok-rows.rows.values ≡ c.args.cells.now =
    ap (λ (m : BoxMarks). m.values) (c.in_ok-rows.ensures ∙ c.new-marks.ensures) ∙ c.in_ok-extend_from_slice.ensures.items
    ∙ ap (λ (l : List Bool). l ++ c.args.cells.now) c.in_ok-chosen.ensures.items in
    IfOk-weaker c.faces_of_rows.result
    (λ faces. (full : Cell → Bool) → IsUnionOf coordinates c.in_ok-rows.rows.values full → AreFacesOf full faces.items)
    (λ faces. (full : Cell → Bool) → IsUnionOf coordinates c.args.cells.now full → AreFacesOf full faces.items)
    (λ faces are full union. are full (subst (λ v. IsUnionOf coordinates v full) (sym values) union))
    c.faces_of_rows.ensures
