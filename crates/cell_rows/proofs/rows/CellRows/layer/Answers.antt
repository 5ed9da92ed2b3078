-- The rows stand in one line, from the first one on, or there are none.
use Rattle.std.proofs.Common.{pos, ap, sym, subst, ◌∙◌, arith}
use Rattle.solid_model.specs.declared.frame.Direction.{Direction}
use Rattle.solid_model.specs.Marks.{BoxMarks}
use Rattle.solid_model.specs.PerAxis.{numbers_of, numbered, AreFew}
use Rattle.cell_rows.specs.Layers.{AreLayer}
use Rattle.cell_rows.proofs.RowCells.{few_rows}
use Rattle.cell_rows.proofs.LayerCells.{lacks_layer, found_layer}
use Rattle.cell_rows.proofs.rows.CellRows.layer.Goals as goal

pub place-requires-clause-few : goal.place-requires-clause-few
place-requires-clause-few c =
    subst AreFew (sym c.numbered-ends.ensures) (few_rows (numbers_of c.self.inside.sizes) c.right-right.result (λ a. let l = c.self.invariant.few a in omega arith))

pub stride-requires : goal.stride-requires
stride-requires c =
    subst AreFew (sym c.numbered-ends.ensures) (few_rows (numbers_of c.self.inside.sizes) c.right-right.result (λ a. let l = c.self.invariant.few a in omega arith))

pub returns-then-not-has : goal.returns-then-not-has
returns-then-not-has c =
    let m = c.args.self.now in
    subst (AreLayer m c.args.out (pos c.args.at)) (sym c.of.ensures)
    (lacks_layer m c.args.out c.args.at c.direction.result.axis c.right-right.result c.numbered-first.result c.numbered-ends.result
    (ap (λ (d : Direction). d.axis) c.direction.ensures) c.right-right.ensures c.numbered-first.ensures
    (c.numbered-ends.ensures ∙ ap (λ (b : BoxMarks). numbered c.right-right.result 1 (numbers_of b.sizes)) c.self.view_is)
    c.rows-rows.result.now c.rows-rows.ensures (sym c.has.ensures ∙ c.if-not-has.true))

pub of-requires-2 : goal.of-requires-2
of-requires-2 c =
    (found_layer c.args.self.now c.args.out c.args.at c.direction.result.axis c.right-right.result c.numbered-first.result c.numbered-ends.result
    (ap (λ (d : Direction). d.axis) c.direction.ensures) c.right-right.ensures c.numbered-first.ensures
    (c.numbered-ends.ensures ∙ ap (λ (b : BoxMarks). numbered c.right-right.result 1 (numbers_of b.sizes)) c.self.view_is)
    c.rows-rows.result.now c.rows-rows.ensures c.up-up.result c.up-up.ensures (sym c.has.ensures ∙ c.if-not-has.false)
    c.place.result c.stride.result c.along.result c.place.ensures.place c.stride.ensures c.along.ensures).0

pub returns : goal.returns
returns c =
    let m = c.args.self.now in
    subst (AreLayer m c.args.out (pos c.args.at)) (sym c.of-2.ensures)
    (found_layer m c.args.out c.args.at c.direction.result.axis c.right-right.result c.numbered-first.result c.numbered-ends.result
    (ap (λ (d : Direction). d.axis) c.direction.ensures) c.right-right.ensures c.numbered-first.ensures
    (c.numbered-ends.ensures ∙ ap (λ (b : BoxMarks). numbered c.right-right.result 1 (numbers_of b.sizes)) c.self.view_is)
    c.rows-rows.result.now c.rows-rows.ensures c.up-up.result c.up-up.ensures (sym c.has.ensures ∙ c.if-not-has.false)
    c.place.result c.stride.result c.along.result c.place.ensures.place c.stride.ensures c.along.ensures).1
