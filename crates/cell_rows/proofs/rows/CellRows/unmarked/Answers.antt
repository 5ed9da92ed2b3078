-- There are so many cells.
use Rattle.std.proofs.Common.{rules, ◌≡◌, ◌≤◌, ◌∙◌, ap, sym, subst, arith}
use Rattle.std.proofs.lemmas.Result.{IfOk-weaker}
use Rattle.solid_model.specs.Marks.{BoxMarks}
use Rattle.solid_model.specs.PerAxis.{numbers_of}
use Rattle.cell_rows.proofs.rows.CellRows.unmarked.Goals as goal

pub new-marks-requires : goal.new-marks-requires
new-marks-requires c = record {
  few = λ a. let l = c.requires a in omega arith;
  listed = search rules ∙ c.count.ensures;
}

pub of-requires : goal.of-requires
of-requires c = λ a. subst (λ (m : BoxMarks). numbers_of m.sizes a ≤ 63) (sym c.new-marks.ensures) (c.requires a)

pub returns : goal.returns
returns c = IfOk-weaker c.of.result (λ (m : BoxMarks). m ≡ c.new-marks.result) (λ (m : BoxMarks). m.sizes ≡ c.args.sizes)
    (λ m is. ap (λ (n : BoxMarks). n.sizes) (is ∙ c.new-marks.ensures)) c.of.ensures
