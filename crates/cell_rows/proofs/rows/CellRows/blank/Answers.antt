-- The sizes are those of the blocks.
use Rattle.std.proofs.Common.{◌≡◌, ◌∙◌}
use Rattle.std.proofs.lemmas.Result.{IfOk-weaker}
use Rattle.solid_model.specs.Marks.{BoxMarks}
use Rattle.cell_rows.proofs.ProblemSizes.{sizes_of_blocks}
use Rattle.cell_rows.proofs.rows.CellRows.blank.Goals as goal

pub returns : goal.returns
returns c = IfOk-weaker c.unmarked.result (λ (m : BoxMarks). m.sizes ≡ c.sizes.result) (λ (m : BoxMarks). m.sizes ≡ c.args.problem.now.blocks.sizes)
    (λ m is. is ∙ sizes_of_blocks c.args.problem.now c.grid.result.now c.sizes.result c.grid.ensures.kept c.grid.ensures.grid c.sizes.ensures.sizes)
    c.unmarked.ensures
