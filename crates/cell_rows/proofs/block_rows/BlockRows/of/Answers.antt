-- The sizes are those of the problem's grid, and so of its blocks.
use Rattle.std.proofs.Common.{◌≡◌, ◌≤◌, ◌∙◌, length, ap, sym, subst}
use Rattle.solid_model.specs.Blocks.{BlockNumbers}
use Rattle.solid_model.specs.PerAxis.{numbers_of}
use Rattle.solid_model.specs.WalledBoxes.{box_count}
use Rattle.cell_rows.proofs.ProblemSizes.{sizes_of_blocks}
use Rattle.cell_rows.proofs.block_rows.BlockRows.of.Goals as goal

pub spans_along-requires-clause-sizes : goal.spans_along-requires-clause-sizes
spans_along-requires-clause-sizes c =
    sizes_of_blocks c.args.problem.now c.grid.result.now c.sizes-sizes.result c.grid.ensures.kept c.grid.ensures.grid c.sizes-sizes.ensures.sizes
    ∙ ap (λ (b : BlockNumbers). b.sizes) (sym c.blocks-blocks.ensures)

pub spans_along-requires-2-clause-sizes : goal.spans_along-requires-2-clause-sizes
spans_along-requires-2-clause-sizes c =
    sizes_of_blocks c.args.problem.now c.grid.result.now c.sizes-sizes.result c.grid.ensures.kept c.grid.ensures.grid c.sizes-sizes.ensures.sizes
    ∙ ap (λ (b : BlockNumbers). b.sizes) (sym c.blocks-blocks.ensures)

pub spans_along-requires-3-clause-sizes : goal.spans_along-requires-3-clause-sizes
spans_along-requires-3-clause-sizes c =
    sizes_of_blocks c.args.problem.now c.grid.result.now c.sizes-sizes.result c.grid.ensures.kept c.grid.ensures.grid c.sizes-sizes.ensures.sizes
    ∙ ap (λ (b : BlockNumbers). b.sizes) (sym c.blocks-blocks.ensures)

pub invariant_of-result : goal.invariant_of-result
invariant_of-result c =
    let same : c.sizes-sizes.result ≡ c.blocks-blocks.result.now.sizes =
    sizes_of_blocks c.args.problem.now c.grid.result.now c.sizes-sizes.result c.grid.ensures.kept c.grid.ensures.grid c.sizes-sizes.ensures.sizes
    ∙ ap (λ (b : BlockNumbers). b.sizes) (sym c.blocks-blocks.ensures) in
    record {
      listed = subst (λ (b : BlockNumbers). length b.numbers ≡ box_count (numbers_of b.sizes)) (sym c.blocks-blocks.ensures)
          (c.grid.ensures.kept.blocks.listed ∙ (λ i. box_count (λ a. sym (c.grid.ensures.kept.sized a) i)));
      few = λ a. subst (λ s. numbers_of s a ≤ 63) same (c.sizes-sizes.ensures.few a);
      along_x = c.in_ok-x.ensures;
      along_y = c.in_ok-y.ensures;
      along_z = c.in_ok-z.ensures;
    }
