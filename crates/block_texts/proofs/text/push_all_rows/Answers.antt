-- The grid has as many cells as there are numbers.
use Rattle.std.proofs.Common.{◌≡◌, ◌++◌, ◌*◌, ◌≤◌, length, sym, ◌∙◌, ap, arith}
use Rattle.std.proofs.Math.Path.{transport}
use Rattle.std.proofs.lemmas.Nat.{mul-le}
use Rattle.std.specs.Result.{OnOk}
use Rattle.solid_model.specs.declared.cell.Axis.TheVariants.{X, Y, Z}
use Rattle.solid_model.specs.Blocks.{BlockNumbers}
use Rattle.solid_model.specs.GridBox.{grid_sizes}
use Rattle.solid_model.specs.PerAxis.{numbers_of}
use Rattle.solid_model.specs.WalledBoxes.{box_count}
use Rattle.block_texts.specs.BlockTexts.{row_lines}
use Rattle.block_texts.proofs.text.push_all_rows.Goals as goal

pub overflow_mul-sizes : goal.overflow_mul-sizes
overflow_mul-sizes c =
    let few : c.sizes-sizes.result.z * c.sizes-sizes.result.y ≤ 3969 = mul-le c.sizes-sizes.result.z c.sizes-sizes.result.y 63 63 (c.sizes-sizes.ensures.few Z) (c.sizes-sizes.ensures.few Y) in
    omega (arith, few)

pub push_rows-requires : goal.push_rows-requires
push_rows-requires c =
    let sizes : numbers_of c.sizes-sizes.result ≡ grid_sizes c.args.problem.now.grid = c.sizes-sizes.ensures.sizes ∙ ap grid_sizes c.grid.ensures.grid in
    ap length (c.numbers.ensures ∙ ap (λ (b : BlockNumbers). b.numbers) c.blocks-2.ensures) ∙ c.grid.ensures.kept.blocks.listed ∙ sym (ap box_count sizes)

pub returns : goal.returns
returns c =
    let sizes : numbers_of c.sizes-sizes.result ≡ grid_sizes c.args.problem.now.grid = c.sizes-sizes.ensures.sizes ∙ ap grid_sizes c.grid.ensures.grid in
    let same : c.numbers.result.now ≡ c.args.problem.now.blocks.numbers = c.numbers.ensures ∙ ap (λ (b : BlockNumbers). b.numbers) c.blocks-2.ensures in
    transport (λ i. OnOk c.push_rows.result (c.push_rows.new.text.items ≡ c.args.text.now.items ++ row_lines (sizes i Z * sizes i Y) (sizes i X) (same i))) c.push_rows.ensures
