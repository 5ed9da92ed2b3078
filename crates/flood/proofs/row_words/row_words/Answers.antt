-- One word more; and all of them.
use Rattle.std.proofs.Common.{◌≡◌, ◌/◌, ◌%◌, ap, ◌∙◌, arith}
use Rattle.std.proofs.lemmas.Nat.{mul-le}
use Rattle.solid_model.specs.declared.cell.Axis.TheVariants.{Y, Z}
use Rattle.lemmas.proofs.Pushed.{holds_more}
use Rattle.flood.specs.RowWords.{is_told, row_bit}
use Rattle.flood.proofs.RowCells.{IsRowWord}
use Rattle.flood.proofs.row_words.row_words.Goals as goal

pub overflow_mul-rows : goal.overflow_mul-rows
overflow_mul-rows g c = let l = mul-le _ _ 1022 1022 (c.sizes-sizes.ensures.few Z) (c.sizes-sizes.ensures.few Y) in omega arith

pub loop-row-preserved : goal.loop-row-preserved
loop-row-preserved g c =
    let sizes = g.W.Walls.sizes c.args.walls.now in
    let holds = is_told sizes (g.W.Walls.stands c.args.walls.now) c.args.told in
    let row = c.loop-row.row in
    let layer : c.sizes-sizes.result.y ≡ sizes Y = λ t. c.sizes-sizes.ensures.sizes t Y in
    record {
      told = holds_more (IsRowWord sizes holds) c.loop-row.words.items _ row c.row_word.result c.loop-row.invariant.told
          (λ k. c.row_word.ensures k ∙ ap (λ n. row_bit sizes holds (row % n) (row / n) k) layer) c.push_reserved.ensures.items;
      room = omega (arith, c.loop-row.invariant.room, c.push_reserved.ensures.capacity);
    }
