-- One bit more.
use Rattle.std.proofs.Common.{◌≡◌, ◌&&◌, ◌+◌, ◌<◌, Bool, ℕ, ap, sym, subst, ◌∙◌, arith}
use Rattle.std.proofs.lemmas.Bool.{lt-ltb}
use Rattle.solid_model.specs.declared.cell.Axis.TheVariants.{X}
use Rattle.solid_model.specs.Cells.{cell_at}
use Rattle.solid_model.specs.WalledBoxes.{Sizes}
use Rattle.lemmas.proofs.FilledWords.{IsFilledBy, fill_set, fill_clear}
use Rattle.flood.specs.RowWords.{is_told, row_bit}
use Rattle.flood.proofs.row_words.row_word.Goals as goal
use Rattle.flood.proofs.row_words.row_word.Goals.{then-is_told, else-is_told}

pub loop-x-preserved : goal.loop-x-preserved
loop-x-preserved g c =
    let x = c.loop-x.x in
    elim c.if-is_told.branch [
      | then-is_told w ↦ subst (λ n. IsFilledBy bits n (x + 1)) (sym w.word-is)
          (fill_set bits c.loop-x.word x c.loop-x.invariant (omega (arith, c.loop-x-test.true, c.requires.word)) (at ∙ w.if-is_told.true))
      | else-is_told w ↦ subst (λ n. IsFilledBy bits n (x + 1)) (sym w.word-is)
          (fill_clear bits c.loop-x.word x c.loop-x.invariant (at ∙ w.if-is_told.false))
    ]
  where
    sizes : Sizes
    sizes = g.W.Walls.sizes c.args.walls.now

    bits : ℕ → Bool
    bits = row_bit sizes (is_told sizes (g.W.Walls.stands c.args.walls.now) c.args.told) c.args.cell.y c.args.cell.z

    within : c.loop-x.x < sizes X
    within = subst (λ s. c.loop-x.x < s X) c.requires.sizes c.loop-x-test.true

    at : bits c.loop-x.x ≡ c.is_told.result
    at = ap (λ t. t && is_told sizes (g.W.Walls.stands c.args.walls.now) c.args.told (cell_at c.loop-x.x c.args.cell.y c.args.cell.z)) (lt-ltb c.loop-x.x (sizes X) within)
        ∙ sym c.is_told.ensures
