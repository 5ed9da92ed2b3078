-- One cell more; and the last span.
use Rattle.std.proofs.Common.{◌≤◌, ◌++◌, ◌∷◌, [], None, refl, ap, sym, subst, ◌∙◌, arith}
use Rattle.solid_model.specs.Blocks.{block_at}
use Rattle.solid_model.specs.PerAxis.{numbers_of}
use Rattle.cell_rows.proofs.FilledSpans.{IsRowSoFar, row_more, row_whole}
use Rattle.cell_rows.proofs.RowCells.{numbered_cell}
use Rattle.cell_rows.proofs.block_rows.spans_of.Goals as goal

pub loop-number-init : goal.loop-number-init
loop-number-init c = subst (λ xs. IsRowSoFar c.args.blocks.now c.args.axis c.args.cell (xs ++ record { block = None; cells = 0 } ∷ []) 0)
    (sym c.new-spans.ensures.items) (record { below = λ choice k l. absurd (omega arith); above = λ choice k l. refl })

pub loop-number-preserved : goal.loop-number-preserved
loop-number-preserved c =
    row_more c.args.blocks.now c.args.axis c.args.cell _ _ c.loop-number.number c.of-block.result c.loop-number.invariant
    (c.of-block.ensures ∙ ap (block_at c.args.blocks.now)
    (numbered_cell c.args.axis c.loop-number.number c.args.cell c.numbered.result c.numbered.ensures))
    c.in_ok-last.ensures.here c.in_ok-last.ensures.others

pub returns : goal.returns
returns c choice k l =
    c.in_ok-put_span.ensures choice k
    ∙ row_whole c.args.blocks.now c.args.axis c.args.cell _ c.loop-number.number c.loop-number.invariant
    (subst (λ s. numbers_of s c.args.axis ≤ c.loop-number.number) c.requires.sizes
    (omega (arith, c.along-number-end.ensures, c.loop-number-test.false))) choice k
