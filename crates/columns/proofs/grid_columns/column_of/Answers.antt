-- A full or an empty cell more.
use Rattle.solid_model.specs.PerAxis.{numbers_of}
use Rattle.std.proofs.Common.{◌<◌, ap, sym, ◌∙◌, arith, slice_index_or, false}
use Rattle.lemmas.specs.Bits.{bits}
use Rattle.solid_model.specs.GridPlaces.{place_in}
use Rattle.column_laws.proofs.GridColumns.{full_depth, empty_depth}
use Rattle.columns.proofs.grid_columns.column_of.Goals as goal
use Rattle.columns.proofs.grid_columns.column_of.Goals.{then-is_chosen, else-is_chosen}

pub loop-depth-preserved : goal.loop-depth-preserved
loop-depth-preserved c =
    let at = c.is_chosen.ensures ∙ ap (λ n. slice_index_or c.args.cells.now (place_in (numbers_of c.args.sizes) n) false) c.cell_in.ensures.same in
    let f = c.args.frame in
    let sizes = numbers_of c.args.sizes in
    elim c.if-is_chosen.branch [
      | then-is_chosen w ↦ (let within : c.loop-depth.depth < 64 = omega (arith, c.requires.sizes f.away.axis) in
          λ k. ap (λ n. bits n k) w.column-is ∙ full_depth f sizes c.args.cells.now c.args.right c.args.up c.loop-depth.depth _ c.loop-depth.invariant within (sym at ∙ w.if-is_chosen.true) k)
      | else-is_chosen w ↦ (λ k. ap (λ n. bits n k) w.column-is ∙ empty_depth f sizes c.args.cells.now c.args.right c.args.up c.loop-depth.depth _ c.loop-depth.invariant (sym at ∙ w.if-is_chosen.false) k)
    ]
