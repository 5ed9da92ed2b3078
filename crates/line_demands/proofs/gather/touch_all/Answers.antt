-- One line more.
use Rattle.std.proofs.Common.{false, length, subst, ◌∙◌}
use Rattle.line_demands.specs.declared.lines.Beside.{Beside}
use Rattle.line_demands.specs.Gathered.{AreTouchedBy}
use Rattle.line_demands.proofs.TouchedLines.{one_listed}
use Rattle.line_demands.proofs.gather.touch_all.Goals as goal
use Rattle.solid_model.specs.declared.frame.View.TheVariants.{Front}
use Rattle.solid_model.specs.declared.segment.Style.TheVariants.{Blank}

pub loop-line-preserved : goal.loop-line-preserved
loop-line-preserved c =
    let n = c.loop-line.line in
    let d : Beside = record { line = record { view = Front; upright = false; at = 0; cell = 0 }; after = 0; before = 0; style = Blank } in
    let inside = c.requires.sides n d c.loop-line-test.true in
    one_listed c.args.sides.now c.args.on.now (length c.args.touched.now) n c.loop-line.touched c.touch.new.touched c.touch-in-loop-line.new.touched d c.index-on-beside.result c.index-on-beside-in-loop-line.result
    c.loop-line.invariant c.loop-line-test.true inside.0 inside.1
    (subst (λ bs. AreTouchedBy n bs c.loop-line.touched c.touch.new.touched) (c.as_slice.ensures ∙ c.index-on-beside.is) c.in_ok-touch.ensures)
    (subst (λ bs. AreTouchedBy n bs c.touch.new.touched c.touch-in-loop-line.new.touched) (c.as_slice-in-loop-line.ensures ∙ c.index-on-beside-in-loop-line.is) c.in_ok-touch-2.ensures)
