-- The first cube; one more; and all 14.
use Rattle.std.proofs.Common.{◌++◌, [], ◌∷◌, suc, sym, ap, ◌∙◌, arith, append-nil}
use Rattle.drawing_maker.proofs.Drawn.{first_drawn, one_more_drawn}
use Rattle.drawing_maker.proofs.cubes.made_cubes.Goals as goal

pub loop-made-init : goal.loop-made-init
loop-made-init c = (
  λ more e. first_drawn c.args.n c.new-generator.result _ c.draw_first-first.result _ _ more c.new-generator.ensures c.draw_first-first.ensures.cube
      c.draw_first-first.ensures.next (c.in_ok-push.ensures.items ∙ ap (λ l. l ++ c.draw_first-first.result ∷ []) c.new-cubes.ensures.items)
      c.next_origin-origin.ensures.origin (omega (arith, e)),
  (let first = ap (λ p. p.origin) c.draw_first-first.ensures.cube in omega (arith, c.next_origin-origin.ensures.near, first)),
)

pub loop-made-preserved : goal.loop-made-preserved
loop-made-preserved c = (
  λ more e. one_more_drawn c.args.n c.loop-made.generator _ c.draw_cube-cube.result c.loop-made.cubes.items _ c.loop-made.alone _ c.loop-made.origin _ more
      (c.loop-made.invariant.0 (suc more) (omega (arith, e))) c.draw_cube-cube.ensures.cube c.draw_cube-cube.ensures.next
      c.in_ok-push-2.ensures.items c.next_origin-origin-in-loop-made.ensures.origin c.is_still_alone-alone.ensures,
  (let same = ap (λ p. p.origin) c.draw_cube-cube.ensures.cube in
      omega (arith, c.next_origin-origin-in-loop-made.ensures.near, same, c.loop-made.invariant.1)),
)

pub returns : goal.returns
returns c = sym (append-nil c.loop-made.cubes.items) ∙ c.loop-made.invariant.0 0 (omega (arith, c.loop-made-test.false, c.loop-made.auto._made-end))
