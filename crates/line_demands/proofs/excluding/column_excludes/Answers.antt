-- Cell after cell is asked.
use Rattle.std.proofs.Common.{◌≡◌, ◌<◌, refl, ap, ap₂, subst, ◌∙◌, arith, inl, inr}
use Rattle.std.proofs.lemmas.Bool.{cases_lt, false≢true, both_ways}
use Rattle.line_demands.specs.Excluding.{ExcludesAt}
use Rattle.solid_model.specs.declared.frame.Frame.{Frame}
use Rattle.solid_model.specs.GridBox.{grid_sizes}
use Rattle.solid_model.specs.WalledBoxes.{Sizes}
use Rattle.line_demands.proofs.excluding.column_excludes.Goals as goal

pub cell_excludes-requires-clause-depth : goal.cell_excludes-requires-clause-depth
cell_excludes-requires-clause-depth c =
    let e = c.along-depth-end.ensures ∙ ap₂ (λ (sizes : Sizes) (f : Frame). sizes f.away.axis) (c.sizes.ensures.sizes ∙ ap grid_sizes c.grid.ensures.grid) c.frame.ensures in
    subst (λ n. c.loop-depth.depth < n) e c.loop-depth-test.true

pub returns-then-cell_excludes : goal.returns-then-cell_excludes
returns-then-cell_excludes c =
    let e = c.along-depth-end.ensures ∙ ap₂ (λ (sizes : Sizes) (f : Frame). sizes f.away.axis) (c.sizes.ensures.sizes ∙ ap grid_sizes c.grid.ensures.grid) c.frame.ensures in
    ((λ _. (c.loop-depth.depth, subst (λ n. c.loop-depth.depth < n) e c.loop-depth-test.true, c.cell_excludes.ensures.0 c.if-cell_excludes.true)), (λ _. refl))

pub loop-depth-preserved : goal.loop-depth-preserved
loop-depth-preserved c = λ k l.
    elim (cases_lt k c.loop-depth.depth) as (λ _. ExcludesAt c.args.problem.now c.args.seen c.args.of_after k c.args.block c.args.value → ⊥) [
      | inl m ↦ c.loop-depth.invariant k m
      | inr m ↦ (λ ex. both_ways c.cell_excludes.result c.if-cell_excludes.false (c.cell_excludes.ensures.1
          (subst (λ j. ExcludesAt c.args.problem.now c.args.seen c.args.of_after j c.args.block c.args.value) (let h : k ≡ c.loop-depth.depth = omega (arith, l, m) in h) ex)))
    ]

pub returns : goal.returns
returns c =
    let e = c.along-depth-end.ensures ∙ ap₂ (λ (sizes : Sizes) (f : Frame). sizes f.away.axis) (c.sizes.ensures.sizes ∙ ap grid_sizes c.grid.ensures.grid) c.frame.ensures in
    ((λ t. absurd (false≢true t)), (λ ex. absurd (c.loop-depth.invariant ex.0 (let l = ex.1 in let n = c.loop-depth-test.false in omega (arith, l, e, n)) ex.2)))
