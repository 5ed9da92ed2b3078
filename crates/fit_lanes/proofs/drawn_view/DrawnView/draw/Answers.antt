-- The columns of a choice, as far as they are left, draw its bytes.
use Rattle.std.proofs.Common.{◌+◌, ◌*◌, ◌<◌, true, false, length, ap, sym, subst, ◌∙◌, arith}
use Rattle.std.proofs.lemmas.List.{with_items_is}
use Rattle.lemmas.specs.Lists.{Each}
use Rattle.solid_model.specs.GridBox.{grid_sizes}
use Rattle.fit_lanes.specs.Busy.{AreBlankBeyond}
use Rattle.fit_lanes.specs.Cuts.{AreLeftOf}
use Rattle.fit_lanes.specs.Sights.{width}
use Rattle.fit_lanes.specs.Tests.{AreDrawn}
use Rattle.fit_lanes.proofs.AllTold.{draws_choice}
use Rattle.fit_lanes.proofs.Buffers.{columns_count, choice_alike, choice_within, buffers_kept}
use Rattle.fit_lanes.proofs.drawn_view.DrawnView.draw.Goals as goal

pub fill-requires : goal.fill-requires
fill-requires c = omega (arith, c.self.invariant.columns_for, c.as_mut_slice-columns.ensures.len)

pub draw-requires-clause-within : goal.draw-requires-clause-within
draw-requires-clause-within c = choice_within _ _ _ _ _ _ _ _ _ _ _ _ c.self.invariant c.args.choice.now c.fill.new.rows c.fill.ensures.filled
    (c.fill.ensures.count ∙ ap length c.as_mut_slice-columns.ensures.value)
    _ (c.as_slice-columns.ensures.value ∙ with_items_is c.self.inside.columns c.fill.new.rows (c.fill.ensures.count ∙ c.as_mut_slice-columns.ensures.len))

pub draw-requires-clause-enough : goal.draw-requires-clause-enough
draw-requires-clause-enough c =
    let buffers = c.self.invariant in
    omega (arith, columns_count _ _ _ _ _ _ _ _ _ _ _ _ buffers, buffers.level_for.long, c.fill.ensures.count, c.as_mut_slice-columns.ensures.len, c.as_slice-columns.ensures.len, c.as_mut_slice-level.ensures.len)

pub draw-requires-clause-inside : goal.draw-requires-clause-inside
draw-requires-clause-inside c =
    let buffers = c.self.invariant in
    subst (λ n. Each (λ p. p < n) c.as_slice-points.result.now) (sym (ap length c.as_mut_slice-level.ensures.value ∙ buffers.level_for.long))
    (subst (Each (λ p. p < (c.self.inside.height + 1) * (c.self.inside.width + 1))) (sym c.as_slice-points.ensures.value) buffers.busy.inside)

pub draw-requires-clause-alike : goal.draw-requires-clause-alike
draw-requires-clause-alike c =
    let buffers = c.self.invariant in
    choice_alike _ _ _ _ _ _ _ _ _ _ _ _ buffers c.args.choice.now c.fill.new.rows c.fill.ensures.filled
    _ (c.as_slice-columns.ensures.value ∙ with_items_is c.self.inside.columns c.fill.new.rows (c.fill.ensures.count ∙ c.as_mut_slice-columns.ensures.len))
    _ c.as_slice-points.ensures.value _ (ap length c.as_mut_slice-level.ensures.value ∙ buffers.level_for.long) false

pub draw-requires-clause-blank : goal.draw-requires-clause-blank
draw-requires-clause-blank c = subst (λ ps. AreBlankBeyond ps c.as_mut_slice-level.result.now) (sym c.as_slice-points.ensures.value)
    (subst (AreBlankBeyond c.self.inside.busy.items) (sym c.as_mut_slice-level.ensures.value) c.self.invariant.level_for.blank)

pub draw-requires-2-clause-within : goal.draw-requires-2-clause-within
draw-requires-2-clause-within c = choice_within _ _ _ _ _ _ _ _ _ _ _ _ c.self.invariant c.args.choice.now c.fill.new.rows c.fill.ensures.filled
    (c.fill.ensures.count ∙ ap length c.as_mut_slice-columns.ensures.value)
    _ (c.as_slice-columns.ensures.value ∙ with_items_is c.self.inside.columns c.fill.new.rows (c.fill.ensures.count ∙ c.as_mut_slice-columns.ensures.len))

pub draw-requires-2-clause-enough : goal.draw-requires-2-clause-enough
draw-requires-2-clause-enough c =
    let buffers = c.self.invariant in
    omega (arith, columns_count _ _ _ _ _ _ _ _ _ _ _ _ buffers, buffers.upright_for.long, c.fill.ensures.count, c.as_mut_slice-columns.ensures.len, c.as_slice-columns.ensures.len, c.as_mut_slice-upright.ensures.len)

pub draw-requires-2-clause-inside : goal.draw-requires-2-clause-inside
draw-requires-2-clause-inside c =
    let buffers = c.self.invariant in
    subst (λ n. Each (λ p. p < n) c.as_slice-points.result.now) (sym (ap length c.as_mut_slice-upright.ensures.value ∙ buffers.upright_for.long))
    (subst (Each (λ p. p < (c.self.inside.height + 1) * (c.self.inside.width + 1))) (sym c.as_slice-points.ensures.value) buffers.busy.inside)

pub draw-requires-2-clause-alike : goal.draw-requires-2-clause-alike
draw-requires-2-clause-alike c =
    let buffers = c.self.invariant in
    choice_alike _ _ _ _ _ _ _ _ _ _ _ _ buffers c.args.choice.now c.fill.new.rows c.fill.ensures.filled
    _ (c.as_slice-columns.ensures.value ∙ with_items_is c.self.inside.columns c.fill.new.rows (c.fill.ensures.count ∙ c.as_mut_slice-columns.ensures.len))
    _ c.as_slice-points.ensures.value _ (ap length c.as_mut_slice-upright.ensures.value ∙ buffers.upright_for.long) true

pub draw-requires-2-clause-blank : goal.draw-requires-2-clause-blank
draw-requires-2-clause-blank c = subst (λ ps. AreBlankBeyond ps c.as_mut_slice-upright.result.now) (sym c.as_slice-points.ensures.value)
    (subst (AreBlankBeyond c.self.inside.busy.items) (sym c.as_mut_slice-upright.ensures.value) c.self.invariant.upright_for.blank)

pub invariant_of-self : goal.invariant_of-self
invariant_of-self c =
    let buffers = c.self.invariant in
    let columns = with_items_is c.self.inside.columns c.fill.new.rows (c.fill.ensures.count ∙ c.as_mut_slice-columns.ensures.len) in
    let level = with_items_is c.self.inside.level c.draw.new.drawn (c.draw.ensures.length ∙ c.as_mut_slice-level.ensures.len) in
    let upright = with_items_is c.self.inside.upright c.draw-2.new.drawn (c.draw-2.ensures.length ∙ c.as_mut_slice-upright.ensures.len) in
    buffers_kept _ _ _ _ _ _ _ _ _ _ _ _ buffers _ _ _ (ap length columns ∙ c.fill.ensures.count ∙ ap length c.as_mut_slice-columns.ensures.value)
    (record {
      long = ap length level ∙ c.draw.ensures.length ∙ ap length c.as_mut_slice-level.ensures.value ∙ buffers.level_for.long;
      blank = subst (AreBlankBeyond c.self.inside.busy.items) (sym level) (subst (λ ps. AreBlankBeyond ps c.draw.new.drawn) c.as_slice-points.ensures.value c.draw.ensures.blank);
    })
    (record {
      long = ap length upright ∙ c.draw-2.ensures.length ∙ ap length c.as_mut_slice-upright.ensures.value ∙ buffers.upright_for.long;
      blank = subst (AreBlankBeyond c.self.inside.busy.items) (sym upright) (subst (λ ps. AreBlankBeyond ps c.draw-2.new.drawn) c.as_slice-points.ensures.value c.draw-2.ensures.blank);
    })

pub returns-clause-drawn : goal.returns-clause-drawn
returns-clause-drawn c =
    let buffers = c.self.invariant in
    let columns = c.as_slice-columns.ensures.value ∙ with_items_is c.self.inside.columns c.fill.new.rows (c.fill.ensures.count ∙ c.as_mut_slice-columns.ensures.len) in
    let level = with_items_is c.self.inside.level c.draw.new.drawn (c.draw.ensures.length ∙ c.as_mut_slice-level.ensures.len) in
    let upright = with_items_is c.self.inside.upright c.draw-2.new.drawn (c.draw-2.ensures.length ∙ c.as_mut_slice-upright.ensures.len) in
    draws_choice c.self.inside.problem.now c.self.inside.layer c.self.inside.kept buffers.grid buffers.keeps c.args.choice.now c.self.inside.sights buffers.sights_of c.fill.new.rows c.fill.ensures.filled
    (c.fill.ensures.count ∙ ap length c.as_mut_slice-columns.ensures.value ∙ buffers.columns_for) _ _
    (ap length level ∙ c.draw.ensures.length ∙ ap length c.as_mut_slice-level.ensures.value ∙ buffers.level_for.long ∙ (λ t. (buffers.high t + 1) * (buffers.wide t + 1)))
    (ap length upright ∙ c.draw-2.ensures.length ∙ ap length c.as_mut_slice-upright.ensures.value ∙ buffers.upright_for.long ∙ (λ t. (buffers.high t + 1) * (buffers.wide t + 1)))
    (λ left of. subst (λ bytes. AreDrawn left (width c.self.inside.layer (grid_sizes c.self.inside.problem.now.grid) + 1) false bytes) (sym level) (subst (λ n. AreDrawn left (n + 1) false c.draw.new.drawn) buffers.wide
    (c.draw.ensures.drawn left (subst (λ cs. AreLeftOf c.self.inside.kept cs left) (sym columns) of))))
    (λ left of. subst (λ bytes. AreDrawn left (width c.self.inside.layer (grid_sizes c.self.inside.problem.now.grid) + 1) true bytes) (sym upright) (subst (λ n. AreDrawn left (n + 1) true c.draw-2.new.drawn) buffers.wide
    (c.draw-2.ensures.drawn left (subst (λ cs. AreLeftOf c.self.inside.kept cs left) (sym columns) of))))
