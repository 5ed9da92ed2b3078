use Rattle.std.proofs.Common.{◌↔◌, List, [], ◌∷◌, take, ℤ, sym, subst, arith}
use Rattle.std.proofs.lemmas.List.{take_more, take_all}
use Rattle.solid_model.specs.declared.frame.View.{View}
use Rattle.solid_model.specs.declared.frame.View.TheVariants.{Front, Top, Side}
use Rattle.lemmas.specs.Lists.{Member}
use Rattle.solid_model.specs.Runs.{style_in}
use Rattle.grid.specs.Positions.{ShowsInSomeView}
use Rattle.grid.proofs.ShownPositions.{with_next, in_three_views}
use Rattle.grid.proofs.positions.positions_along.Goals as goal

abbrev three_views : List View
three_views = Front ∷ Top ∷ Side ∷ []

pub loop-view-preserved : goal.loop-view-preserved
loop-view-preserved c = record {
  shown = λ z.
      let drawing = style_in c.args.drawing.now in
      let i = c.loop-view.view-index in
      let more = c.in_ok-positions.positions.items in
      subst (λ vs. Member more z ↔ ShowsInSomeView drawing c.args.axis vs z) (sym (take_more three_views i _ c.loop-view-test.true))
      (with_next drawing c.args.axis (take i three_views) _ c.loop-view.positions.items more c.loop-view.invariant.shown c.in_ok-positions.ensures.shown z);
  kept = λ some. c.with_view.ensures.kept;
}

pub returns-clause-shown : goal.returns-clause-shown
returns-clause-shown c =
    let drawing = style_in c.args.drawing.now in
    in_three_views drawing c.args.axis c.loop-view.positions.items
    (subst (λ vs. (z : ℤ) → Member c.loop-view.positions.items z ↔ ShowsInSomeView drawing c.args.axis vs z)
    (take_all c.loop-view.view-index three_views (let h = c.loop-view-test.false in omega arith)) c.loop-view.invariant.shown)

pub returns-clause-kept : goal.returns-clause-kept
returns-clause-kept c = c.loop-view.invariant.kept (let h = c.loop-view-test.false in omega arith)
