use Rattle.std.proofs.Common.{◌↔◌, ◌⊎◌, ℤ}
use Rattle.std.proofs.lemmas.Result.{IfOk-weaker}
use Rattle.lemmas.specs.Lists.{Member}
use Rattle.solid_model.specs.Runs.{style_in}
use Rattle.grid.specs.Positions.{ShowsInView}
use Rattle.grid.proofs.ShownPositions.{with_both}
use Rattle.grid.proofs.positions.with_view.Goals as goal

pub returns-clause-shown : goal.returns-clause-shown
returns-clause-shown c =
    let before = c.args.positions.items in
    let drawing = style_in c.args.drawing.now in
    IfOk-weaker c.with_kind-2.result _ (λ all. (z : ℤ) → Member all.items z ↔ (Member before z ⊎ ShowsInView drawing c.args.axis c.args.view z))
    (λ all upright. with_both drawing c.args.axis c.args.view before c.in_ok-positions.positions.items all.items c.in_ok-positions.ensures.shown upright)
    c.with_kind-2.ensures.shown
