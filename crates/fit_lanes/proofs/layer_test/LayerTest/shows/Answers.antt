-- A choice has a solid, which shows the layer or doesn't.
use Rattle.std.proofs.Common.{◌≡◌, ◌↔◌, Bool, List, IsTrue, ◌∙◌, sym, subst}
use Rattle.std.specs.Prelude.{IfOk, IfSome}
use Rattle.std.proofs.lemmas.Result.{IfOk-weaker}
use Rattle.solid_model.specs.Cells.{is_full}
use Rattle.solid_model.specs.Choices.{cells_of_choice}
use Rattle.solid_model.specs.Grid.{IsUnionOf}
use Rattle.solid_model.specs.Panels.{GridParts, coordinates_of, IsGrid}
use Rattle.further_views.specs.Further.{AskedRuns}
use Rattle.six_views.specs.Further.{ShowsAsked}
use Rattle.fit_lanes.specs.Tests.{LayerAsked, ShowsIn, TellsLayer}
use Rattle.fit_lanes.proofs.AllTold.{of_solids}
use Rattle.fit_lanes.proofs.layer_test.LayerTest.shows.Goals as goal

pub returns-in-Some-clause-told : goal.returns-in-Some-clause-told
returns-in-Some-clause-told c =
    let a : LayerAsked = record { problem = c.self.inside.problem.now; asked = c.self.inside.asked.now } in
    let choice = c.args.choice.now in
    let is : IsGrid a.problem.grid = subst IsGrid c.grid-grid.ensures.grid c.known.ensures.kept in
    let own = subst (λ o. IfSome o (λ test. test ≡ a)) c.in-Some.is c.self.invariant in
    subst (λ (b : LayerAsked). IfOk c.shows.result (λ yes. IsTrue yes ↔ ShowsIn b choice)) c.self.view_is
    (IfOk-weaker c.shows.result _ _ (λ yes tells. of_solids a is choice yes (subst (λ (b : LayerAsked). TellsLayer b choice yes) own tells)) c.shows.ensures.told)

pub returns-clause-told : goal.returns-clause-told
returns-clause-told c =
    let a : LayerAsked = record { problem = c.self.inside.problem.now; asked = c.self.inside.asked.now } in
    let choice = c.args.choice.now in
    let chosen : List Bool = cells_of_choice a.problem.blocks.numbers choice in
    let is : IsGrid a.problem.grid = subst IsGrid c.grid-grid.ensures.grid c.known.ensures.kept in
    let cells : c.deref.result.now ≡ chosen = c.deref.ensures.value ∙ c.in_ok-cells.ensures in
    subst (λ (b : LayerAsked). IfOk c.shows-2.result (λ yes. IsTrue yes ↔ ShowsIn b choice)) c.self.view_is
    (IfOk-weaker c.shows-2.result _ _ (λ yes tells. of_solids a is choice yes (λ s fills. subst (λ (b : AskedRuns). IsTrue yes ↔ ShowsAsked s b) c.asked.view_is (tells s
    (subst (λ bs. IsUnionOf (coordinates_of c.grid-grid.result.now) bs (is_full s)) (sym cells)
    (subst (λ (g : GridParts). IsUnionOf (coordinates_of g) chosen (is_full s)) (sym c.grid-grid.ensures.grid) fills))))) c.shows-2.ensures)
