-- One that isn't shown is asked for, and in the end all are shown.
use Rattle.std.proofs.Common.{◌≡◌, ◌+◌, ◌≤◌, Bool, List, [], ◌∷◌, ◌++◌, length, take, refl, ap, sym, subst, ◌∙◌}
use Rattle.std.proofs.lemmas.Bool.{false≢true, both_ways}
use Rattle.std.proofs.lemmas.List.{take_all, take_more}
use Rattle.lemmas.specs.Lists.{Member}
use Rattle.lemmas.proofs.ListPlaces.{member-at}
use Rattle.lemmas.proofs.Lists.{each-at, each-push}
use Rattle.solid_model.specs.declared.cell.Cell.{Cell}
use Rattle.solid_model.specs.Cells.{is_full}
use Rattle.solid_model.specs.Grid.{IsUnionOf}
use Rattle.solid_model.specs.Panels.{GridParts, coordinates_of}
use Rattle.further_views.specs.Further.{AskedRuns}
use Rattle.six_views.specs.Further.{FitsRuns, ShowsAsked}
use Rattle.six_views.proofs.fitting.fits.Goals as goal

-- a union of the cells of a grid is one of equal cells of an equal grid
same_union : (g h : GridParts) (chosen cells : List Bool) (s : List Cell) → h ≡ g → cells ≡ chosen → IsUnionOf (coordinates_of g) chosen (is_full s)
    → IsUnionOf (coordinates_of h) cells (is_full s)
same_union g h chosen cells s same_grid same union =
    subst (λ (k : GridParts). IsUnionOf (coordinates_of k) cells (is_full s)) (sym same_grid)
    (subst (λ (cs : List Bool). IsUnionOf (coordinates_of g) cs (is_full s)) (sym same) union)

pub returns-then-not-branch : goal.returns-then-not-branch
returns-then-not-branch c = λ s union.
    let here = same_union _ _ _ _ s c.grid-grid.ensures.grid (c.deref.ensures.value ∙ c.in_ok-cells.ensures) union in
    let v = c.view-item.result in
    let items = c.as_slice-view-items.result.now in
    let among = subst (λ (es : List AskedRuns). Member es v) c.as_slice-view-items.ensures
    (subst (Member items) (sym c.view-item.is) (member-at items c.loop-view.view-index v c.loop-view-test.true)) in (
      (λ f. absurd (false≢true f)),
      (λ fits. absurd (both_ways c.in_ok-shows.field-0 c.if-not-branch.true
          ((c.in_ok-shows.ensures s here).1 (subst (ShowsAsked s) (sym c.view.view_is) (each-at (ShowsAsked s) c.args.further.now v fits among))))),
    )

pub loop-view-preserved : goal.loop-view-preserved
loop-view-preserved c = λ s union.
    let here = same_union _ _ _ _ s c.grid-grid.ensures.grid (c.deref.ensures.value ∙ c.in_ok-cells.ensures) union in
    let i = c.loop-view.view-index in
    let v = c.view-item.result in
    let items = c.as_slice-view-items.result.now in
    let e = c.args.further.now in
    let more = subst (λ (es : List AskedRuns). take (i + 1) es ≡ take i es ++ v ∷ []) c.as_slice-view-items.ensures
    (take_more items i v c.loop-view-test.true ∙ ap (λ (u : AskedRuns). take i items ++ u ∷ []) (sym c.view-item.is)) in
    let shown = subst (ShowsAsked s) c.view.view_is ((c.in_ok-shows.ensures s here).0 c.if-not-branch.false) in
    subst (λ (es : List AskedRuns). FitsRuns es s) (sym more) (each-push (ShowsAsked s) (take i e) v (c.loop-view.invariant s union) shown)

pub returns : goal.returns
returns c = λ s union.
    let e = c.args.further.now in
    let i = c.loop-view.view-index in
    let all = take_all i e (subst (λ (es : List AskedRuns). length es ≤ i) c.as_slice-view-items.ensures c.loop-view-test.false) in
    ((λ f. subst (λ (es : List AskedRuns). FitsRuns es s) all (c.loop-view.invariant s union)), (λ fits. refl))
