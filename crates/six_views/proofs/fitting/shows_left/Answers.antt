-- The solid of the cells that stand for what is left shows it whole; where nothing is left nothing is shown.
use Rattle.std.proofs.Common.{◌≡◌, List, Bool, Option, Some, None, w64, SFits, sym, subst, rules}
use Rattle.std.specs.Prelude.{MatchOption}
use Rattle.std.proofs.lemmas.Bool.{false≢true}
use Rattle.std.proofs.lemmas.Int.{to_z-of_z}
use Rattle.std.proofs.lemmas.Result.{IfOk-weaker}
use Rattle.solid_model.specs.Cells.{is_full}
use Rattle.solid_model.specs.Frames.{IsFrame}
use Rattle.solid_model.specs.Grid.{IsUnionOf}
use Rattle.solid_model.specs.Panels.{coordinates_of}
use Rattle.solid_model.proofs.Unions.{some_union}
use Rattle.redraw.proofs.DrawnRuns.{grid_ascends}
use Rattle.further_views.specs.Further.{view_style}
use Rattle.six_views.specs.SightFrames.{sight_frame}
use Rattle.six_views.proofs.ShownCuts.{left_shown, nothing_shown}
use Rattle.six_views.proofs.Turned.{sights_are_frames}
use Rattle.six_views.proofs.fitting.shows_left.Goals as goal

-- what is told where there is none, or some
none_told : {A : Type 0} (o : Option A) (P : Type 0) (Q : A → Type 0) → o ≡ None → MatchOption o P Q → P
none_told o P Q is told = subst (λ p. MatchOption p P Q) is told

some_told : {A : Type 0} (o : Option A) (P : Type 0) (Q : A → Type 0) (x : A) → o ≡ Some x → MatchOption o P Q → Q x
some_told o P Q x is told = subst (λ p. MatchOption p P Q) is told

pub cells_left-requires : goal.cells_left-requires
cells_left-requires c = subst IsFrame (sym c.sight_frame.ensures) (sights_are_frames c.args.layer)

pub returns-in_default : goal.returns-in_default
returns-in_default c = λ s union.
    let x = c.args.layer in
    let at : SFits w64 c.args.cut.at = search rules in
    let none = rw (to_z-of_z w64 c.args.cut.at at, c.sight_frame.ensures) at (none_told c.in_ok-left.left _ _ c.in_default.is c.in_ok-left.ensures) in (
      (λ f. absurd (false≢true f)),
      (λ shows. absurd (nothing_shown (sight_frame x) (sights_are_frames x) (coordinates_of c.args.grid.now) c.args.cells.now c.args.cut s union
          (view_style c.args.shown.now) x.view none shows)),
    )

pub returns : goal.returns
returns c = IfOk-weaker c.shows_whole.result _ _ (λ yes told s union.
    let x = c.args.layer in
    let coordinates = coordinates_of c.args.grid.now in
    let at : SFits w64 c.args.cut.at = search rules in
    let draws = rw (to_z-of_z w64 c.args.cut.at at, c.sight_frame.ensures) at (some_told c.in_ok-left.left _ _ c.in-Some.kept c.in-Some.is c.in_ok-left.ensures) in
    let kept = c.in-Some.kept.items in
    let other = some_union coordinates (grid_ascends c.args.grid.now c.known.ensures.kept) kept in
    let here = told other.0 (subst (λ (cs : List Bool). IsUnionOf coordinates cs (is_full other.0)) (sym c.deref.ensures.value) other.1) in
    let same = left_shown (sight_frame x) (sights_are_frames x) coordinates c.args.cells.now c.args.cut s union (view_style c.args.shown.now) x.view
    kept draws other.0 other.1 in
    ((λ y. same.0 (here.0 y)), (λ shows. here.1 (same.1 shows)))) c.shows_whole.ensures
