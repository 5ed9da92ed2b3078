-- The level runs are moved, and the upright ones.
use Rattle.std.proofs.Common.{◌≡◌, ◌↔◌, Bool, true, false, List, map, IsTrue, ℤ, w64, SFits, sym, subst, rules}
use Rattle.std.proofs.lemmas.Bool.{false≢true, both_ways}
use Rattle.std.proofs.lemmas.Int.{to_z-of_z}
use Rattle.solid_model.specs.declared.runs.Run.{Run}
use Rattle.solid_model.specs.Runs.{ViewRuns}
use Rattle.six_views.specs.MovedRuns.{moved_run, AreMovedRuns}
use Rattle.six_views.proofs.moved.views_are_moved.Goals as goal

-- a list is another one, moved
abbrev Moved : ℤ → ℤ → List Run → List Run → Type 0
Moved a b own shown = own ≡ map (moved_run a b) shown

-- what is told of slices is told of the lists that they show
of_lists : (a b : ℤ) (told : Bool) (own shown own_too shown_too : List Run) → own ≡ own_too → shown ≡ shown_too
    → (IsTrue told ↔ Moved a b own shown) → (IsTrue told ↔ Moved a b own_too shown_too)
of_lists a b told own shown own_too shown_too same same_too is =
    subst (λ xs. IsTrue told ↔ Moved a b xs shown_too) same (subst (λ ys. IsTrue told ↔ Moved a b own ys) same_too is)

-- both kinds of runs are moved
both_moved : (right up : ℤ) (shown own : ViewRuns) → Moved up right own.level shown.level → Moved right up own.upright shown.upright → AreMovedRuns right up shown own
both_moved right up shown own level upright true = upright
both_moved right up shown own level upright false = level

pub returns-then-not-are_moved-clause-moved : goal.returns-then-not-are_moved-clause-moved
returns-then-not-are_moved-clause-moved c =
    let right : SFits w64 c.args.right = search rules in
    let up : SFits w64 c.args.up = search rules in
    let told = rw (to_z-of_z w64 c.args.right right, to_z-of_z w64 c.args.up up) at c.are_moved.ensures in
    let level = of_lists c.args.up c.args.right c.are_moved.result _ _ c.own.inside.level c.shown.inside.level c.as_slice.ensures.same c.as_slice-level.ensures.same told in
    let is_view = c.own.view_is in
    let shown_is = c.shown.view_is in
    rw (sym is_view, sym shown_is) ((λ f. absurd (false≢true f)), (λ e. absurd (both_ways c.are_moved.result c.if-not-are_moved.true (level.1 (e false)))))

pub returns-clause-moved : goal.returns-clause-moved
returns-clause-moved c =
    let right : SFits w64 c.args.right = search rules in
    let up : SFits w64 c.args.up = search rules in
    let told = rw (to_z-of_z w64 c.args.right right, to_z-of_z w64 c.args.up up) at c.are_moved.ensures in
    let told_too = rw (to_z-of_z w64 c.args.right right, to_z-of_z w64 c.args.up up) at c.are_moved-2.ensures in
    let level = of_lists c.args.up c.args.right c.are_moved.result _ _ c.own.inside.level c.shown.inside.level c.as_slice.ensures.same c.as_slice-level.ensures.same told in
    let upright = of_lists c.args.right c.args.up c.are_moved-2.result _ _ c.own.inside.upright c.shown.inside.upright c.as_slice-2.ensures.same c.as_slice-upright.ensures.same told_too in
    rw (sym c.own.view_is, sym c.shown.view_is) (
      (λ yes. both_moved c.args.right c.args.up _ _ (level.0 c.if-not-are_moved.false) (upright.0 yes)),
      (λ e. upright.1 (e true)),
    )
