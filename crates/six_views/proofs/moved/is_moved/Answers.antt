-- A run is moved where its parts are.
use Rattle.std.proofs.Common.{w64, SFits, rules}
use Rattle.std.proofs.lemmas.Bool.{false≢true, both_ways}
use Rattle.std.proofs.lemmas.Int.{to_z-of_z}
use Rattle.six_views.proofs.MovedRuns.{run_is_moved, moved_parts}
use Rattle.six_views.proofs.moved.is_moved.Goals as goal

pub returns-then-not-is_farther-2 : goal.returns-then-not-is_farther-2
returns-then-not-is_farther-2 c =
    let own : SFits w64 c.args.own.from = search rules in
    let shown : SFits w64 c.args.shown.from = search rules in
    let along_fits : SFits w64 c.args.along = search rules in
    let told = rw (to_z-of_z w64 c.args.own.from own, to_z-of_z w64 c.args.shown.from shown, to_z-of_z w64 c.args.along along_fits) at c.is_farther-2.ensures in (
      (λ f. absurd (false≢true f)),
      (λ e. absurd (both_ways c.is_farther-2.result c.if-not-is_farther-2.true
          (told.1 (moved_parts c.args.across c.args.along c.args.own c.args.shown e).1.0))),
    )

pub returns-then-not-is_farther-3 : goal.returns-then-not-is_farther-3
returns-then-not-is_farther-3 c =
    let own : SFits w64 c.args.own.to = search rules in
    let shown : SFits w64 c.args.shown.to = search rules in
    let along_fits : SFits w64 c.args.along = search rules in
    let told = rw (to_z-of_z w64 c.args.own.to own, to_z-of_z w64 c.args.shown.to shown, to_z-of_z w64 c.args.along along_fits) at c.is_farther-3.ensures in (
      (λ f. absurd (false≢true f)),
      (λ e. absurd (both_ways c.is_farther-3.result c.if-not-is_farther-3.true
          (told.1 (moved_parts c.args.across c.args.along c.args.own c.args.shown e).1.1.0))),
    )

pub returns : goal.returns
returns c =
    let at : SFits w64 c.args.own.at = search rules in
    let at_too : SFits w64 c.args.shown.at = search rules in
    let from : SFits w64 c.args.own.from = search rules in
    let from_too : SFits w64 c.args.shown.from = search rules in
    let to : SFits w64 c.args.own.to = search rules in
    let to_too : SFits w64 c.args.shown.to = search rules in
    let across_fits : SFits w64 c.args.across = search rules in
    let along_fits : SFits w64 c.args.along = search rules in
    let told = rw (to_z-of_z w64 c.args.own.at at, to_z-of_z w64 c.args.shown.at at_too, to_z-of_z w64 c.args.across across_fits) at c.is_farther.ensures in
    let told_from = rw (to_z-of_z w64 c.args.own.from from, to_z-of_z w64 c.args.shown.from from_too, to_z-of_z w64 c.args.along along_fits) at c.is_farther-2.ensures in
    let told_to = rw (to_z-of_z w64 c.args.own.to to, to_z-of_z w64 c.args.shown.to to_too, to_z-of_z w64 c.args.along along_fits) at c.is_farther-3.ensures in (
      (λ yes. run_is_moved c.args.across c.args.along c.args.own c.args.shown (told.0 c.if-not-is_farther.false)
          (told_from.0 c.if-not-is_farther-2.false) (told_to.0 c.if-not-is_farther-3.false) (c.same_style.ensures.0 yes)),
      (λ e. c.same_style.ensures.1 (moved_parts c.args.across c.args.along c.args.own c.args.shown e).1.1.1),
    )
