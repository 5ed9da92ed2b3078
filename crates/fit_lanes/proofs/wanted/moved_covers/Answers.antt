-- Where the place lies tells whether the run covers it.
use Rattle.std.proofs.Common.{w64, SFits, rules}
use Rattle.std.proofs.lemmas.Bool.{both_ways}
use Rattle.std.proofs.lemmas.Int.{to_z-of_z}
use Rattle.six_views.specs.MovedRuns.{moved_run}
use Rattle.fit_lanes.proofs.MovedStyles.{other_line, too_early, on_it}
use Rattle.fit_lanes.proofs.wanted.moved_covers.Goals as goal

pub returns-then-not-is_farther : goal.returns-then-not-is_farther
returns-then-not-is_farther c =
    let line : SFits w64 c.args.line = search rules in
    let at : SFits w64 c.args.run.at = search rules in
    let across : SFits w64 c.args.across = search rules in
    let told = rw (to_z-of_z w64 c.args.line line, to_z-of_z w64 c.args.run.at at, to_z-of_z w64 c.args.across across) at c.is_farther.ensures in
    other_line c.args.line c.args.place (moved_run c.args.across c.args.along c.args.run) (λ same. both_ways c.is_farther.result c.if-not-is_farther.true (told.1 same))

pub returns-then-is_before : goal.returns-then-is_before
returns-then-is_before c =
    let place : SFits w64 c.args.place = search rules in
    let from : SFits w64 c.args.run.from = search rules in
    let along : SFits w64 c.args.along = search rules in
    let told = rw (to_z-of_z w64 c.args.place place, to_z-of_z w64 c.args.run.from from, to_z-of_z w64 c.args.along along) at c.is_before.ensures in
    too_early c.args.line c.args.place (moved_run c.args.across c.args.along c.args.run) (told.0 c.if-is_before.true)

pub returns : goal.returns
returns c =
    let line : SFits w64 c.args.line = search rules in
    let at : SFits w64 c.args.run.at = search rules in
    let across : SFits w64 c.args.across = search rules in
    let place : SFits w64 c.args.place = search rules in
    let from : SFits w64 c.args.run.from = search rules in
    let to : SFits w64 c.args.run.to = search rules in
    let along : SFits w64 c.args.along = search rules in
    let told = rw (to_z-of_z w64 c.args.line line, to_z-of_z w64 c.args.run.at at, to_z-of_z w64 c.args.across across) at c.is_farther.ensures in
    let told_from = rw (to_z-of_z w64 c.args.place place, to_z-of_z w64 c.args.run.from from, to_z-of_z w64 c.args.along along) at c.is_before.ensures in
    let told_to = rw (to_z-of_z w64 c.args.place place, to_z-of_z w64 c.args.run.to to, to_z-of_z w64 c.args.along along) at c.is_before-2.ensures in
    on_it c.args.line c.args.place (moved_run c.args.across c.args.along c.args.run) (told.0 c.if-not-is_farther.false)
    (λ early. both_ways c.is_before.result c.if-is_before.false (told_from.1 early)) c.is_before-2.result told_to
