-- The first place at which a gap ends behind the plane.
use Rattle.std.proofs.Common.{w64, SFits, rules, arith}
use Rattle.std.proofs.lemmas.Int.{to_z-of_z}
use Rattle.section_laws.proofs.CutGaps.{first_at_place, none_at_places}
use Rattle.section_laws.proofs.gaps.first_gap.Goals as goal

pub returns-then-ends_behind-clause-some : goal.returns-then-ends_behind-clause-some
returns-then-ends_behind-clause-some c =
    let plane : SFits w64 c.args.plane = search rules in
    let same = to_z-of_z w64 c.args.plane plane in
    let behind = rw (same) at c.ends_behind.ensures in
    let none = rw (same) at c.loop-place.invariant in
    first_at_place c.args.forward c.args.coordinates.now c.args.plane c.saturating_sub-gaps.result c.saturating_sub-gaps.ensures
    c.loop-place.place c.gap_at-gap.result (omega arith) c.gap_at-gap.ensures (behind.0 c.if-ends_behind.true) none

pub returns-clause-none : goal.returns-clause-none
returns-clause-none c = λ e.
    let plane : SFits w64 c.args.plane = search rules in
    let none = rw (to_z-of_z w64 c.args.plane plane) at c.loop-place.invariant in
    none_at_places c.args.forward c.args.coordinates.now c.args.plane c.saturating_sub-gaps.result c.saturating_sub-gaps.ensures
    c.loop-place.place (omega arith) none
