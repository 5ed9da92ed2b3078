-- What the first gap behind the plane holds, or nothing.
use Rattle.std.proofs.Common.{List, ℤ, w64, SFits, rules, IsTrue, refl, sym, subst, arith}
use Rattle.std.proofs.lemmas.Bool.{both_ways}
use Rattle.std.proofs.lemmas.Int.{to_z-of_z}
use Rattle.solid_model.specs.Panels.{coordinates_of}
use Rattle.section_laws.specs.CutGaps.{ReachesPlane}
use Rattle.section_laws.proofs.LeftCells.{first_in, none_in, nothing_left, kept_draw, none_kept}
use Rattle.section_laws.proofs.left_cells.cut_gap.Goals as goal

pub returns-in_default : goal.returns-in_default
returns-in_default c = λ chosen.
    let plane : SFits w64 c.args.plane = search rules in
    let same = to_z-of_z w64 c.args.plane plane in
    let none = rw (same) at (c.first_gap.ensures.none c.in_default.is) in
    nothing_left c.args.frame c.requires (coordinates_of c.args.grid.now) (λ a. (c.coordinates-coordinates.ensures.kept.2.coordinates a).ordered) chosen c.args.plane
    (none_in c.args.frame.away.forward _ _ c.args.plane c.coordinates-coordinates.ensures.same none) c.args.area

pub holds_left-requires : goal.holds_left-requires
holds_left-requires c =
    let plane : SFits w64 c.args.plane = search rules in
    let same = to_z-of_z w64 c.args.plane plane in
    let some = rw (same) at c.first_gap.ensures.some in
    (first_in c.args.frame.away.forward _ _ c.args.plane _ c.in-Some.gap refl c.in-Some.is some).within

pub returns-then-not-holds_left : goal.returns-then-not-holds_left
returns-then-not-holds_left c = λ chosen.
    let plane : SFits w64 c.args.plane = search rules in
    let same = to_z-of_z w64 c.args.plane plane in
    let some = rw (same) at c.first_gap.ensures.some in
    let first = first_in c.args.frame.away.forward _ _ c.args.plane _ c.in-Some.gap c.coordinates-coordinates.ensures.same c.in-Some.is some in
    let told = rw (same) at c.holds_left.ensures in
    none_kept c.args.frame c.requires (coordinates_of c.args.grid.now) (λ a. (c.coordinates-coordinates.ensures.kept.2.coordinates a).ordered) chosen c.args.plane
    c.in-Some.gap first c.args.area (λ near. both_ways c.holds_left.result c.if-not-holds_left.true
    (told.1 (subst (λ (zs : List ℤ). IsTrue c.args.area → ReachesPlane c.args.frame.away.forward zs c.args.plane c.in-Some.gap) (sym c.coordinates-coordinates.ensures.same) near)))

pub returns : goal.returns
returns c =
    let plane : SFits w64 c.args.plane = search rules in
    let same = to_z-of_z w64 c.args.plane plane in
    let some = rw (same) at c.first_gap.ensures.some in
    let first = first_in c.args.frame.away.forward _ _ c.args.plane _ c.in-Some.gap c.coordinates-coordinates.ensures.same c.in-Some.is some in
    let told = rw (same) at c.holds_left.ensures in
    let near = subst (λ (zs : List ℤ). IsTrue c.args.area → ReachesPlane c.args.frame.away.forward zs c.args.plane c.in-Some.gap)
    c.coordinates-coordinates.ensures.same (told.0 c.if-not-holds_left.false) in
    record {
      within = (let l = first.within in omega arith);
      draws = λ chosen kept are. kept_draw c.args.frame c.requires (coordinates_of c.args.grid.now) (λ a. (c.coordinates-coordinates.ensures.kept.2.coordinates a).ordered)
          chosen c.args.plane c.in-Some.gap first c.args.area near kept are;
    }
