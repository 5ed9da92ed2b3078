-- What the gap leaves, or nothing.
use Rattle.std.proofs.Common.{◌≡◌, List, Bool, Option, w64, SFits, rules, subst, arith}
use Rattle.std.specs.Prelude.{MatchOption}
use Rattle.std.proofs.lemmas.Int.{to_z-of_z}
use Rattle.section_laws.proofs.left_cells.cells_left.Goals as goal

-- what is told of an option that is this one
told_of : {A : Type 0} (o p : Option A) (P : Type 0) (Q : A → Type 0) → o ≡ p → MatchOption o P Q → MatchOption p P Q
told_of o p P Q is told = subst (λ q. MatchOption q P Q) is told

pub returns-in_default : goal.returns-in_default
returns-in_default c =
    let plane : SFits w64 c.args.plane = search rules in
    let told = rw (to_z-of_z w64 c.args.plane plane) at c.cut_gap.ensures in
    told_of _ _ _ _ c.in_default.is told c.args.cells.now

pub kept_cells-requires : goal.kept_cells-requires
kept_cells-requires c =
    let plane : SFits w64 c.args.plane = search rules in
    let told = rw (to_z-of_z w64 c.args.plane plane) at c.cut_gap.ensures in
    let left = told_of _ _ _ _ c.in-Some.is told in
    let few = c.known.ensures.kept.2.few c.args.frame.away.axis in
    omega (arith, left.within)

pub returns : goal.returns
returns c =
    let plane : SFits w64 c.args.plane = search rules in
    let told = rw (to_z-of_z w64 c.args.plane plane) at c.cut_gap.ensures in
    (told_of _ _ _ _ c.in-Some.is told).draws c.args.cells.now c.in_ok-kept.kept.items c.in_ok-kept.ensures
