-- How many live prefixes the rules of a row of cubes allow: of the cubes that are made few, since at most two of them have
-- eight voids.
use Rattle.std.proofs.Common.{◌≡◌, Bool, true, false, ◌&&◌, not, nat_le, ℕ, zero, suc, ◌+◌, ◌*◌, ◌%◌, ◌≤◌, List, ◌∷◌, map, if◌then◌else◌, true≢false, refl, ap, sym, subst, ◌∙◌, arith}
use Rattle.rand_pcg.specs.Lcg.{Lcg}
use Rattle.rand_pcg.specs.Pcg.{pcg32}
use Rattle.drawing_maker.specs.declared.cube.Kind.{Kind}
use Rattle.drawing_maker.specs.declared.cube.Kind.TheVariants.{UnitCube, HollowCube, EightVoids}
use Rattle.drawing_maker.specs.declared.cube.Cube.{Cube}
use Rattle.drawing_maker.specs.Cubes.{next_origin}
use Rattle.made_laws.specs.RowBlocks.{block_count}
use Rattle.drawing_maker.specs.Made.{generator_of, kind_by, has_eight_voids, later_cubes, made_cubes}
use Rattle.made_laws.proofs.DemandedCubes.{rule_of, allowed_values, one_of_unit_cubes, one_of_hollow_cubes, few_of_eight_voids}
use Rattle.drawing_maker.proofs.Drawn.{after_two, first_by, later_by}
use Rattle.made_laws.proofs.Parts.{most_of}

-- what the rules of a row allow, where each prefix that ends within a cube counts w
abbrev pub most_in_row : ℕ → List Cube → ℕ
most_in_row w ps = most_of w (map rule_of ps)

-- what stands behind a cube of a kind, and it
abbrev most_with : ℕ → Kind → ℕ → ℕ
most_with w UnitCube behind = w + behind
most_with w HollowCube behind = 3 * w + behind
most_with w EightVoids behind = 511 * w + 35 * behind

more_by : (w : ℕ) (p : Cube) (ps : List Cube) → most_in_row w (p ∷ ps) ≡ most_with w p.kind (most_in_row w ps)
more_by w p ps = by p.kind
  where
    by : (kind : Kind) → most_of w (record { size = block_count kind; allows = allowed_values kind } ∷ map rule_of ps) ≡ most_with w kind (most_in_row w ps)
    by UnitCube = omega (arith, one_of_unit_cubes)
    by HollowCube = omega (arith, one_of_hollow_cubes)
    by EightVoids = ap (λ n. w * 511 + n * most_in_row w ps) few_of_eight_voids ∙ omega arith

-- ---- the cubes that are made

-- with no cube with eight voids
abbrev few_without : ℕ → ℕ → ℕ
few_without w more = 1 + 3 * (w * more)

-- or one at most
abbrev few_with : ℕ → ℕ → ℕ
few_with w more = 511 * w + 35 * few_without w more + 3 * (w * more)

abbrev few_where : Bool → ℕ → ℕ → ℕ
few_where alone w more = if alone then few_with w more else few_without w more

more_cubes : (w more : ℕ) (kind : Kind) (alone : Bool) (behind : ℕ) → (alone ≡ false → has_eight_voids kind ≡ false)
    → behind ≤ few_where (alone && not (has_eight_voids kind)) w more → most_with w kind behind ≤ few_where alone w (suc more)
more_cubes w more UnitCube true behind only few = omega arith
more_cubes w more UnitCube false behind only few = omega arith
more_cubes w more HollowCube true behind only few = omega arith
more_cubes w more HollowCube false behind only few = omega arith
more_cubes w more EightVoids true behind only few = omega arith
more_cubes w more EightVoids false behind only few = absurd (true≢false (only refl))

-- another cube with eight voids comes only where one alone stands
one_more_alone : (alone : Bool) (k : ℕ) → alone ≡ false → has_eight_voids (kind_by alone k) ≡ false
one_more_alone true k e = absurd (true≢false e)
one_more_alone false zero e = refl
one_more_alone false (suc k) e = by (nat_le (suc k) 4)
  where
    by : (b : Bool) → has_eight_voids (if b then HollowCube else UnitCube) ≡ false
    by true = refl
    by false = refl

few_later : (w more : ℕ) (g : Lcg) (alone : Bool) (origin : ℕ) → most_in_row w (later_cubes more g alone origin) ≤ few_where alone w more
few_later w zero g true origin = omega arith
few_later w zero g false origin = omega arith
few_later w (suc more) g alone origin =
    let p = later_by g alone origin in
    let still = alone && not (has_eight_voids p.kind) in
    let rest = later_cubes more (after_two g) still (next_origin p) in
    let behind = few_later w more (after_two g) still (next_origin p) in
    subst (λ n. n ≤ few_where alone w (suc more)) (sym (more_by w p rest))
    (more_cubes w more p.kind alone (most_in_row w rest) (one_more_alone alone ((pcg32 g).0 % 8)) behind)

pub few_of_made : (w n : ℕ) → most_in_row w (made_cubes n) ≤ 511 * w + 35 * few_with w 13
few_of_made w n =
    let g = generator_of n in
    let p = first_by g in
    let rest = later_cubes 13 (after_two g) true (next_origin p) in
    let behind = few_later w 13 (after_two g) true (next_origin p) in
    omega (arith, more_by w p rest, behind)

-- few prefixes,
pub few_prefixes_of_made : (n : ℕ) → most_in_row 1 (made_cubes n) ≤ 1000000
few_prefixes_of_made n = omega (arith, few_of_made 1 n)

-- and few solids
pub few_solids_of_made : (n : ℕ) → most_in_row 0 (made_cubes n) ≤ 4096
few_solids_of_made n = omega (arith, few_of_made 0 n)
