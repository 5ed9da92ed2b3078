-- The cubes of a number stand in a row from 0 on, near to it, and have few ticks.
use Rattle.std.proofs.Common.{◌≡◌, Bool, true, false, ◌&&◌, not, nat_le, ℕ, zero, suc, ◌+◌, ◌*◌, ◌%◌, ◌<◌, ◌≤◌, List, [], ◌∷◌, length, length-append, if◌then◌else◌, ap, arith}
use Rattle.std.proofs.Math.Nat.{mul-le-mul}
use Rattle.std.proofs.lemmas.List.FromFn.{length-map-range_with_len}
use Rattle.std.proofs.lemmas.Nat.{mod_below}
use Rattle.rand_pcg.specs.Lcg.{Lcg}
use Rattle.rand_pcg.specs.Pcg.{pcg32}
use Rattle.lemmas.specs.Lists.{Each, Ascends}
use Rattle.lemmas.proofs.Lists.{each-weaker}
use Rattle.drawing_maker.specs.declared.cube.Kind.{Kind}
use Rattle.drawing_maker.specs.declared.cube.Kind.TheVariants.{UnitCube, HollowCube, EightVoids}
use Rattle.drawing_maker.specs.declared.cube.Cube.{Cube}
use Rattle.drawing_maker.specs.Cubes.{cube_side, next_origin}
use Rattle.drawing_maker.specs.Made.{generator_of, kind_by, scale_by, has_eight_voids, later_cubes, made_cubes}
use Rattle.drawing_maker.specs.Rows.{tick_after, cube_ticks, row_ticks}
use Rattle.drawing_maker.proofs.Drawn.{after_two, first_by, later_by}
use Rattle.drawing_maker.proofs.Rows.{EndsBefore, IsRow}

-- ---- one cube

few_sides : (kind : Kind) → cube_side kind ≤ 5
few_sides UnitCube = omega arith
few_sides HollowCube = omega arith
few_sides EightVoids = omega arith

-- a scale is from 1 to 9
scale_is_small : (word : ℕ) → (0 < scale_by word) × (scale_by word ≤ 9)
scale_is_small word = let l = mod_below word 9 (omega arith) in (omega arith, omega (arith, l))

-- so a cube is at most 45 long
pub next_is_near : (p : Cube) → p.scale ≤ 9 → next_origin p ≤ p.origin + 46
next_is_near p l = let e = mul-le-mul {n₁ = p.scale} {m₁ = cube_side p.kind} {n₂ = 9} {m₂ = 5} l (few_sides p.kind) in omega (arith, e)

length-cube_ticks : (p : Cube) → length (cube_ticks p) ≡ suc (cube_side p.kind)
length-cube_ticks p = ap suc (length-map-range_with_len (tick_after p) 0 (cube_side p.kind))

-- ---- cubes that stand from an origin on

-- so many cubes, each of a scale from 1 to 9, in a row from an origin on: each ends before those behind it begin, at most 46
-- farther for each one
pub record StandFrom (origin count : ℕ) (ps : List Cube) : Type 0 where
  pub sized : Each (λ p. (0 < p.scale) × (p.scale ≤ 9)) ps
  pub ordered : Ascends EndsBefore ps
  pub placed : Each (λ p. (origin ≤ p.origin) × (p.origin ≤ origin + 46 * count)) ps

none_stand : (origin : ℕ) → StandFrom origin 0 []
none_stand origin = record { sized = tt; ordered = tt; placed = tt }

one_more_stands : (p : Cube) (count : ℕ) (ps : List Cube) → 0 < p.scale → p.scale ≤ 9 → StandFrom (next_origin p) count ps → StandFrom p.origin (suc count) (p ∷ ps)
one_more_stands p count ps has few stand =
    let near = next_is_near p few in
    record {
      sized = ((has, few), stand.sized);
      ordered = (
        each-weaker (λ q. (next_origin p ≤ q.origin) × (q.origin ≤ next_origin p + 46 * count)) (EndsBefore p) ps (λ q at. omega (arith, at.0)) stand.placed,
        stand.ordered,
      );
      placed = (
        (omega arith, omega arith),
        each-weaker (λ q. (next_origin p ≤ q.origin) × (q.origin ≤ next_origin p + 46 * count)) (λ q. (p.origin ≤ q.origin) × (q.origin ≤ p.origin + 46 * suc count)) ps
            (λ q at. (omega (arith, at.0), omega (arith, at.1, near))) stand.placed,
      );
    }

later_stand : (more : ℕ) (g : Lcg) (alone : Bool) (origin : ℕ) → StandFrom origin more (later_cubes more g alone origin)
later_stand zero g alone origin = none_stand origin
later_stand (suc more) g alone origin =
    let p = later_by g alone origin in
    let scale = scale_is_small (pcg32 (pcg32 g).1).0 in
    one_more_stands p more _ scale.0 scale.1 (later_stand more (after_two g) (alone && not (has_eight_voids p.kind)) (next_origin p))

pub made_stand : (n : ℕ) → StandFrom 0 14 (made_cubes n)
made_stand n =
    let g = generator_of n in
    let p = first_by g in
    let scale = scale_is_small (pcg32 (pcg32 g).1).0 in
    one_more_stands p 13 _ scale.0 scale.1 (later_stand 13 (after_two g) true (next_origin p))

pub made_row : (n : ℕ) → IsRow (made_cubes n)
made_row n =
    let stand = made_stand n in
    record { sized = each-weaker (λ p. (0 < p.scale) × (p.scale ≤ 9)) (λ p. 0 < p.scale) (made_cubes n) (λ p s. s.0) stand.sized; ordered = stand.ordered }

-- ---- how many ticks they have

-- a cube behind the first has at most 4 ticks, or 6 where it is the only one that does
few_by : (alone : Bool) (word : ℕ) → cube_side (kind_by alone word) + (if alone && not (has_eight_voids (kind_by alone word)) then 2 else 0) ≤ 3 + (if alone then 2 else 0)
few_by true zero = omega arith
few_by false zero = omega arith
few_by true (suc word) = by (nat_le (suc word) 4)
  where
    by : (b : Bool) → cube_side (if b then HollowCube else UnitCube) + (if true && not (has_eight_voids (if b then HollowCube else UnitCube)) then 2 else 0) ≤ 5
    by true = omega arith
    by false = omega arith
few_by false (suc word) = by (nat_le (suc word) 4)
  where
    by : (b : Bool) → cube_side (if b then HollowCube else UnitCube) + 0 ≤ 3
    by true = omega arith
    by false = omega arith

few_later : (more : ℕ) (g : Lcg) (alone : Bool) (origin : ℕ) → length (row_ticks (later_cubes more g alone origin)) ≤ 4 * more + (if alone then 2 else 0)
few_later zero g alone origin = omega arith
few_later (suc more) g alone origin =
    let p = later_by g alone origin in
    let still = alone && not (has_eight_voids p.kind) in
    let rest = later_cubes more (after_two g) still (next_origin p) in
    let behind = few_later more (after_two g) still (next_origin p) in
    let own = few_by alone ((pcg32 g).0 % 8) in
    omega (arith, length-append (cube_ticks p) (row_ticks rest), length-cube_ticks p, behind, own)

-- at most 60
pub few_ticks : (n : ℕ) → length (row_ticks (made_cubes n)) ≤ 60
few_ticks n =
    let g = generator_of n in
    let p = first_by g in
    let rest = later_cubes 13 (after_two g) true (next_origin p) in
    let behind = few_later 13 (after_two g) true (next_origin p) in
    omega (arith, length-append (cube_ticks p) (row_ticks rest), length-cube_ticks p, behind)
