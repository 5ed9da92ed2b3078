-- Made solids: a row of 14 cubes for each number, by the words of a generator (Pcg32, stream 54).
use Rattle.std.specs.Prelude.{◌+◌, ◌%◌, ◌&&◌, nat_le, Bool, true, false, not, ℕ, zero, suc, List, [], ◌∷◌, if◌then◌else◌}
use Rattle.rand_pcg.specs.Lcg.{Lcg, started, increment_of}
use Rattle.rand_pcg.specs.Pcg.{pcg32, multiplier_64}
use Rattle.solid_model.specs.declared.cell.Cell.{Cell}
use Rattle.drawing_maker.specs.declared.cube.Kind.{Kind}
use Rattle.drawing_maker.specs.declared.cube.Kind.TheVariants.{UnitCube, HollowCube, EightVoids}
use Rattle.drawing_maker.specs.declared.cube.Cube.{Cube}
use Rattle.drawing_maker.specs.Cubes.{next_origin, row_cells}

-- the generator of a number
abbrev pub generator_of : ℕ → Lcg
generator_of n = started 64 multiplier_64 n (increment_of 64 54)

-- The kind that a word gives, where only one cube with eight voids stands so far, or more than one: by the word's remainder
-- by 8, 0 gives another cube with eight voids, if only one stands, and else a hollow cube; so do 1 to 4; 5 to 7 give a unit cube.
abbrev pub kind_by : Bool → ℕ → Kind
kind_by alone zero = if alone then EightVoids else HollowCube
kind_by alone k = if nat_le k 4 then HollowCube else UnitCube

-- the scale that a word gives
abbrev pub scale_by : ℕ → ℕ
scale_by word = 1 + word % 9

-- it is a cube with eight voids
abbrev pub has_eight_voids : Kind → Bool
has_eight_voids EightVoids = true
has_eight_voids _ = false

-- so many cubes more, from an origin on: for each two words are drawn, the first for its kind and the second for its scale
abbrev pub later_cubes : ℕ → Lcg → Bool → ℕ → List Cube
later_cubes zero g alone origin = []
later_cubes (suc more) g alone origin =
    let a = pcg32 g in let b = pcg32 a.1 in
    let p : Cube = record { kind = kind_by alone (a.0 % 8); scale = scale_by b.0; origin = origin } in
    p ∷ later_cubes more b.1 (alone && not (has_eight_voids p.kind)) (next_origin p)

-- the cubes of a number: the first is a cube with eight voids, whatever its first word is
abbrev pub made_cubes : ℕ → List Cube
made_cubes n =
    let a = pcg32 (generator_of n) in let b = pcg32 a.1 in
    let p : Cube = record { kind = EightVoids; scale = scale_by b.0; origin = 0 } in
    p ∷ later_cubes 13 b.1 true (next_origin p)

-- the made solid of a number
abbrev pub made_solid : ℕ → List Cell
made_solid n = row_cells (made_cubes n)
