-- The cubes of a number in words: for each the letter of its kind, and its scale.
use Rattle.std.specs.Prelude.{ℕ, List, ◌++◌, codes, decimal}
use Rattle.std.specs.List.{flat_map}
use Rattle.drawing_maker.specs.declared.cube.Kind.{Kind}
use Rattle.drawing_maker.specs.declared.cube.Kind.TheVariants.{UnitCube, HollowCube, EightVoids}
use Rattle.drawing_maker.specs.Made.{made_cubes}

abbrev pub cube_letter : Kind → List ℕ
cube_letter UnitCube = codes " U"
cube_letter HollowCube = codes " H"
cube_letter EightVoids = codes " E"

abbrev pub cubes_text : ℕ → List ℕ
cubes_text n = flat_map (λ p. cube_letter p.kind ++ decimal p.scale) (made_cubes n)
