-- Which pairs count of what is being read.
use Rattle.std.specs.Prelude.{ℕ, ℤ, pos, Bool, true, false, ◌||◌, List, [], ◌∷◌}
use Rattle.std.specs.Ordering.{int_eq}
use Rattle.dxf_entities.specs.declared.counting.Counting.{Counting}
use Rattle.dxf_entities.specs.declared.counting.Counting.TheVariants.{Each, Nothing, Application, Layer, Entity}

-- the code is one of these
abbrev pub is_one_of : List ℕ → ℤ → Bool
is_one_of [] code = false
is_one_of (c ∷ cs) code = int_eq code (pos c) || is_one_of cs code

-- the codes that count: 102 stands before and behind what belongs to an application
abbrev pub counts : Counting → ℤ → Bool
counts Each code = true
counts Nothing code = false
counts Application code = is_one_of (102 ∷ []) code
counts Layer code = is_one_of (2 ∷ 6 ∷ 102 ∷ []) code
counts Entity code = is_one_of (6 ∷ 8 ∷ 67 ∷ []) code
    || (is_one_of (10 ∷ 11 ∷ 20 ∷ 21 ∷ []) code || (is_one_of (42 ∷ 70 ∷ []) code || is_one_of (102 ∷ []) code))
