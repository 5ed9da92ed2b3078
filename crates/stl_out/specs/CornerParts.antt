-- The line of a corner in two parts: the coordinates along x and y, and that along z.
use Rattle.std.specs.Prelude.{◌≡◌, ℤ, ℕ, List, ◌++◌, map, codes}
use Rattle.std.specs.Fmt.{signed_decimal}
use Rattle.solid_model.specs.declared.cell.Axis.TheVariants.{X, Y, Z}
use Rattle.solid_model.specs.Grid.{Coordinates}

-- the word, and the coordinates along x and y
unfoldable pub corner_head : ℤ → ℤ → List ℕ
corner_head x y = (codes "vertex" ++ (codes " " ++ signed_decimal x)) ++ (codes " " ++ signed_decimal y)

-- the coordinate along z
unfoldable pub corner_end : ℤ → List ℕ
corner_end z = (codes " " ++ signed_decimal z) ++ codes "\n"

-- beginnings for all of some coordinates along x, and one along y
abbrev pub heads_in_row : List ℤ → ℤ → List (List ℕ)
heads_in_row xs y = map (λ x. corner_head x y) xs

-- a row of them for each coordinate along y
abbrev pub all_heads : List ℤ → List ℤ → List (List (List ℕ))
all_heads xs ys = map (heads_in_row xs) ys

-- the ends for all coordinates along z
abbrev pub all_ends : List ℤ → List (List ℕ)
all_ends zs = map corner_end zs

-- those of all points of a grid
pub record ArePartsOf (coordinates : Coordinates) (heads : List (List (List ℕ))) (ends : List (List ℕ)) : Type 0 where
  pub begun : heads ≡ all_heads (coordinates X) (coordinates Y)
  pub ended : ends ≡ all_ends (coordinates Z)
