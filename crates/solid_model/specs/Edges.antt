-- Edges of a solid: facts of a unit edge and the four cells round it, in space. They look at a solid only through which of
-- its cells are full, as sight lines and drawings do: so a union of very many cells can be spoken of without its list.
use Rattle.std.specs.Prelude.{◌≡◌, ◌⊎◌, Bool, not, ◌&&◌, ◌||◌}
use Rattle.lemmas.specs.Truth.{agree}
use Rattle.solid_model.specs.declared.cell.Axis.{Axis}
use Rattle.solid_model.specs.declared.cell.Axis.TheVariants.{X, Y, Z}
use Rattle.solid_model.specs.declared.cell.Cell.{Cell}
use Rattle.solid_model.specs.Cells.{cell_before}

-- Four cells stand round a unit edge, a and b on one side of a plane through it, c and d on the other, and the second
-- plane parts a and c from b and d. They make it an edge unless, for one plane, each of the two pairs across it agrees.
abbrev pub is_edge_of : Bool → Bool → Bool → Bool → Bool
is_edge_of a b c d = not ((agree a c && agree b d) || (agree a b && agree c d))

-- the next axis, across an axis
abbrev pub second_axis : Axis → Axis
second_axis X = Y
second_axis Y = Z
second_axis Z = X

-- and the other one across it
abbrev pub third_axis : Axis → Axis
third_axis X = Z
third_axis Y = X
third_axis Z = Y

-- the axes b and c are the two across a, in either order
abbrev pub AreAcross : Axis → Axis → Axis → Type 0
AreAcross a b c = ((b ≡ second_axis a) × (c ≡ third_axis a)) ⊎ ((b ≡ third_axis a) × (c ≡ second_axis a))

-- the unit edge from the point p along the axis a is an edge of the solid whose cells are full
abbrev pub is_edge : (Cell → Bool) → Axis → Cell → Bool
is_edge full a p = is_edge_of
    (full p) (full (cell_before (second_axis a) p))
    (full (cell_before (third_axis a) p)) (full (cell_before (second_axis a) (cell_before (third_axis a) p)))
