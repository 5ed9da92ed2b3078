-- The rectangles on the six sides of grid cells: each has a cell inwards and one outwards, and is one with that on the other
-- side of the same face, seen from there.
use Rattle.std.proofs.Common.{◌≡◌, inl, inr, ◌<◌, List, [], ◌∷◌, ℤ, pos, ◌+ℤ◌, if◌then◌else◌, refl, ap}
use Rattle.solid_model.specs.declared.cell.Cell.{Cell}
use Rattle.solid_model.specs.declared.face.Out.{Out}
use Rattle.solid_model.specs.declared.face.Out.TheVariants.{MinusX, PlusX, MinusY, PlusY, MinusZ, PlusZ}
use Rattle.solid_model.specs.Cells.{coordinate}
use Rattle.solid_model.specs.Faces.{outward, right_axis, up_axis, inner_cell, outer_cell, out_number}
use Rattle.lemmas.specs.Lists.{Member, Ascends}
use Rattle.lemmas.proofs.Lists.{ascends-from_map}
use Rattle.lemmas.proofs.Ranges.{ascends-range}
use Rattle.lemmas.proofs.Integers.{up_and_down, down_and_up}
use Rattle.stl_out.specs.declared.rectangle.Rectangle.{Rectangle}
use Rattle.stl_out.specs.Rectangles.{square_of}

-- the grid cell inwards, and the one outwards
abbrev pub inner_of : Rectangle → Cell
inner_of r = inner_cell r.out r.at (square_of r)

abbrev pub outer_of : Rectangle → Cell
outer_of r = outer_cell r.out r.at (square_of r)

-- ---- the sides of a cell

-- the rectangle on a side of a cell
abbrev pub side_of : Cell → Out → Rectangle
side_of c out = record {
  out = out;
  at = if (outward out).forward then coordinate (outward out).axis c +ℤ pos 1 else coordinate (outward out).axis c;
  right = coordinate (right_axis out) c;
  up = coordinate (up_axis out) c;
}

-- the cell lies inwards of it
pub inner-side : (c : Cell) (out : Out) → inner_of (side_of c out) ≡ c
inner-side c MinusX = refl
inner-side c PlusX = ap (λ x. record c { x = x }) (up_and_down c.x)
inner-side c MinusY = refl
inner-side c PlusY = ap (λ y. record c { y = y }) (up_and_down c.y)
inner-side c MinusZ = refl
inner-side c PlusZ = ap (λ z. record c { z = z }) (up_and_down c.z)

-- and each rectangle is on a side of the cell inwards of it
pub side-inner : (r : Rectangle) → side_of (inner_of r) r.out ≡ r
side-inner r = by r.out r.at r.right r.up
  where
    by : (out : Out) (at right up : ℤ)
        → side_of (inner_of (record { out = out; at = at; right = right; up = up })) out ≡ record { out = out; at = at; right = right; up = up }
    by MinusX at right up = refl
    by PlusX at right up = ap (λ k. record { out = PlusX; at = k; right = right; up = up }) (down_and_up at)
    by MinusY at right up = refl
    by PlusY at right up = ap (λ k. record { out = PlusY; at = k; right = right; up = up }) (down_and_up at)
    by MinusZ at right up = refl
    by PlusZ at right up = ap (λ k. record { out = PlusZ; at = k; right = right; up = up }) (down_and_up at)

-- the six outward sides
abbrev pub six_outs : List Out
six_outs = MinusX ∷ PlusX ∷ MinusY ∷ PlusY ∷ MinusZ ∷ PlusZ ∷ []

pub among_six : (out : Out) → Member six_outs out
among_six MinusX = inl refl
among_six PlusX = inr (inl refl)
among_six MinusY = inr (inr (inl refl))
among_six PlusY = inr (inr (inr (inl refl)))
among_six MinusZ = inr (inr (inr (inr (inl refl))))
among_six PlusZ = inr (inr (inr (inr (inr (inl refl)))))

-- are in order
pub six_ascend : Ascends (λ o p. out_number o < out_number p) six_outs
six_ascend = ascends-from_map out_number (λ o p. out_number o < out_number p) ◌<◌ six_outs (λ o p l. l) (ascends-range 6 0)

-- ---- the other side

-- the opposite direction
abbrev pub opposite : Out → Out
opposite MinusX = PlusX
opposite PlusX = MinusX
opposite MinusY = PlusY
opposite PlusY = MinusY
opposite MinusZ = PlusZ
opposite PlusZ = MinusZ

-- the same face seen from the other side, where right and up are exchanged
abbrev pub flipped : Rectangle → Rectangle
flipped r = record { out = opposite r.out; at = r.at; right = r.up; up = r.right }

-- from there outwards is inwards
pub inner-flipped : (r : Rectangle) → inner_of (flipped r) ≡ outer_of r
inner-flipped r = by r.out r.at r.right r.up
  where
    by : (out : Out) (at right up : ℤ) → inner_of (flipped (record { out = out; at = at; right = right; up = up }))
        ≡ outer_of (record { out = out; at = at; right = right; up = up })
    by MinusX at right up = refl
    by PlusX at right up = refl
    by MinusY at right up = refl
    by PlusY at right up = refl
    by MinusZ at right up = refl
    by PlusZ at right up = refl

pub outer-flipped : (r : Rectangle) → outer_of (flipped r) ≡ inner_of r
outer-flipped r = by r.out r.at r.right r.up
  where
    by : (out : Out) (at right up : ℤ) → outer_of (flipped (record { out = out; at = at; right = right; up = up }))
        ≡ inner_of (record { out = out; at = at; right = right; up = up })
    by MinusX at right up = refl
    by PlusX at right up = refl
    by MinusY at right up = refl
    by PlusY at right up = refl
    by MinusZ at right up = refl
    by PlusZ at right up = refl

-- and seen twice from the other side it is itself
pub flipped-twice : (r : Rectangle) → flipped (flipped r) ≡ r
flipped-twice r = ap (λ out. record r { out = out }) (by r.out)
  where
    by : (out : Out) → opposite (opposite out) ≡ out
    by MinusX = refl
    by PlusX = refl
    by MinusY = refl
    by PlusY = refl
    by MinusZ = refl
    by PlusZ = refl
