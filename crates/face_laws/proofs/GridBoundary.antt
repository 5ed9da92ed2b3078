-- The boundary squares of a solid of grid cells are those of the solid of their numbers.
use Rattle.std.proofs.Common.{◌≡◌, inl, inr, Bool, true, false, not, ◌&&◌, ℤ, pos, ◌-ℤ◌, IsTrue, refl, sym, ◌∙◌, ap, ap₂, arith}
use Rattle.std.proofs.lemmas.Bool.{false≢true, both_ways}
use Rattle.std.proofs.lemmas.Int.{ints, by_lt_z}
use Rattle.solid_model.specs.declared.cell.Axis.{Axis}
use Rattle.solid_model.specs.declared.cell.Axis.TheVariants.{X, Y, Z}
use Rattle.solid_model.specs.declared.cell.Cell.{Cell}
use Rattle.solid_model.specs.declared.face.Out.{Out}
use Rattle.solid_model.specs.declared.face.Out.TheVariants.{MinusX, PlusX, MinusY, PlusY, MinusZ, PlusZ}
use Rattle.solid_model.specs.Faces.{outward, right_axis, up_axis, place, inner_cell, outer_cell, is_boundary}
use Rattle.face_laws.specs.GridFaces.{Planes, point_of_numbers, LiesInNumbered, AreCellsOf}
use Rattle.face_laws.specs.GridRounds.{Rises, grid_point, AreSquaresOf}
use Rattle.solid_model.specs.Orders.{ComesBefore}
use Rattle.solid_model.specs.Rounds.{Spot}
use Rattle.solid_model.proofs.CellOrder.{LiesBefore, before-lies, lies-before}
use Rattle.face_laws.proofs.GridLines.{LiesBetween, on_line, before_line, some_between, later_line}

-- a grid point of a plane, in space
pub place_in_space : (planes : Planes) (out : Out) (at : ℤ) (n : Spot)
    → place out (planes (outward out).axis at)
    (grid_point (planes (right_axis out)) (planes (up_axis out)) n) ≡ point_of_numbers planes (place out at n)
place_in_space planes MinusX at n = refl
place_in_space planes PlusX at n = refl
place_in_space planes MinusY at n = refl
place_in_space planes PlusY at n = refl
place_in_space planes MinusZ at n = refl
place_in_space planes PlusZ at n = refl

module _ (planes : Planes) (rises : (a : Axis) → Rises (planes a)) where
  -- grid points keep their order
  pub order_in_space : (c d : Cell) → ComesBefore c d → ComesBefore (point_of_numbers planes c) (point_of_numbers planes d)
  order_in_space c d h = lies-before (point_of_numbers planes c) (point_of_numbers planes d) (by (before-lies c d h))
    where
      by : LiesBefore c d → LiesBefore (point_of_numbers planes c) (point_of_numbers planes d)
      by (inl l) = inl (later_line (planes Z) (rises Z) c.z d.z l)
      by (inr (e, inl l)) = inr (ap (planes Z) e, inl (later_line (planes Y) (rises Y) c.y d.y l))
      by (inr (e, inr (f, l))) = inr (ap (planes Z) e, inr (ap (planes Y) f, later_line (planes X) (rises X) c.x d.x l))

  module _ (numbered full : Cell → Bool) (are : AreCellsOf planes numbered full) where
    -- a cell is full where its grid cell is
    full_at : (i j k x y z : ℤ) → LiesBetween (planes X) i x → LiesBetween (planes Y) j y → LiesBetween (planes Z) k z
        → full (record { x = x; y = y; z = z }) ≡ numbered (record { x = i; y = j; z = k })
    full_at i j k x y z at_x at_y at_z = are (record { x = i; y = j; z = k }) (record { x = x; y = y; z = z }) by
      where
        by : LiesInNumbered planes (record { x = i; y = j; z = k }) (record { x = x; y = y; z = z })
        by X = (at_x.low, at_x.high)
        by Y = (at_y.low, at_y.high)
        by Z = (at_z.low, at_z.high)

    -- the boundary squares in a plane of the grid are those of the numbers
    pub squares_in_space : (out : Out) (at : ℤ)
        → AreSquaresOf (planes (right_axis out)) (planes (up_axis out)) (is_boundary numbered out at)
        (is_boundary full out (planes (outward out).axis at))
    squares_in_space MinusX at n p l = ap₂ (λ a b. a && not b)
        (full_at at n.v n.u (planes X at) p.v p.u (on_line (planes X) (rises X) at) (record { low = l.below; high = l.above })
        (record { low = l.left; high = l.right }))
        (full_at (at -ℤ pos 1) n.v n.u (planes X at -ℤ pos 1) p.v p.u (before_line (planes X) (rises X) at)
        (record { low = l.below; high = l.above }) (record { low = l.left; high = l.right }))
    squares_in_space PlusX at n p l = ap₂ (λ a b. a && not b)
        (full_at (at -ℤ pos 1) n.u n.v (planes X at -ℤ pos 1) p.u p.v (before_line (planes X) (rises X) at)
        (record { low = l.left; high = l.right }) (record { low = l.below; high = l.above }))
        (full_at at n.u n.v (planes X at) p.u p.v (on_line (planes X) (rises X) at) (record { low = l.left; high = l.right })
        (record { low = l.below; high = l.above }))
    squares_in_space MinusY at n p l = ap₂ (λ a b. a && not b)
        (full_at n.u at n.v p.u (planes Y at) p.v (record { low = l.left; high = l.right }) (on_line (planes Y) (rises Y) at)
        (record { low = l.below; high = l.above }))
        (full_at n.u (at -ℤ pos 1) n.v p.u (planes Y at -ℤ pos 1) p.v (record { low = l.left; high = l.right })
        (before_line (planes Y) (rises Y) at) (record { low = l.below; high = l.above }))
    squares_in_space PlusY at n p l = ap₂ (λ a b. a && not b)
        (full_at n.v (at -ℤ pos 1) n.u p.v (planes Y at -ℤ pos 1) p.u (record { low = l.below; high = l.above })
        (before_line (planes Y) (rises Y) at) (record { low = l.left; high = l.right }))
        (full_at n.v at n.u p.v (planes Y at) p.u (record { low = l.below; high = l.above }) (on_line (planes Y) (rises Y) at)
        (record { low = l.left; high = l.right }))
    squares_in_space MinusZ at n p l = ap₂ (λ a b. a && not b)
        (full_at n.v n.u at p.v p.u (planes Z at) (record { low = l.below; high = l.above })
        (record { low = l.left; high = l.right }) (on_line (planes Z) (rises Z) at))
        (full_at n.v n.u (at -ℤ pos 1) p.v p.u (planes Z at -ℤ pos 1) (record { low = l.below; high = l.above })
        (record { low = l.left; high = l.right }) (before_line (planes Z) (rises Z) at))
    squares_in_space PlusZ at n p l = ap₂ (λ a b. a && not b)
        (full_at n.u n.v (at -ℤ pos 1) p.u p.v (planes Z at -ℤ pos 1) (record { low = l.left; high = l.right })
        (record { low = l.below; high = l.above }) (before_line (planes Z) (rises Z) at))
        (full_at n.u n.v at p.u p.v (planes Z at) (record { low = l.left; high = l.right })
        (record { low = l.below; high = l.above }) (on_line (planes Z) (rises Z) at))

    never : (a b : Bool) → a ≡ b → (a && not b) ≡ true → ⊥
    never true true e f = false≢true f
    never true false e f = both_ways false refl (sym e)
    never false b e f = false≢true f

    -- strictly between two planes of the grid there is no boundary square
    none_within : (out : Out) (at k : ℤ) (p : Spot) → LiesBetween (planes (outward out).axis) k (at -ℤ pos 1)
        → LiesBetween (planes (outward out).axis) k at
        → IsTrue (is_boundary full out at p) → ⊥
    none_within MinusX at k p before after is =
        let su = some_between (planes Z) (rises Z) p.u in let sv = some_between (planes Y) (rises Y) p.v in
        never (full (inner_cell MinusX at p)) (full (outer_cell MinusX at p))
        (full_at k sv.0 su.0 at p.v p.u after sv.1 su.1 ∙ sym (full_at k sv.0 su.0 (at -ℤ pos 1) p.v p.u before sv.1 su.1)) is
    none_within PlusX at k p before after is =
        let su = some_between (planes Y) (rises Y) p.u in let sv = some_between (planes Z) (rises Z) p.v in
        never (full (inner_cell PlusX at p)) (full (outer_cell PlusX at p))
        (full_at k su.0 sv.0 (at -ℤ pos 1) p.u p.v before su.1 sv.1 ∙ sym (full_at k su.0 sv.0 at p.u p.v after su.1 sv.1)) is
    none_within MinusY at k p before after is =
        let su = some_between (planes X) (rises X) p.u in let sv = some_between (planes Z) (rises Z) p.v in
        never (full (inner_cell MinusY at p)) (full (outer_cell MinusY at p))
        (full_at su.0 k sv.0 p.u at p.v su.1 after sv.1 ∙ sym (full_at su.0 k sv.0 p.u (at -ℤ pos 1) p.v su.1 before sv.1)) is
    none_within PlusY at k p before after is =
        let su = some_between (planes Z) (rises Z) p.u in let sv = some_between (planes X) (rises X) p.v in
        never (full (inner_cell PlusY at p)) (full (outer_cell PlusY at p))
        (full_at sv.0 k su.0 p.v (at -ℤ pos 1) p.u sv.1 before su.1 ∙ sym (full_at sv.0 k su.0 p.v at p.u sv.1 after su.1)) is
    none_within MinusZ at k p before after is =
        let su = some_between (planes Y) (rises Y) p.u in let sv = some_between (planes X) (rises X) p.v in
        never (full (inner_cell MinusZ at p)) (full (outer_cell MinusZ at p))
        (full_at sv.0 su.0 k p.v p.u at sv.1 su.1 after ∙ sym (full_at sv.0 su.0 k p.v p.u (at -ℤ pos 1) sv.1 su.1 before)) is
    none_within PlusZ at k p before after is =
        let su = some_between (planes X) (rises X) p.u in let sv = some_between (planes Y) (rises Y) p.v in
        never (full (inner_cell PlusZ at p)) (full (outer_cell PlusZ at p))
        (full_at su.0 sv.0 k p.u p.v (at -ℤ pos 1) su.1 sv.1 before ∙ sym (full_at su.0 sv.0 k p.u p.v at su.1 sv.1 after)) is

    -- so a boundary square lies in a plane of the grid
    pub plane_in_space : (out : Out) (at : ℤ) (p : Spot) → IsTrue (is_boundary full out at p)
        → (k : ℤ) × (at ≡ planes (outward out).axis k)
    plane_in_space out at p is =
        let (k, between) = some_between (planes (outward out).axis) (rises (outward out).axis) at in
        by_lt_z (planes (outward out).axis k) at
        (λ less. absurd (none_within out at k p
        (record { low = omega (arith, ints); high = let h = between.high in omega (arith, ints) }) between is))
        (λ most. (k, let l = between.low in omega (arith, ints)))
