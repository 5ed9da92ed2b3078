-- The full cells of a cube are joined: between two neighbours one of their two common places has no voids along its axis, so
-- that in a view across the other one the columns beside the segment between them are equal, nothing is drawn, and the face
-- between them leads out along the sight.
use Rattle.std.proofs.Common.{◌≡◌, ◌⊎◌, ⊎_elim, inl, inr, Bool, true, false, not, ◌&&◌, ℕ, zero, suc, ◌+◌, ◌-◌, List, ℤ, pos, ◌-ℤ◌, refl, ap, sym, subst, ◌∙◌, arith}
use Rattle.std.proofs.Math.Bool.{and-false}
use Rattle.std.proofs.lemmas.Bool.{and_cases}
use Rattle.std.proofs.lemmas.Int.{ints}
use Rattle.solid_model.specs.declared.cell.Axis.{Axis}
use Rattle.solid_model.specs.declared.cell.Axis.TheVariants.{X, Y, Z}
use Rattle.solid_model.specs.declared.cell.Cell.{Cell}
use Rattle.solid_model.specs.declared.frame.View.{View}
use Rattle.solid_model.specs.declared.frame.View.TheVariants.{Front, Top, Side}
use Rattle.solid_model.specs.Blocks.{Joined}
use Rattle.solid_model.specs.Cells.{coordinate, placed, cell_before}
use Rattle.solid_model.specs.DrawnStyle.{solid_drawing}
use Rattle.solid_model.specs.Frames.{frame_of}
use Rattle.lemmas.specs.Lists.{Member}
use Rattle.solid_model.specs.Panels.{GridParts, coordinates_of, IsGridOf}
use Rattle.solid_model.specs.WalledBoxes.{face_sizes, Passes}
use Rattle.solid_model.specs.Runs.{IsDrawing}
use Rattle.solid_model.specs.VirtualFaces.{Bars, IsVirtual}
use Rattle.solid_model.specs.GridBox.{grid_sizes, axis_along, axis_across}
use Rattle.lemmas.proofs.Chains.{reaches-onward, reaches-step_then}
use Rattle.solid_model.proofs.InGrid.{placed_at}
use Rattle.solid_model.proofs.Passages.{passages-back}
use Rattle.solid_model.proofs.Views.{each_axis, across_along, views_are_frames}
use Rattle.drawing_maker.specs.declared.cube.Cube.{Cube}
use Rattle.drawing_maker.specs.Cubes.{is_void, row_cells}
use Rattle.drawing_maker.specs.Rows.{row_ticks, coordinates_of_ticks}
use Rattle.made_laws.proofs.BoxLines.{some_greater, out_down}
use Rattle.drawing_maker.proofs.Rows.{IsRow}
use Rattle.made_laws.proofs.RowGrid.{row_drawn, undrawn}
use Rattle.made_laws.proofs.RowOutside.{unbarred_away, OfSquare, kept_away, moved_across}
use Rattle.made_laws.proofs.RowPlaces.{first_place}
use Rattle.made_laws.proofs.RowCubelets.{hole, void_is, no_hole_first, Covers, place_in, place_is, one_covers, IsIn, cubelet_in, IsOff, in_or_off, not_both, full_at, full_in, full_off}
use Rattle.drawing_maker.proofs.RowUnion.{has_side}

pub placed_own : (a : Axis) (n : Cell) → placed a (coordinate a n) n ≡ n
placed_own X n = refl
placed_own Y n = refl
placed_own Z n = refl

pub placed_twice : (a : Axis) (k j : ℤ) (n : Cell) → placed a k (placed a j n) ≡ placed a k n
placed_twice X k j n = refl
placed_twice Y k j n = refl
placed_twice Z k j n = refl

module _ (ps : List Cube) (row : IsRow ps) where
  -- at a place without voids along one axis a cell is no void
  solid_at : (p : Cube) (u : Cell) (a : Axis) → hole p.kind (place_in ps row p (coordinate a u)) ≡ false → is_void p.kind (cubelet_in ps row p u) ≡ false
  solid_at p u X e = void_is p.kind (cubelet_in ps row p u)
      ∙ ap (λ b. b && (hole p.kind (place_in ps row p u.y) && hole p.kind (place_in ps row p u.z))) e
  solid_at p u Y e = void_is p.kind (cubelet_in ps row p u)
      ∙ ap (λ b. hole p.kind (place_in ps row p u.x) && (b && hole p.kind (place_in ps row p u.z))) e ∙ and-false _
  solid_at p u Z e = void_is p.kind (cubelet_in ps row p u)
      ∙ ap (λ b. hole p.kind (place_in ps row p u.x) && (hole p.kind (place_in ps row p u.y) && b)) e
      ∙ ap (λ b. hole p.kind (place_in ps row p u.x) && b) (and-false _) ∙ and-false _

  -- so it is full
  pub full_at_solid : (p : Cube) (u : Cell) → IsIn ps row p u → (a : Axis) → hole p.kind (place_in ps row p (coordinate a u)) ≡ false
      → full_at ps row u ≡ true
  full_at_solid p u inside a e = full_in ps row p u inside ∙ ap not (solid_at p u a e)

  -- the square lies in the cube, at a place along the first axis that has no voids
  abbrev IsSolidSquare : Cube → ℤ → ℤ → Type 0
  IsSolidSquare p z w = Covers ps row p z × (hole p.kind (place_in ps row p z) ≡ false) × Covers ps row p w

  -- and so does the one before it
  abbrev AreSolidSquares : Cube → ℤ → ℤ → Type 0
  AreSolidSquares p z w = IsSolidSquare p z w × Covers ps row p (w -ℤ pos 1)

  in_by_view : (v : View) (upright : Bool) (p : Cube) (u : Cell) → OfSquare (IsSolidSquare p) v upright u
      → Covers ps row p (coordinate (frame_of v).away.axis u) → IsIn ps row p u
  in_by_view v upright p u at sight = each_axis (λ x. Covers ps row p (coordinate x u)) (axis_along v upright) (axis_across v upright) (frame_of v).away.axis
      (across_along (frame_of v) (views_are_frames v) upright) at.0 at.2 sight

  -- over two such squares, at one depth, both cells are full or both are empty
  same_over_squares : (v : View) (upright : Bool) (p : Cube) (u w : Cell) → OfSquare (IsSolidSquare p) v upright u → OfSquare (IsSolidSquare p) v upright w
      → coordinate (frame_of v).away.axis u ≡ coordinate (frame_of v).away.axis w → full_at ps row u ≡ full_at ps row w
  same_over_squares v upright p u w at too depth = by (in_or_off ps row u) (in_or_off ps row w)
    where
      full_there : (x : Cell) → OfSquare (IsSolidSquare p) v upright x → IsIn ps row p x → full_at ps row x ≡ true
      full_there x square inside = full_at_solid p x inside (axis_along v upright) square.1

      -- the one is in the cube where the other is
      in_too : (x y : Cell) → OfSquare (IsSolidSquare p) v upright x → OfSquare (IsSolidSquare p) v upright y
          → coordinate (frame_of v).away.axis x ≡ coordinate (frame_of v).away.axis y → (q : Cube) → IsIn ps row q x → IsIn ps row p y
      in_too x y at_x at_y e q inside =
          let one : q ≡ p = one_covers ps row q p (coordinate (axis_along v upright) x) (inside (axis_along v upright)) at_x.0 in
          in_by_view v upright p y at_y (subst (Covers ps row p) e
          (subst (λ r. Covers ps row r (coordinate (frame_of v).away.axis x)) one (inside (frame_of v).away.axis)))

      by : ((q : Cube) × IsIn ps row q u) ⊎ IsOff ps row u → ((q : Cube) × IsIn ps row q w) ⊎ IsOff ps row w → full_at ps row u ≡ full_at ps row w
      by (inl (q, inside)) (inl (r, inside_too)) =
          full_there u at (in_too w u too at (sym depth) r inside_too) ∙ sym (full_there w too (in_too u w at too depth q inside))
      by (inl (q, inside)) (inr off) = absurd (not_both ps row p w (in_too u w at too depth q inside) off)
      by (inr off) (inl (r, inside_too)) = absurd (not_both ps row p u (in_too w u too at (sym depth) r inside_too) off)
      by (inr off) (inr off_too) = full_off ps row u off ∙ sym (full_off ps row w off_too)

  module _ (g : GridParts) (same : (a : Axis) → coordinates_of g a ≡ coordinates_of_ticks (row_ticks ps))
      (grid : IsGridOf (solid_drawing (row_cells ps)) g) (is : IsDrawing (solid_drawing (row_cells ps))) where
    -- so nothing is drawn between the squares, and a face between cells over them leads out along the sight
    not_virtual : (v : View) (upright : Bool) (p : Cube) (n : Cell) → OfSquare (AreSolidSquares p) v upright n → IsVirtual g (axis_across v upright) n → ⊥
    not_virtual v upright p n squares virtual =
        let k = some_greater (coordinate (frame_of v).away.axis n) in
        virtual.1 (out_down (face_sizes (grid_sizes g) (axis_across v upright)) (Bars g (axis_across v upright)) (frame_of v).away.axis
        (OfSquare (AreSolidSquares p) v upright) unbarred (λ m at. kept_away (AreSolidSquares p) v upright _ m at) k.0 n k.1 squares)
      where
        unbarred : (m : Cell) → OfSquare (AreSolidSquares p) v upright m → Bars g (axis_across v upright) (frame_of v).away.axis m → ⊥
        unbarred m at = unbarred_away g (row_drawn ps row g same grid is) v upright m (undrawn ps row g same grid is v upright m (λ k.
            same_over_squares v upright p _ _ (kept_away (IsSolidSquare p) v upright k m at.0)
            (kept_away (IsSolidSquare p) v upright k (cell_before (axis_across v upright) m)
            (moved_across (IsSolidSquare p) v upright _ m (at.0.0, at.0.1, at.1)))
            (placed_at (frame_of v).away.axis k m ∙ sym (placed_at (frame_of v).away.axis k (cell_before (axis_across v upright) m)))))

    -- steps lead across the squares down to the cube's first place
    to_first : (v : View) (upright : Bool) (p : Cube) (i : ℕ) (n : Cell) → OfSquare (IsSolidSquare p) v upright n
        → coordinate (axis_across v upright) n ≡ pos (first_place ps p + i) → Joined g n (placed (axis_across v upright) (pos (first_place ps p)) n)
    to_first v upright p zero n square e =
        let first : pos (first_place ps p + zero) ≡ pos (first_place ps p) = ap pos (omega arith) in
        (zero, sym (placed_own (axis_across v upright) n) ∙ ap (λ k. placed (axis_across v upright) k n) (e ∙ first))
    to_first v upright p (suc i) n square e =
        let b = axis_across v upright in
        let at = placed_at b (coordinate b n -ℤ pos 1) n in
        let covered : Covers ps row p (coordinate b n -ℤ pos 1) =
        record { member = square.2.member; from = omega (arith, ints, e); to = (let l = square.2.to in omega (arith, ints, l)) } in
        let rest = to_first v upright p i (cell_before b n) (moved_across (IsSolidSquare p) v upright _ n (square.0, square.1, covered))
        (omega (arith, ints, e, at)) in
        reaches-step_then (Passes (IsVirtual g)) n (cell_before b n) (placed b (pos (first_place ps p)) n)
        (b, inl (refl, not_virtual v upright p n (square, covered)))
        (subst (Joined g (cell_before b n)) (placed_twice b _ _ n) rest)

    -- the cube's first cell
    abbrev pub corner_of : Cube → Cell
    corner_of p = record { x = pos (first_place ps p); y = pos (first_place ps p); z = pos (first_place ps p) }

    first_covered : (p : Cube) → Member ps p → Covers ps row p (pos (first_place ps p))
    first_covered p k = record { member = k; from = omega (arith, ints); to = (let l = has_side p.kind in omega (arith, ints, l)) }

    first_solid : (p : Cube) → hole p.kind (place_in ps row p (pos (first_place ps p))) ≡ false
    first_solid p = let e : first_place ps p - first_place ps p ≡ 0 = omega arith in ap (hole p.kind) e ∙ no_hole_first p.kind

    pub corner_in : (p : Cube) → Member ps p → IsIn ps row p (corner_of p)
    corner_in p k X = first_covered p k
    corner_in p k Y = first_covered p k
    corner_in p k Z = first_covered p k

    -- From a cell with a place that has no voids, steps lead along the two other axes to their first places, and then along its own.
    pub to_corner : (p : Cube) (u : Cell) → IsIn ps row p u → is_void p.kind (cubelet_in ps row p u) ≡ false → Joined g u (corner_of p)
    to_corner p u inside solid =
        let e = sym (void_is p.kind (cubelet_in ps row p u)) ∙ solid in
        ⊎_elim {C = Joined g u (corner_of p)} from_x
        (λ f. ⊎_elim {C = Joined g u (corner_of p)} from_y from_z (and_cases (hole p.kind (place_in ps row p u.y)) (hole p.kind (place_in ps row p u.z)) f))
        (and_cases (hole p.kind (place_in ps row p u.x)) (hole p.kind (place_in ps row p u.y) && hole p.kind (place_in ps row p u.z)) e)
      where
        f : ℤ
        f = pos (first_place ps p)

        member : Member ps p
        member = (inside X).member

        onward : (n m : Cell) → Joined g u n → Joined g n m → Joined g u m
        onward n m = reaches-onward (Passes (IsVirtual g)) u n m

        from_x : hole p.kind (place_in ps row p u.x) ≡ false → Joined g u (corner_of p)
        from_x e =
            onward (record { x = u.x; y = f; z = f }) (corner_of p)
            (onward (record u { y = f }) (record { x = u.x; y = f; z = f })
            (to_first Top false p (place_in ps row p u.y) u (inside X, e, inside Y) (place_is ps row p u.y (inside Y)))
            (to_first Front false p (place_in ps row p u.z) (record u { y = f }) (inside X, e, inside Z) (place_is ps row p u.z (inside Z))))
            (to_first Top true p (place_in ps row p u.x) (record { x = u.x; y = f; z = f }) (first_covered p member, first_solid p, inside X) (place_is ps row p u.x (inside X)))

        from_y : hole p.kind (place_in ps row p u.y) ≡ false → Joined g u (corner_of p)
        from_y e =
            onward (record { x = f; y = u.y; z = f }) (corner_of p)
            (onward (record u { x = f }) (record { x = f; y = u.y; z = f })
            (to_first Top true p (place_in ps row p u.x) u (inside Y, e, inside X) (place_is ps row p u.x (inside X)))
            (to_first Side false p (place_in ps row p u.z) (record u { x = f }) (inside Y, e, inside Z) (place_is ps row p u.z (inside Z))))
            (to_first Top false p (place_in ps row p u.y) (record { x = f; y = u.y; z = f }) (first_covered p member, first_solid p, inside Y) (place_is ps row p u.y (inside Y)))

        from_z : hole p.kind (place_in ps row p u.z) ≡ false → Joined g u (corner_of p)
        from_z e =
            onward (record { x = f; y = f; z = u.z }) (corner_of p)
            (onward (record u { x = f }) (record { x = f; y = f; z = u.z })
            (to_first Front true p (place_in ps row p u.x) u (inside Z, e, inside X) (place_is ps row p u.x (inside X)))
            (to_first Side true p (place_in ps row p u.y) (record u { x = f }) (inside Z, e, inside Y) (place_is ps row p u.y (inside Y))))
            (to_first Front false p (place_in ps row p u.z) (record { x = f; y = f; z = u.z }) (first_covered p member, first_solid p, inside Z) (place_is ps row p u.z (inside Z)))

    -- so all of them are joined
    pub full_joined : (p : Cube) (u w : Cell) → IsIn ps row p u → IsIn ps row p w → is_void p.kind (cubelet_in ps row p u) ≡ false
        → is_void p.kind (cubelet_in ps row p w) ≡ false → Joined g u w
    full_joined p u w inside inside_too solid solid_too =
        reaches-onward (Passes (IsVirtual g)) u (corner_of p) w (to_corner p u inside solid)
        (passages-back (IsVirtual g) w (corner_of p) (to_corner p w inside_too solid_too))
