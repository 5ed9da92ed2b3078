-- The faces of a plane that no chain leads out of are the virtual ones.
use Rattle.std.proofs.Common.{◌≡◌, ◌<◌, Bool, true, false, not, ◌&&◌, ◌||◌, if◌then◌else◌, suc, pos, ◌-ℤ◌, length, map, get_or, IsTrue, refl, ap, sym, subst, ◌∙◌, arith}
use Rattle.std.proofs.lemmas.Bool.{false≢true}
use Rattle.std.proofs.lemmas.Int.{ints}
use Rattle.std.proofs.lemmas.List.{get_or-map}
use Rattle.solid_model.specs.declared.cell.Axis.{Axis}
use Rattle.solid_model.specs.declared.cell.Axis.TheVariants.{X, Y, Z}
use Rattle.solid_model.specs.declared.cell.Cell.{Cell}
use Rattle.solid_model.specs.Cells.{coordinate, cell_before}
use Rattle.solid_model.specs.Marks.{BoxMarks, AxisMarks, marks_along, is_marked, AreMarksOf}
use Rattle.solid_model.specs.Panels.{GridParts}
use Rattle.solid_model.specs.PerAxis.{numbers_of}
use Rattle.solid_model.specs.WalledBoxes.{Sizes, same_axis, is_below, is_within, box_place, box_count, face_sizes, Walls, LeadsOut}
use Rattle.solid_model.specs.Kept.{edge_sizes, IsWireOf}
use Rattle.solid_model.specs.VirtualFaces.{axis_across_both, Bars, IsVirtual}
use Rattle.solid_model.specs.Wire.{is_pseudo_edge}
use Rattle.solid_model.specs.GridBox.{grid_sizes}
use Rattle.solid_model.proofs.BoxCells.{below-bounds, bounds-below, within-below, below-within}
use Rattle.solid_model.proofs.BoxPlaces.{cell_there}
use Rattle.flood.specs.Ring.{touches_box}
use Rattle.flood.proofs.LeadingOut.{leads_out-past_fewer}

-- ---- the edges between the faces of a plane

-- a face of a box's cells has a number that is one of all its faces
touching-within : (sizes : Sizes) (b : Axis) (n : Cell) → touches_box sizes b n ≡ true → is_within (face_sizes sizes b) n ≡ true
touching-within sizes b n touches = below-within (face_sizes sizes b) n (λ c. by (is_within sizes n) refl c)
  where
    -- a number of the box, or one more
    own : (d c : Axis) → is_within sizes n ≡ true → is_below (face_sizes sizes d c) (coordinate c n) ≡ true
    own d c within = at (same_axis d c)
      where
        at : (s : Bool) → is_below (if s then suc (sizes c) else sizes c) (coordinate c n) ≡ true
        at true = let h = below-bounds (sizes c) (coordinate c n) (within-below sizes n within c) in bounds-below (suc (sizes c)) (coordinate c n) h.0 (omega (arith, ints))
        at false = within-below sizes n within c

    behind : (d c : Axis) → is_below (sizes c) (coordinate c (cell_before d n)) ≡ true → is_below (face_sizes sizes d c) (coordinate c n) ≡ true
    behind X X below = let h = below-bounds (sizes X) (n.x -ℤ pos 1) below in bounds-below (suc (sizes X)) n.x (omega (arith, ints)) (omega (arith, ints))
    behind X Y below = below
    behind X Z below = below
    behind Y X below = below
    behind Y Y below = let h = below-bounds (sizes Y) (n.y -ℤ pos 1) below in bounds-below (suc (sizes Y)) n.y (omega (arith, ints)) (omega (arith, ints))
    behind Y Z below = below
    behind Z X below = below
    behind Z Y below = below
    behind Z Z below = let h = below-bounds (sizes Z) (n.z -ℤ pos 1) below in bounds-below (suc (sizes Z)) n.z (omega (arith, ints)) (omega (arith, ints))

    by : (t : Bool) → is_within sizes n ≡ t → (c : Axis) → is_below (face_sizes sizes b c) (coordinate c n) ≡ true
    by true e c = own b c e
    by false e c =
        let before : is_within sizes (cell_before b n) ≡ true = sym (ap (λ (x : Bool). x || is_within sizes (cell_before b n)) e) ∙ touches in
        behind b c (within-below sizes (cell_before b n) before c)

-- the faces between the faces across an axis are the edges across both
faces_of_faces : (sizes : Sizes) (a b : Axis) → same_axis a b ≡ false → (c : Axis) → face_sizes (face_sizes sizes a) b c ≡ edge_sizes sizes (axis_across_both a b) c
faces_of_faces sizes X X e c = absurd (false≢true (sym e))
faces_of_faces sizes X Y e X = refl
faces_of_faces sizes X Y e Y = refl
faces_of_faces sizes X Y e Z = refl
faces_of_faces sizes X Z e X = refl
faces_of_faces sizes X Z e Y = refl
faces_of_faces sizes X Z e Z = refl
faces_of_faces sizes Y X e X = refl
faces_of_faces sizes Y X e Y = refl
faces_of_faces sizes Y X e Z = refl
faces_of_faces sizes Y Y e c = absurd (false≢true (sym e))
faces_of_faces sizes Y Z e X = refl
faces_of_faces sizes Y Z e Y = refl
faces_of_faces sizes Y Z e Z = refl
faces_of_faces sizes Z X e X = refl
faces_of_faces sizes Z X e Y = refl
faces_of_faces sizes Z X e Z = refl
faces_of_faces sizes Z Y e X = refl
faces_of_faces sizes Z Y e Y = refl
faces_of_faces sizes Z Y e Z = refl
faces_of_faces sizes Z Z e c = absurd (false≢true (sym e))

module _ (g : GridParts) (wire : AxisMarks) (is_wire : IsWireOf g wire) (a : Axis) where
  abbrev faces : Sizes
  faces = face_sizes (grid_sizes g) a

  -- what is marked between them, and between the planes
  abbrev Marked : Walls
  Marked b n = IsTrue (same_axis a b || is_marked (marks_along (axis_across_both a b) wire) n)

  -- where a wall stands between faces of the plane, it is marked, and the other way round
  agree : (b : Axis) (n : Cell) → touches_box faces b n ≡ true → (Marked b n → Bars g a b n) × (Bars g a b n → Marked b n)
  agree b n touches = by (same_axis a b) refl
    where
      by : (s : Bool) → same_axis a b ≡ s
          → (IsTrue (s || is_marked (marks_along (axis_across_both a b) wire) n) → IsTrue (s || is_pseudo_edge g (axis_across_both a b) n))
          × (IsTrue (s || is_pseudo_edge g (axis_across_both a b) n) → IsTrue (s || is_marked (marks_along (axis_across_both a b) wire) n))
      by true e = (λ x. x, λ x. x)
      by false e = (is_wire (axis_across_both a b)).exact n
          (sym (λ t. is_within (λ c. faces_of_faces (grid_sizes g) a b e c t) n) ∙ touching-within faces b n touches)

  -- so the faces that no chain leads out of are the virtual ones
  pub enclosed_virtual : (leading marks : BoxMarks) → AreMarksOf faces (LeadsOut faces Marked) leading
      → AreMarksOf (numbers_of leading.sizes) (λ n. IsTrue (not (is_marked leading n))) marks → AreMarksOf faces (IsVirtual g a) marks
  enclosed_virtual leading marks leads enclosed = record {
    sized = λ b. enclosed.sized b ∙ leads.sized b;
    exact = λ n within.
        let there : is_within (numbers_of leading.sizes) n ≡ true = (λ t. is_within (λ b. leads.sized b t) n) ∙ within in
        let is = enclosed.exact n there in let out = leads.exact n within in (
          λ marked. (within, λ bars. not_both (is_marked leading n) (is.0 marked) (out.1 (leads_out-past_fewer faces (Bars g a) Marked (λ b m t. (agree b m t).0) n bars))),
          λ virtual. is.1 (not_true (is_marked leading n) (λ marked. virtual.1 (leads_out-past_fewer faces Marked (Bars g a) (λ b m t. (agree b m t).1) n (out.0 marked)))),
        );
  }
    where
      not_both : (b : Bool) → not b ≡ true → b ≡ true → ⊥
      not_both true e f = false≢true e
      not_both false e f = false≢true f

      not_true : (b : Bool) → (b ≡ true → ⊥) → not b ≡ true
      not_true true none = absurd (none refl)
      not_true false none = refl

-- ---- the other cells of a box

-- marks that say the contrary stand on the other cells
pub others_marked : (m : BoxMarks) → length m.values ≡ box_count (numbers_of m.sizes)
    → AreMarksOf (numbers_of m.sizes) (λ n. IsTrue (not (is_marked m n))) (record { sizes = m.sizes; values = map not m.values })
others_marked m listed = record {
  sized = λ a. refl;
  exact = λ n within.
      let sizes = numbers_of m.sizes in let place = box_place sizes n in
      let there = subst (λ count. place < count) (sym listed) (cell_there sizes n within) in
      let told : get_or (map not m.values) place false ≡ not (get_or m.values place false) = get_or-map not m.values place false false there in
      let same : (is_within sizes n && get_or (map not m.values) place false) ≡ not (is_within sizes n && get_or m.values place false) =
      (λ t. within t && told t) ∙ (λ t. not (sym within t && get_or m.values place false)) in
      (λ marked. sym same ∙ marked, λ is. same ∙ is);
}
