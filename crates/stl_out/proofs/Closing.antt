-- The triangles close. The rectangles on the six sides of all full cells have each directed edge as often as its reverse. Those
-- between two full cells come in pairs, one on each side of a face, that are gone round in opposite senses: so they have it as
-- often too, and the boundary rectangles are the others.
use Rattle.std.proofs.Common.{◌≡◌, ◌≢◌, Bool, true, not, ◌+◌, ◌≤◌, ◌<◌, List, [], ◌∷◌, map, filter, refl, sym, ◌∙◌, ap, ap₂, subst, arith}
use Rattle.std.specs.List.{flat_map, sum_by}
use Rattle.std.proofs.lemmas.Bool.{and_parts, and_from}
use Rattle.std.proofs.lemmas.List.Filters.{sum_by-filter_both}
use Rattle.std.proofs.lemmas.List.Sums.{sum_by-cons, sum_by-append}
use Rattle.face_laws.specs.GridFaces.{Planes}
use Rattle.solid_model.specs.declared.cell.Cell.{Cell}
use Rattle.solid_model.specs.Faces.{out_number}
use Rattle.lemmas.specs.Lists.{Member, Each, Ascends}
use Rattle.solid_model.specs.Orders.{ComesBefore}
use Rattle.solid_model.proofs.CellOrder.{stated_form, not_before_itself}
use Rattle.lemmas.proofs.Concatenations.{member-flat_map, member-from_flat_map, ascends-flat_map}
use Rattle.solid_model.proofs.Fullness.{member-is_full, is_full-member}
use Rattle.lemmas.proofs.Lists.{IsWithin, member-map, member-from_map, member-filter, member-from_filter, each-at, each-from, ascends-filter, ascends-map}
use Rattle.stl_out.specs.declared.rectangle.Rectangle.{Rectangle}
use Rattle.stl_out.specs.Closed.{DirectedEdge, reverse, occurrences}
use Rattle.stl_out.specs.Rectangles.{AreRectanglesOf, is_boundary_rectangle, all_triangles}
use Rattle.stl_out.proofs.CellSides.{inner_of, outer_of, side_of, inner-side, side-inner, six_outs, among_six, six_ascend, flipped, inner-flipped, outer-flipped, flipped-twice}
use Rattle.stl_out.proofs.EdgeCounts.{in_rectangle, occurrences-sum, edge-flipped, sides_of, cell-closes}
use Rattle.stl_out.proofs.RectangleOrder.{rectangles_once}
use Rattle.lemmas.proofs.WithoutRepeats.{ascends-weaker, no_more, same_sum}

-- ---- the sides of cells

-- the sides of some cells, cell by cell
abbrev sides_of_all : List Cell → List Rectangle
sides_of_all cs = flat_map sides_of cs

-- close
all_sides_close : (planes : Planes) (e : DirectedEdge) (cs : List Cell)
    → sum_by (in_rectangle planes e) (sides_of_all cs) ≡ sum_by (in_rectangle planes (reverse e)) (sides_of_all cs)
all_sides_close planes e [] = refl
all_sides_close planes e (c ∷ cs) =
    sum_by-append (in_rectangle planes e) (sides_of c) (sides_of_all cs)
    ∙ ap₂ ◌+◌ (cell-closes planes e c) (all_sides_close planes e cs)
    ∙ sym (sum_by-append (in_rectangle planes (reverse e)) (sides_of c) (sides_of_all cs))

-- a rectangle is among them where the cell inwards of it is among the cells
member-sides : (cs : List Cell) (r : Rectangle) → Member cs (inner_of r) → Member (sides_of_all cs) r
member-sides cs r k = member-flat_map sides_of cs (inner_of r) r k
    (subst (Member (sides_of (inner_of r))) (side-inner r) (member-map (side_of (inner_of r)) six_outs r.out (among_six r.out)))

of_cell : (c : Cell) (r : Rectangle) → Member (sides_of c) r → inner_of r ≡ c
of_cell c r k = let (out, on, e) = member-from_map (side_of c) six_outs r k in ap inner_of (sym e) ∙ inner-side c out

member-from_sides : (cs : List Cell) (r : Rectangle) → Member (sides_of_all cs) r → Member cs (inner_of r)
member-from_sides cs r k =
    let (c, on, m) = member-from_flat_map sides_of cs r k in
    subst (Member cs) (sym (of_cell c r m)) on

-- no two of them are one
sides_once : (cs : List Cell) → Ascends ◌≢◌ cs → Ascends ◌≢◌ (sides_of_all cs)
sides_once cs once = ascends-flat_map ◌≢◌ ◌≢◌ sides_of cs once
    (λ c. ascends-map (side_of c) (λ o p. out_number o < out_number p) ◌≢◌ six_outs
    (λ o p l e. let same : out_number o ≡ out_number p = ap (λ (r : Rectangle). out_number r.out) e in omega arith) six_ascend)
    (λ c d differ. each-from (λ r. Each (λ s. r ≢ s) (sides_of d)) (sides_of c) (λ r in_c. each-from (λ s. r ≢ s) (sides_of d) (λ s in_d e.
    differ (sym (of_cell c r in_c) ∙ ap inner_of e ∙ of_cell d s in_d))))

-- ---- the boundary

module _ (planes : Planes) (full : Cell → Bool) (list : List Cell) (finite : (n : Cell) → full n ≡ true → Member list n) where
  -- the full cells, each once
  abbrev cells : List Cell
  cells = filter full (stated_form list).0

  cells_once : Ascends ◌≢◌ cells
  cells_once = ascends-filter full ◌≢◌ (stated_form list).0
      (ascends-weaker ComesBefore ◌≢◌ (stated_form list).0 (λ c d l e. not_before_itself d (subst (λ b. ComesBefore b d) e l)) (stated_form list).1)

  full_cell : (c : Cell) → full c ≡ true → Member cells c
  full_cell c is =
      let (t, stated, same) = stated_form list in
      member-filter full t c (is_full-member t c (sym (same c) ∙ member-is_full list c (finite c is))) is

  -- the rectangles with a full cell inwards, those with a full one outwards too, and those with an empty one
  abbrev outward_of_full : List Rectangle
  outward_of_full = sides_of_all cells

  abbrev is_within : Rectangle → Bool
  is_within r = full (outer_of r)

  abbrev within : List Rectangle
  within = filter is_within outward_of_full

  abbrev between : List Rectangle
  between = filter (λ r. not (is_within r)) outward_of_full

  within_once : Ascends ◌≢◌ within
  within_once = ascends-filter is_within ◌≢◌ outward_of_full (sides_once cells cells_once)

  -- the former come in pairs
  flipped_within : (r : Rectangle) → Member within r → Member within (flipped r)
  flipped_within r k =
      let (on, outside) = member-from_filter is_within outward_of_full r k in
      let inside = (member-from_filter full (stated_form list).0 (inner_of r) (member-from_sides cells r on)).1 in
      member-filter is_within outward_of_full (flipped r)
      (member-sides cells (flipped r) (subst (Member cells) (sym (inner-flipped r)) (full_cell (outer_of r) outside)))
      (ap full (outer-flipped r) ∙ inside)

  no_more_within : (e : DirectedEdge) → sum_by (in_rectangle planes e) within ≤ sum_by (in_rectangle planes (reverse e)) within
  no_more_within e =
      let less = no_more (in_rectangle planes e) within (map flipped within) within_once
      (λ r k. subst (Member (map flipped within)) (flipped-twice r) (member-map flipped within (flipped r) (flipped_within r k))) in
      let same = mapped within in
      omega (arith, less, same)
    where
      mapped : (rs : List Rectangle) → sum_by (in_rectangle planes e) (map flipped rs) ≡ sum_by (in_rectangle planes (reverse e)) rs
      mapped [] = refl
      mapped (r ∷ rs) =
          sum_by-cons (in_rectangle planes e) (flipped r) (map flipped rs)
          ∙ ap₂ ◌+◌ (sym (edge-flipped planes e (flipped r)) ∙ ap (in_rectangle planes (reverse e)) (flipped-twice r)) (mapped rs)
          ∙ sym (sum_by-cons (in_rectangle planes (reverse e)) r rs)

  within_closes : (e : DirectedEdge) → sum_by (in_rectangle planes e) within ≡ sum_by (in_rectangle planes (reverse e)) within
  within_closes e =
      let there = no_more_within e in
      let back = no_more_within (reverse e) in
      omega (arith, there, back)

  -- so the latter close
  between_closes : (e : DirectedEdge) → sum_by (in_rectangle planes e) between ≡ sum_by (in_rectangle planes (reverse e)) between
  between_closes e =
      let all = all_sides_close planes e cells in
      let parts = sum_by-filter_both is_within (λ r. not (is_within r)) (λ r. refl) (in_rectangle planes e) outward_of_full in
      let reversed = sum_by-filter_both is_within (λ r. not (is_within r)) (λ r. refl) (in_rectangle planes (reverse e)) outward_of_full in
      let inside = within_closes e in
      omega (arith, all, parts, reversed, inside)

  -- and they are the boundary rectangles
  module _ (rs : List Rectangle) (are : AreRectanglesOf full rs) where
    boundary_between : IsWithin rs between
    boundary_between r k =
        let is = and_parts (full (inner_of r)) (not (full (outer_of r))) (each-at (λ s. is_boundary_rectangle full s ≡ true) rs r are.each k) in
        member-filter (λ s. not (is_within s)) outward_of_full r (member-sides cells r (full_cell (inner_of r) is.0)) is.1

    between_boundary : IsWithin between rs
    between_boundary r k =
        let (on, outside) = member-from_filter (λ s. not (is_within s)) outward_of_full r k in
        let inside = (member-from_filter full (stated_form list).0 (inner_of r) (member-from_sides cells r on)).1 in
        are.complete r (and_from (full (inner_of r)) (not (full (outer_of r))) inside outside)

    sum_is : (e : DirectedEdge) → sum_by (in_rectangle planes e) rs ≡ sum_by (in_rectangle planes e) between
    sum_is e = same_sum (in_rectangle planes e) rs between (rectangles_once full rs are)
        (ascends-filter (λ s. not (is_within s)) ◌≢◌ outward_of_full (sides_once cells cells_once)) boundary_between between_boundary

    pub closes : (e : DirectedEdge) → occurrences e (all_triangles planes rs) ≡ occurrences (reverse e) (all_triangles planes rs)
    closes e =
        occurrences-sum planes e rs ∙ sum_is e ∙ between_closes e ∙ sym (sum_is (reverse e)) ∙ sym (occurrences-sum planes (reverse e) rs)
