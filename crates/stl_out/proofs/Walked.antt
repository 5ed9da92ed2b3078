-- What is come to on the walk are all boundary rectangles, in order.
use Rattle.std.proofs.Common.{◌≡◌, ◌⊎◌, inl, inr, Bool, true, false, ℕ, zero, suc, ◌+◌, ◌<◌, List, [], ◌∷◌, ◌++◌, ◌&&◌, ◌||◌, ℤ, pos, ◌<ℤ◌, int_lt, IsTrue, if◌then◌else◌, refl, sym, ◌∙◌, ap, subst, subst₂, arith, append_assoc}
use Rattle.std.specs.List.{flat_map, range_with_len}
use Rattle.std.specs.Ordering.{int_eq}
use Rattle.std.proofs.lemmas.Bool.Decides.{Decides-int_eq, Decides-and, Decides-or}
use Rattle.std.proofs.lemmas.Grind.{flat_map-append}
use Rattle.std.proofs.lemmas.List.{append-nil}
use Rattle.std.proofs.lemmas.Int.{ints}
use Rattle.faces.specs.PlaneFaces.{is_up_first}
use Rattle.faces.specs.PlaneLoops.{is_spot_before}
use Rattle.faces.proofs.PlaneBoundary.{boundary_over}
use Rattle.faces.proofs.PlaneOrder.{order_in_space}
use Rattle.solid_model.specs.declared.cell.Cell.{Cell}
use Rattle.solid_model.specs.declared.face.Out.{Out}
use Rattle.solid_model.specs.declared.face.Out.TheVariants.{MinusX, PlusX, MinusY, PlusY, MinusZ, PlusZ}
use Rattle.solid_model.specs.Faces.{outward, right_axis, up_axis, place, is_boundary, out_number}
use Rattle.lemmas.specs.Lists.{Member, Each, Ascends}
use Rattle.solid_model.specs.Marks.{BoxMarks, is_marked}
use Rattle.solid_model.specs.PerAxis.{numbers_of}
use Rattle.solid_model.specs.Rounds.{Spot}
use Rattle.solid_model.proofs.BoxPlaces.{number_below}
use Rattle.solid_model.proofs.CellOrder.{Decides-int_lt}
use Rattle.lemmas.proofs.Concatenations.{member-flat_map, each-flat_map, ascends-flat_map}
use Rattle.lemmas.proofs.Lists.{each-weaker}
use Rattle.lemmas.proofs.Integers.{natural}
use Rattle.lemmas.proofs.Ranges.{member-range, ascends-range}
use Rattle.stl_out.specs.declared.rectangle.Rectangle.{Rectangle}
use Rattle.stl_out.specs.Rectangles.{AreRectanglesOf, is_boundary_rectangle, square_of, RectangleBefore}
use Rattle.stl_out.specs.Walk.{row_axis, across_rows, square_in, at_square, in_row, in_plane, on_side, on_all_sides}
use Rattle.stl_out.proofs.CellSides.{six_outs, among_six, six_ascend}
use Rattle.stl_out.proofs.RectangleOrder.{earlier-before}

-- ---- one more

range_more : (a n : ℕ) → range_with_len a (suc n) ≡ range_with_len a n ++ (a + n) ∷ []
range_more a zero = ap (λ k. k ∷ []) (let e : a ≡ a + 0 = omega arith in e)
range_more a (suc n) =
    ap (λ ks. a ∷ ks) (range_more (a + 1) n ∙ ap (λ k. range_with_len (a + 1) n ++ k ∷ []) (let e : a + 1 + n ≡ a + suc n = omega arith in e))

-- what a function gives for one number more is put behind
pub one_more : {A : Type 0} (f : ℕ → List A) (before : List A) (n : ℕ)
    → (before ++ flat_map f (range_with_len 0 n)) ++ f n ≡ before ++ flat_map f (range_with_len 0 (n + 1))
one_more f before n =
    append_assoc before (flat_map f (range_with_len 0 n)) (f n)
    ∙ ap (λ xs. before ++ (flat_map f (range_with_len 0 n) ++ xs)) (sym (append-nil (f n)))
    ∙ ap (λ xs. before ++ xs) (sym (flat_map-append f (range_with_len 0 n) (n ∷ [])))
    ∙ ap (λ ks. before ++ flat_map f ks) (ap (λ k. range_with_len 0 n ++ k ∷ []) (let e : n ≡ 0 + n = omega arith in e)
    ∙ sym (range_more 0 n) ∙ ap (range_with_len 0) (let e : suc n ≡ n + 1 = omega arith in e))

-- ---- the rectangles of rows

-- the rectangle at a place of a row
abbrev rectangle_in : Out → ℤ → ℕ → ℕ → Rectangle
rectangle_in out at row place = record { out = out; at = at; right = (square_in out row place).u; up = (square_in out row place).v }

-- a row comes before a later one, and a place before a later one of its row
abbrev IsEarlier : ℕ → ℕ → ℕ → ℕ → Type 0
IsEarlier row place later_row later_place = (row < later_row) ⊎ ((row ≡ later_row) × (place < later_place))

-- so do their squares,
squares_in_order : (out : Out) (j p k q : ℕ) → IsEarlier j p k q → is_spot_before (is_up_first out) (square_in out j p) (square_in out k q) ≡ true
squares_in_order out j p k q earlier = by (is_up_first out)
  where
    numbers : (int_lt (pos j) (pos k) || (int_eq (pos j) (pos k) && int_lt (pos p) (pos q))) ≡ true
    numbers = (Decides-or (int_lt (pos j) (pos k)) (int_eq (pos j) (pos k) && int_lt (pos p) (pos q)) (Decides-int_lt (pos j) (pos k))
        (Decides-and (int_eq (pos j) (pos k)) (int_lt (pos p) (pos q)) (Decides-int_eq (pos j) (pos k)) (Decides-int_lt (pos p) (pos q)))).1
        (elim earlier as (λ _. (pos j <ℤ pos k) ⊎ ((pos j ≡ pos k) × (pos p <ℤ pos q))) [
          | inl l ↦ inl (omega (arith, ints, l))
          | inr l ↦ inr (ap pos l.0, (let m = l.1 in omega (arith, ints, m)))
        ])

    by : (b : Bool) → is_spot_before b (if b then record { u = pos p; v = pos j } else record { u = pos j; v = pos p })
        (if b then record { u = pos q; v = pos k } else record { u = pos k; v = pos q }) ≡ true
    by true = numbers
    by false = numbers

-- and their rectangles
rectangles_in_order : (out : Out) (at : ℤ) (j p k q : ℕ) → IsEarlier j p k q → RectangleBefore (rectangle_in out at j p) (rectangle_in out at k q)
rectangles_in_order out at j p k q earlier = earlier-before (rectangle_in out at j p) (rectangle_in out at k q)
    (inr (refl, inr (refl, sym (order_in_space out at (square_in out j p) (square_in out k q)) ∙ squares_in_order out j p k q earlier)))

-- what stands in a relation member by member stands so list by list
across : {A : Type 0} (P Q : A → Type 0) (R : A → A → Type 0) (xs ys : List A) → Each P xs → Each Q ys → ((x y : A) → P x → Q y → R x y) → Each (λ x. Each (R x) ys) xs
across P Q R xs ys hx hy all = each-weaker P (λ x. Each (R x) ys) xs (λ x p. each-weaker Q (R x) ys (λ y q. all x y p q) hy) hx

module _ (m : BoxMarks) where
  abbrev full : Cell → Bool
  full = is_marked m

  abbrev squares : Out → ℤ → Spot → Bool
  squares out at = is_boundary full out at

  -- the rectangle at a place is there where its square is a boundary square
  abbrev at_place : Out → ℤ → ℕ → ℕ → List Rectangle
  at_place out at row place = at_square (squares out at) out at (square_in out row place)

  abbrev row_of : Out → ℤ → ℕ → List Rectangle
  row_of out at = in_row (squares out at) out at (numbers_of m.sizes (row_axis out))

  -- it is that of a place, and a boundary rectangle
  abbrev IsAt : Out → ℤ → ℕ → ℕ → Rectangle → Type 0
  IsAt out at row place r = (rectangle_in out at row place ≡ r) × IsTrue (is_boundary_rectangle full r)

  each_at : (out : Out) (at : ℤ) (row place : ℕ) → Each (IsAt out at row place) (at_place out at row place)
  each_at out at row place = by (squares out at (square_in out row place)) refl
    where
      by : (b : Bool) → squares out at (square_in out row place) ≡ b → Each (IsAt out at row place) (if b then rectangle_in out at row place ∷ [] else [])
      by true e = ((refl, e), tt)
      by false e = tt

  -- of a row, of a plane, of a side
  abbrev IsInRow : Out → ℤ → ℕ → Rectangle → Type 0
  IsInRow out at row r = (place : ℕ) × IsAt out at row place r

  each_in_row : (out : Out) (at : ℤ) (row : ℕ) → Each (IsInRow out at row) (row_of out at row)
  each_in_row out at row = each-flat_map (IsInRow out at row) (at_place out at row) (range_with_len 0 (numbers_of m.sizes (row_axis out)))
      (λ place on. each-weaker (IsAt out at row place) (IsInRow out at row) (at_place out at row place) (λ r is. (place, is)) (each_at out at row place))

  abbrev IsInPlane : Out → ℕ → Rectangle → Type 0
  IsInPlane out at r = (row : ℕ) × IsInRow out (pos at) row r

  each_in_plane : (out : Out) (at : ℕ) → Each (IsInPlane out at) (in_plane m out at)
  each_in_plane out at = each-flat_map (IsInPlane out at) (row_of out (pos at)) (range_with_len 0 (numbers_of m.sizes (across_rows out)))
      (λ row on. each-weaker (IsInRow out (pos at) row) (IsInPlane out at) (row_of out (pos at) row) (λ r is. (row, is)) (each_in_row out (pos at) row))

  abbrev IsOnSide : Out → Rectangle → Type 0
  IsOnSide out r = (at : ℕ) × IsInPlane out at r

  each_on_side : (out : Out) → Each (IsOnSide out) (on_side m out)
  each_on_side out = each-flat_map (IsOnSide out) (in_plane m out) (range_with_len 0 (numbers_of m.sizes (outward out).axis + 1))
      (λ at on. each-weaker (IsInPlane out at) (IsOnSide out) (in_plane m out at) (λ r is. (at, is)) (each_in_plane out at))

  -- ---- in order

  place_ascends : (out : Out) (at : ℤ) (row place : ℕ) → Ascends RectangleBefore (at_place out at row place)
  place_ascends out at row place = by (squares out at (square_in out row place))
    where
      by : (b : Bool) → Ascends RectangleBefore (if b then rectangle_in out at row place ∷ [] else [])
      by true = (tt, tt)
      by false = tt

  row_ascends : (out : Out) (at : ℤ) (row : ℕ) → Ascends RectangleBefore (row_of out at row)
  row_ascends out at row = ascends-flat_map ◌<◌ RectangleBefore (at_place out at row) (range_with_len 0 (numbers_of m.sizes (row_axis out)))
      (ascends-range (numbers_of m.sizes (row_axis out)) 0) (place_ascends out at row)
      (λ p q l. across (IsAt out at row p) (IsAt out at row q) RectangleBefore (at_place out at row p) (at_place out at row q) (each_at out at row p) (each_at out at row q)
      (λ r s is so. subst₂ RectangleBefore is.0 so.0 (rectangles_in_order out at row p row q (inr (refl, l)))))

  plane_ascends : (out : Out) (at : ℕ) → Ascends RectangleBefore (in_plane m out at)
  plane_ascends out at = ascends-flat_map ◌<◌ RectangleBefore (row_of out (pos at)) (range_with_len 0 (numbers_of m.sizes (across_rows out)))
      (ascends-range (numbers_of m.sizes (across_rows out)) 0) (row_ascends out (pos at))
      (λ j k l. across (IsInRow out (pos at) j) (IsInRow out (pos at) k) RectangleBefore (row_of out (pos at) j) (row_of out (pos at) k)
      (each_in_row out (pos at) j) (each_in_row out (pos at) k)
      (λ r s (p, is) (q, so). subst₂ RectangleBefore is.0 so.0 (rectangles_in_order out (pos at) j p k q (inl l))))

  by_plane : (out : Out) (at later j p k q : ℕ) → at < later → RectangleBefore (rectangle_in out (pos at) j p) (rectangle_in out (pos later) k q)
  by_plane out at later j p k q l = earlier-before (rectangle_in out (pos at) j p) (rectangle_in out (pos later) k q) (inr (refl, inl (omega (arith, ints, l))))

  side_ascends : (out : Out) → Ascends RectangleBefore (on_side m out)
  side_ascends out = ascends-flat_map ◌<◌ RectangleBefore (in_plane m out) (range_with_len 0 (numbers_of m.sizes (outward out).axis + 1))
      (ascends-range (numbers_of m.sizes (outward out).axis + 1) 0) (plane_ascends out)
      (λ a b l. across (IsInPlane out a) (IsInPlane out b) RectangleBefore (in_plane m out a) (in_plane m out b) (each_in_plane out a) (each_in_plane out b)
      (λ r s (j, (p, is)) (k, (q, so)). subst₂ RectangleBefore is.0 so.0 (by_plane out a b j p k q l)))

  by_side : (o p : Out) (r s : Rectangle) → out_number o < out_number p → IsOnSide o r → IsOnSide p s → RectangleBefore r s
  by_side o p r s l (at, (j, (i, is))) (bt, (k, (q, so))) = earlier-before r s (inl
      (let e = ap (λ (t : Rectangle). out_number t.out) is.0 in let f = ap (λ (t : Rectangle). out_number t.out) so.0 in omega arith))

  all_ascend : Ascends RectangleBefore (on_all_sides m)
  all_ascend = ascends-flat_map (λ o p. out_number o < out_number p) RectangleBefore (on_side m) six_outs six_ascend side_ascends
      (λ o p l. across (IsOnSide o) (IsOnSide p) RectangleBefore (on_side m o) (on_side m p) (each_on_side o) (each_on_side p) (λ r s is so. by_side o p r s l is so))

  -- ---- and all of them

  place_is_there : (out : Out) (at : ℤ) (row place : ℕ) → squares out at (square_in out row place) ≡ true → Member (at_place out at row place) (rectangle_in out at row place)
  place_is_there out at row place is = subst (λ b. Member (if b then rectangle_in out at row place ∷ [] else []) (rectangle_in out at row place)) (sym is) (inl refl)

  there : (out : Out) (at row place : ℕ) → at < numbers_of m.sizes (outward out).axis + 1 → row < numbers_of m.sizes (across_rows out)
      → place < numbers_of m.sizes (row_axis out) → squares out (pos at) (square_in out row place) ≡ true → Member (on_all_sides m) (rectangle_in out (pos at) row place)
  there out at row place in_at in_row in_place is =
      let r = rectangle_in out (pos at) row place in
      let rows = numbers_of m.sizes (across_rows out) in
      let count = numbers_of m.sizes (row_axis out) in
      let planes = numbers_of m.sizes (outward out).axis + 1 in
      member-flat_map (on_side m) six_outs out r (among_six out)
      (member-flat_map (in_plane m out) (range_with_len 0 planes) at r (member-range planes 0 at (omega arith) (omega arith))
      (member-flat_map (row_of out (pos at)) (range_with_len 0 rows) row r (member-range rows 0 row (omega arith) (omega arith))
      (member-flat_map (at_place out (pos at) row) (range_with_len 0 count) place r (member-range count 0 place (omega arith) (omega arith))
      (place_is_there out (pos at) row place is))))

  there_by_numbers : (out : Out) (at i j : ℕ) → at < numbers_of m.sizes (outward out).axis + 1 → i < numbers_of m.sizes (right_axis out)
      → j < numbers_of m.sizes (up_axis out) → squares out (pos at) (record { u = pos i; v = pos j }) ≡ true
      → Member (on_all_sides m) (record { out = out; at = pos at; right = pos i; up = pos j })
  there_by_numbers MinusX at i j plane right up is = there MinusX at i j plane right up is
  there_by_numbers PlusX at i j plane right up is = there PlusX at j i plane up right is
  there_by_numbers MinusY at i j plane right up is = there MinusY at j i plane up right is
  there_by_numbers PlusY at i j plane right up is = there PlusY at i j plane right up is
  there_by_numbers MinusZ at i j plane right up is = there MinusZ at i j plane right up is
  there_by_numbers PlusZ at i j plane right up is = there PlusZ at j i plane up right is

  complete : (r : Rectangle) → is_boundary_rectangle full r ≡ true → Member (on_all_sides m) r
  complete r is =
      let over = boundary_over m r.out r.at (square_of r) is in
      let u = number_below (numbers_of m.sizes (right_axis r.out)) r.right over.u in
      let v = number_below (numbers_of m.sizes (up_axis r.out)) r.up over.v in
      let (at, at_is) = natural r.at over.plane.low in
      let high : at < numbers_of m.sizes (outward r.out).axis + 1 = (let h = over.plane.high in omega (arith, ints, h, at_is)) in
      let same : r ≡ record { out = r.out; at = pos at; right = pos u.number; up = pos v.number } =
      (λ t. record { out = r.out; at = sym at_is t; right = u.is t; up = v.is t }) in
      subst (Member (on_all_sides m)) (sym same)
      (there_by_numbers r.out at u.number v.number high u.less v.less (sym (ap (is_boundary_rectangle full) same) ∙ is))

  pub all_rectangles : AreRectanglesOf full (on_all_sides m)
  all_rectangles = record {
    each = each-flat_map (λ r. IsTrue (is_boundary_rectangle full r)) (on_side m) six_outs
        (λ out on. each-weaker (IsOnSide out) (λ r. IsTrue (is_boundary_rectangle full r)) (on_side m out) (λ r (at, (row, (place, is))). is.1) (each_on_side out));
    ordered = all_ascend;
    complete = complete;
  }
