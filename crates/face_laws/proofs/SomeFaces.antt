-- It can't be that a solid has no list of faces.
use Rattle.std.proofs.Common.{◌≡◌, ◌⊎◌, inl, inr, Bool, ℕ, List, [], ◌∷◌, map, ℤ, pos, ◌+ℤ◌, ◌<ℤ◌, IsTrue, if◌then◌else◌, refl, sym, ◌∙◌, ap, subst, arith}
use Rattle.std.proofs.lemmas.Bool.{cases_lt}
use Rattle.std.proofs.lemmas.Int.{ints}
use Rattle.solid_model.specs.declared.cell.Cell.{Cell}
use Rattle.solid_model.specs.declared.face.Out.{Out}
use Rattle.solid_model.specs.declared.face.Out.TheVariants.{MinusX, PlusX, MinusY, PlusY, MinusZ, PlusZ}
use Rattle.solid_model.specs.Cells.{coordinate, is_full}
use Rattle.solid_model.specs.Faces.{outward, place, inner_cell, is_boundary, IsLoopOf, StartsBefore, AreLoopsOf, FaceParts, IsFaceAt, out_number, first_loop, FaceBefore, AreFacesOf}
use Rattle.lemmas.specs.Lists.{Member}
use Rattle.lemmas.proofs.Integers.{down_and_up}
use Rattle.solid_model.specs.Rounds.{Spot, Side, left_square, is_border, AreJoined}
use Rattle.face_laws.proofs.BoundarySquares.{spot_of, inner_full, boundary_finite}
use Rattle.solid_model.proofs.CellOrder.{one_or_less}
use Rattle.face_laws.proofs.FaceLists.{LiesFirst, Decides-is_face_before, one_list_of_loops}
use Rattle.face_laws.proofs.FacePlaces.{place_keeps}
use Rattle.solid_model.proofs.Fullness.{is_full-member}
use Rattle.face_laws.proofs.GridFaces.{loops_from}
use Rattle.face_laws.proofs.OutwardSides.{one_out}
use Rattle.face_laws.proofs.LeastSides.{KeepsOrder}
use Rattle.face_laws.proofs.ListedLoops.{GoesAlong, listed_complete}
use Rattle.face_laws.proofs.LoopsInOrder.{starts_onward, loops_in_order, side_loop, first_is_loop}
use Rattle.face_laws.proofs.SomeList.{IsListFrom, some_list}
use Rattle.face_laws.proofs.SomeLoop.{all_sides, border_member}

-- ---- the order of faces

-- what lies before a pair lies before whatever that lies before
lies_first_onward : (a b c : ℕ) (x y z : ℤ) (S T U : Type 0) → (S → T → U)
    → LiesFirst a b x y S → LiesFirst b c y z T → LiesFirst a c x z U
lies_first_onward a b c x y z S T U on (inl l) (inl m) = inl (omega arith)
lies_first_onward a b c x y z S T U on (inl l) (inr (f, rest)) = inl (omega arith)
lies_first_onward a b c x y z S T U on (inr (e, rest)) (inl m) = inl (omega arith)
lies_first_onward a b c x y z S T U on (inr (e, inl l)) (inr (f, inl m)) = inr (e ∙ f, inl (omega (arith, ints)))
lies_first_onward a b c x y z S T U on (inr (e, inl l)) (inr (f, inr (g, t))) = inr (e ∙ f, inl (omega (arith, ints)))
lies_first_onward a b c x y z S T U on (inr (e, inr (g, s))) (inr (f, inl m)) = inr (e ∙ f, inl (omega (arith, ints)))
lies_first_onward a b c x y z S T U on (inr (e, inr (g, s))) (inr (f, inr (h, t))) = inr (e ∙ f, inr (g ∙ h, on s t))

-- a face that comes before another comes before whatever that comes before
face_onward : (f g h : FaceParts) → FaceBefore f g → FaceBefore g h → FaceBefore f h
face_onward f g h k l =
    let starts = λ (e : FaceParts). first_loop e.loops in
    (Decides-is_face_before f h).1 (lies_first_onward (out_number f.out) (out_number g.out) (out_number h.out) f.at g.at h.at
    (StartsBefore (starts f) (starts g)) (StartsBefore (starts g) (starts h)) (StartsBefore (starts f) (starts h))
    (starts_onward (starts f) (starts g) (starts h)) ((Decides-is_face_before f g).0 k) ((Decides-is_face_before g h).0 l))

-- of two pairs one lies before the other, where those with the same numbers are in order
lies_in_order : (a b : ℕ) (x y : ℤ) (Same S T : Type 0) → (a ≡ b → x ≡ y → Same ⊎ (S ⊎ T))
    → Same ⊎ (LiesFirst a b x y S ⊎ LiesFirst b a y x T)
lies_in_order a b x y Same S T alike = elim (cases_lt a b) as (λ _. Same ⊎ (LiesFirst a b x y S ⊎ LiesFirst b a y x T)) [
  | inl less ↦ inr (inl (inl less))
  | inr least ↦ elim (cases_lt b a) as (λ _. Same ⊎ (LiesFirst a b x y S ⊎ LiesFirst b a y x T)) [
    | inl less ↦ inr (inr (inl less))
    | inr most ↦ (let e : a ≡ b = omega arith in by e (one_or_less x y))
  ]
]
  where
    last : a ≡ b → x ≡ y → Same ⊎ (S ⊎ T) → Same ⊎ (LiesFirst a b x y S ⊎ LiesFirst b a y x T)
    last e f (inl same) = inl same
    last e f (inr (inl s)) = inr (inl (inr (e, inr (f, s))))
    last e f (inr (inr t)) = inr (inr (inr (sym e, inr (sym f, t))))

    by : a ≡ b → (x ≡ y) ⊎ ((x <ℤ y) ⊎ (y <ℤ x)) → Same ⊎ (LiesFirst a b x y S ⊎ LiesFirst b a y x T)
    by e (inl f) = last e f (alike e f)
    by e (inr (inl l)) = inr (inl (inr (e, inl l)))
    by e (inr (inr l)) = inr (inr (inr (sym e, inl l)))

-- ---- the sides of cells

-- a square of a plane, seen from outside
record Square : Type 0 where
  out : Out
  at : ℤ
  spot : Spot

-- the square that is the side of a cell
abbrev square_of : Out → Cell → Square
square_of out c = record {
  out = out;
  at = if (outward out).forward then coordinate (outward out).axis c +ℤ pos 1 else coordinate (outward out).axis c;
  spot = spot_of out c;
}

square_of-inner : (out : Out) (at : ℤ) (p : Spot) → square_of out (inner_cell out at p) ≡ record { out = out; at = at; spot = p }
square_of-inner MinusX at p = refl
square_of-inner PlusX at p = λ i. record { out = PlusX; at = down_and_up at i; spot = p }
square_of-inner MinusY at p = refl
square_of-inner PlusY at p = λ i. record { out = PlusY; at = down_and_up at i; spot = p }
square_of-inner MinusZ at p = refl
square_of-inner PlusZ at p = λ i. record { out = PlusZ; at = down_and_up at i; spot = p }

-- all sides of some cells
abbrev all_squares : List Cell → List Square
all_squares [] = []
all_squares (c ∷ cs) =
    square_of MinusX c ∷ square_of PlusX c ∷ square_of MinusY c ∷ square_of PlusY c ∷ square_of MinusZ c ∷ square_of PlusZ c
    ∷ all_squares cs

square_member : (cs : List Cell) (out : Out) (c : Cell) → Member cs c → Member (all_squares cs) (square_of out c)
square_member [] out c m = absurd m
square_member (b ∷ cs) MinusX c (inl e) = inl (ap (square_of MinusX) e)
square_member (b ∷ cs) PlusX c (inl e) = inr (inl (ap (square_of PlusX) e))
square_member (b ∷ cs) MinusY c (inl e) = inr (inr (inl (ap (square_of MinusY) e)))
square_member (b ∷ cs) PlusY c (inl e) = inr (inr (inr (inl (ap (square_of PlusY) e))))
square_member (b ∷ cs) MinusZ c (inl e) = inr (inr (inr (inr (inl (ap (square_of MinusZ) e)))))
square_member (b ∷ cs) PlusZ c (inl e) = inr (inr (inr (inr (inr (inl (ap (square_of PlusZ) e))))))
square_member (b ∷ cs) out c (inr m) = inr (inr (inr (inr (inr (inr (square_member cs out c m))))))

module _ (s : List Cell) where
  -- a boundary square is the side of a cell of the solid
  boundary_member : (out : Out) (at : ℤ) (q : Spot) → IsTrue (is_boundary (is_full s) out at q)
      → Member (all_squares s) (record { out = out; at = at; spot = q })
  boundary_member out at q is = subst (Member (all_squares s)) (square_of-inner out at q)
      (square_member s out (inner_cell out at q) (is_full-member s (inner_cell out at q) (inner_full (is_full s) out at q is)))

  module _ (out : Out) (at : ℤ) where
    abbrev squares : Spot → Bool
    squares = is_boundary (is_full s) out at

    abbrev there : Spot → Cell
    there = place out at

    abbrev IsLoop : Spot → List Cell → Type 0
    IsLoop = IsLoopOf squares there

    abbrev AreLoops : Spot → List (List Cell) → Type 0
    AreLoops = AreLoopsOf squares there

    abbrev Along : Side → List Cell → Type 0
    Along = GoesAlong squares there

    -- the squares are among these spots
    abbrev spots : List Spot
    spots = map (spot_of out) s

    -- and the sides of their border among these
    abbrev sides : List Side
    sides = all_sides spots

    finite : (p : Spot) → IsTrue (squares p) → Member spots p
    finite = boundary_finite s out at

    keeps : KeepsOrder there
    keeps = place_keeps out at

    -- ---- the loops of a face

    -- It can't be that a face has no list of loops: each side of its border leads to one.
    some_loops : (q : Spot) → ((loops : List (List Cell)) → AreLoops q loops → ⊥) → ⊥
    some_loops q never =
        some_list StartsBefore (IsLoop q) starts_onward in_order Counts Along some sides (λ loops h. never loops (are loops h))
      where
        Counts : Side → Type 0
        Counts r = IsTrue (is_border squares r) × AreJoined squares q (left_square r)

        in_order : (l m : List Cell) → IsLoop q l → IsLoop q m → (l ≡ m) ⊎ (StartsBefore l m ⊎ StartsBefore m l)
        in_order l m is is_too =
            elim (loops_in_order squares there keeps q q l m is is_too) as (λ _. (l ≡ m) ⊎ (StartsBefore l m ⊎ StartsBefore m l)) [
              | inl one ↦ inl one.0
              | inr order ↦ inr order
            ]

        some : (r : Side) → Counts r → ((loop : List Cell) → IsLoop q loop → Along r loop → ⊥) → ⊥
        some r counts none =
            let (loop, is, along) = side_loop squares there keeps spots finite q r counts.0 counts.1 in
            none loop is along

        are : (loops : List (List Cell)) → IsListFrom StartsBefore (IsLoop q) Counts Along sides loops → AreLoops q loops
        are loops h = record {
          each = h.each;
          ordered = h.ordered;
          complete = listed_complete squares out at q loops (λ r border joined.
              h.reached r (border_member squares spots finite r border) (border, joined));
        }

    -- ---- two faces of one plane

    -- one starts before the other, unless they are one
    plane_in_order : (p q : Spot) (ls ms : List (List Cell)) → IsTrue (squares p) → AreLoops p ls
        → IsTrue (squares q) → AreLoops q ms
        → (ls ≡ ms) ⊎ (StartsBefore (first_loop ls) (first_loop ms) ⊎ StartsBefore (first_loop ms) (first_loop ls))
    plane_in_order p q ls ms full are full_too are_too =
        let first = λ (r : Spot) (ns : List (List Cell)). first_is_loop squares there keeps spots finite r ns in
        elim (loops_in_order squares there keeps p q (first_loop ls) (first_loop ms) (first p ls full are) (first q ms full_too are_too))
        as (λ _. (ls ≡ ms) ⊎ (StartsBefore (first_loop ls) (first_loop ms) ⊎ StartsBefore (first_loop ms) (first_loop ls))) [
          | inl one ↦ inl (one_list_of_loops squares there p ls ms are (loops_from squares there p q one.1 ms are_too))
          | inr order ↦ inr order
        ]

  -- ---- the faces of the solid

  -- the face of some square
  abbrev IsSomeFace : FaceParts → Type 0
  IsSomeFace f = (q : Spot) × IsFaceAt (is_full s) q f

  -- of two faces one comes before the other, unless they are one
  faces_in_order : (f g : FaceParts) → IsSomeFace f → IsSomeFace g → (f ≡ g) ⊎ (FaceBefore f g ⊎ FaceBefore g f)
  faces_in_order f g (p, (full, are)) (q, (full_too, are_too)) =
      told (lies_in_order (out_number f.out) (out_number g.out) f.at g.at (f ≡ g) Before After
      (λ e at. in_plane (one_out f.out g.out e) at))
    where
      Before : Type 0
      Before = StartsBefore (first_loop f.loops) (first_loop g.loops)

      After : Type 0
      After = StartsBefore (first_loop g.loops) (first_loop f.loops)

      in_plane : f.out ≡ g.out → f.at ≡ g.at → (f ≡ g) ⊎ (Before ⊎ After)
      in_plane out at =
          let there = subst (λ (x : Out × ℤ). IsFaceAt (is_full s) q (record { out = x.0; at = x.1; loops = g.loops }))
          (λ i. (sym out i, sym at i)) (full_too, are_too) in
          elim (plane_in_order f.out f.at p q f.loops g.loops full are there.0 there.1) as (λ _. (f ≡ g) ⊎ (Before ⊎ After)) [
            | inl same ↦ inl (λ i. record { out = out i; at = at i; loops = same i })
            | inr order ↦ inr order
          ]

      told : (f ≡ g) ⊎ (LiesFirst (out_number f.out) (out_number g.out) f.at g.at Before
          ⊎ LiesFirst (out_number g.out) (out_number f.out) g.at f.at After)
          → (f ≡ g) ⊎ (FaceBefore f g ⊎ FaceBefore g f)
      told (inl same) = inl same
      told (inr (inl first)) = inr (inl ((Decides-is_face_before f g).1 first))
      told (inr (inr later)) = inr (inr ((Decides-is_face_before g f).1 later))

  -- a boundary square, and its face
  abbrev IsBoundary : Square → Type 0
  IsBoundary c = IsTrue (is_boundary (is_full s) c.out c.at c.spot)

  abbrev IsFaceOf : Square → FaceParts → Type 0
  IsFaceOf c f = (f.out ≡ c.out) × (f.at ≡ c.at) × IsFaceAt (is_full s) c.spot f

  -- it can't be that it has none
  some_face : (c : Square) → IsBoundary c → ((f : FaceParts) → IsSomeFace f → IsFaceOf c f → ⊥) → ⊥
  some_face c is none = some_loops c.out c.at c.spot (λ loops are.
      none (record { out = c.out; at = c.at; loops = loops }) (c.spot, (is, are)) (refl, refl, (is, are)))

  -- It can't be that the solid has no list of faces.
  pub some_faces : ((faces : List FaceParts) → AreFacesOf (is_full s) faces → ⊥) → ⊥
  some_faces never =
      some_list FaceBefore IsSomeFace face_onward faces_in_order IsBoundary IsFaceOf some_face (all_squares s) (λ faces h.
      never faces (record {
        each = h.each;
        ordered = h.ordered;
        complete = λ out at q is.
            let c : Square = record { out = out; at = at; spot = q } in
            let (f, among, (same_out, same_at, face)) = h.reached c (boundary_member out at q is) is in
            (f, among, same_out, same_at, face);
      }))
