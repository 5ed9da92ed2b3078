-- What is seen of pierced plates from above.
use Rattle.std.proofs.Common.{◌≡◌, ◌⊎◌, inl, inr, Bool, true, false, not, ◌&&◌, ◌||◌, ℕ, zero, suc, ◌<◌, List, [], ◌∷◌, map, ℤ, pos, negsuc, ◌<ℤ◌, int_lt, IsTrue, refl, sym, ◌∙◌, ap, subst, arith}
use Rattle.std.specs.Prelude.{int_le}
use Rattle.std.specs.Ordering.{int_eq}
use Rattle.std.proofs.lemmas.Bool.{false≢true, cases_lt, and_parts}
use Rattle.std.proofs.lemmas.Int.{ints}
use Rattle.solid_model.specs.declared.cell.Cell.{Cell}
use Rattle.solid_model.specs.declared.face.Out.TheVariants.{PlusZ}
use Rattle.solid_model.specs.Cells.{cell_at, same_cell}
use Rattle.solid_model.specs.Faces.{inner_cell, is_boundary, place, BeginsLeast, StartsBefore, AreLoopsOf}
use Rattle.lemmas.specs.Lists.{Member}
use Rattle.solid_model.specs.Rounds.{Spot, Heading, East, North, West, South, Side, left_square, is_border, IsRound, round_sides, round_corners, AreJoined}
use Rattle.face_laws.specs.SmallFaces.{first_square, plate, pierced_plate, pierced_loops, twice_pierced_plate, twice_pierced_loops}
use Rattle.face_laws.proofs.BoundarySquares.{inner_full, border_left}
use Rattle.solid_model.proofs.CellOrder.{Decides-int_lt}
use Rattle.face_laws.proofs.ListedLoops.{GoesAlong, listed_complete}
use Rattle.face_laws.proofs.SameSides.{is_among, Decides-is_among}
use Rattle.face_laws.proofs.SmallLoops.{side_at, round_is, second_joined}
use Rattle.face_laws.proofs.SomeLoop.{side_of, side_of-own}
use Rattle.face_laws.proofs.Turns.{same_spot}

-- a coordinate within a plate is one of its first numbers
within_plate : (z : ℤ) (wide : ℕ) → (int_le (pos 0) z && int_lt z (pos wide)) ≡ true → (i : ℕ) × (i < wide) × (pos i ≡ z)
within_plate (pos i) wide e =
    let less : pos i <ℤ pos wide = (Decides-int_lt (pos i) (pos wide)).0
    ((and_parts (int_le (pos 0) (pos i)) (int_lt (pos i) (pos wide)) e).1) in
    (i, omega (arith, ints, less), refl)
within_plate (negsuc i) wide e = absurd (false≢true e)

-- the test holds of all numbers below this one
abbrev all_below : (ℕ → Bool) → ℕ → Bool
all_below f zero = true
all_below f (suc n) = f n && all_below f n

all_below-at : (f : ℕ → Bool) (n i : ℕ) → all_below f n ≡ true → i < n → f i ≡ true
all_below-at f zero i e less = absurd (omega arith)
all_below-at f (suc n) i e less = elim (cases_lt i n) as (λ _. f i ≡ true) [
  | inl earlier ↦ all_below-at f n i ((and_parts (f n) (all_below f n) e).1) earlier
  | inr later ↦ (let last : n ≡ i = omega (arith, less, later) in ap f (sym last) ∙ (and_parts (f n) (all_below f n) e).0)
]

-- a side that is border is among those of the two rounds
abbrev is_on : (Spot → Bool) → List Side → List Side → Side → Bool
is_on squares one other r = not (is_border squares r) || (is_among one r || is_among other r)

abbrev all_four : (Heading → Bool) → Bool
all_four f = (f East && f North) && (f West && f South)

all_four-at : (f : Heading → Bool) (h : Heading) → all_four f ≡ true → f h ≡ true
all_four-at f East e = (and_parts (f East) (f North) ((and_parts (f East && f North) (f West && f South) e).0)).0
all_four-at f North e = (and_parts (f East) (f North) ((and_parts (f East && f North) (f West && f South) e).0)).1
all_four-at f West e = (and_parts (f West) (f South) ((and_parts (f East && f North) (f West && f South) e).1)).0
all_four-at f South e = (and_parts (f West) (f South) ((and_parts (f East && f North) (f West && f South) e).1)).1

-- all sides of a square are
abbrev square_on : (Spot → Bool) → List Side → List Side → ℕ → ℕ → Bool
square_on squares one other i j = all_four (λ h. is_on squares one other (side_of h (record { u = pos i; v = pos j })))

-- all sides of squares within a plate are
abbrev plate_on : (Spot → Bool) → List Side → List Side → ℕ → Bool
plate_on squares one other wide = all_below (λ i. all_below (square_on squares one other i) wide) wide

either : (a b c : Bool) → a ≡ true → (not a || (b || c)) ≡ true → (b ≡ true) ⊎ (c ≡ true)
either true true c e f = inl refl
either true false c e f = inr f
either false b c e f = absurd (false≢true e)

module _ (full : Cell → Bool) (wide : ℕ) (within : (c : Cell) → full c ≡ true → plate wide c ≡ true) where
  -- the boundary squares seen from above
  abbrev above : Spot → Bool
  above = is_boundary full PlusZ (pos 1)

  -- a border side is among those of two rounds, where all within the plate are
  on_one : (one other : List Side) → plate_on above one other wide ≡ true → (r : Side) → IsTrue (is_border above r)
      → Member one r ⊎ Member other r
  on_one one other all r border =
      let p : Spot = left_square r in
      let in_plate = within (inner_cell PlusZ (pos 1) p) (inner_full full PlusZ (pos 1) p (border_left above r border)) in
      let ranges = (and_parts (int_eq (pos 0) (pos 0))
      ((int_le (pos 0) p.u && int_lt p.u (pos wide)) && (int_le (pos 0) p.v && int_lt p.v (pos wide))) in_plate).1 in
      let (i, i_less, u_is) = within_plate p.u wide
      ((and_parts (int_le (pos 0) p.u && int_lt p.u (pos wide)) (int_le (pos 0) p.v && int_lt p.v (pos wide)) ranges).0) in
      let (j, j_less, v_is) = within_plate p.v wide
      ((and_parts (int_le (pos 0) p.u && int_lt p.u (pos wide)) (int_le (pos 0) p.v && int_lt p.v (pos wide)) ranges).1) in
      let own : side_of r.heading (record { u = pos i; v = pos j }) ≡ r =
      ap (side_of r.heading) (same_spot (record { u = pos i; v = pos j }) p u_is v_is) ∙ side_of-own r in
      let on : is_on above one other r ≡ true = subst (λ (x : Side). is_on above one other x ≡ true) own
      (all_four-at (λ h. is_on above one other (side_of h (record { u = pos i; v = pos j }))) r.heading
      (all_below-at (square_on above one other i) wide j
      (all_below-at (λ k. all_below (square_on above one other k) wide) wide i all i_less) j_less)) in
      elim (either (is_border above r) (is_among one r) (is_among other r) border on) as (λ _. Member one r ⊎ Member other r) [
        | inl e ↦ inl ((Decides-is_among one r).0 e)
        | inr e ↦ inr ((Decides-is_among other r).0 e)
      ]

  -- Two rounds that have all border sides between them are the loops of the face.
  two_loops : (s t : Side) (n m : ℕ) (l k : List Cell) → IsRound above s n → IsRound above t m
      → l ≡ map (place PlusZ (pos 1)) (round_corners above s n) → k ≡ map (place PlusZ (pos 1)) (round_corners above t m)
      → BeginsLeast l → BeginsLeast k → StartsBefore l k → AreJoined above first_square (left_square s)
      → AreJoined above first_square (left_square t)
      → plate_on above (round_sides above s n) (round_sides above t m) wide ≡ true
      → AreLoopsOf above (place PlusZ (pos 1)) first_square (l ∷ k ∷ [])
  two_loops s t n m l k is is_too e f begins begins_too starts joined joined_too all = record {
    each = ((s, n, is, joined, e, begins), ((t, m, is_too, joined_too, f, begins_too), tt));
    ordered = ((starts, tt), (tt, tt));
    complete = listed_complete above PlusZ (pos 1) first_square (l ∷ k ∷ []) (λ r border _.
        elim (on_one (round_sides above s n) (round_sides above t m) all r border) as
        (λ _. (loop : List Cell) × Member (l ∷ k ∷ []) loop × GoesAlong above (place PlusZ (pos 1)) r loop) [
          | inl on ↦ (l, inl refl, record { start = s; length = n; is_round = is; is = e; begins = begins; on = on })
          | inr on ↦ (k, inr (inl refl), record { start = t; length = m; is_round = is_too; is = f; begins = begins_too; on = on })
        ]);
  }

-- where the outline and the hole begin
abbrev outline : Side
outline = side_at 0 1 South

abbrev hole : Side
hole = side_at 2 1 West

pub pierced_loops_are : AreLoopsOf (is_boundary pierced_plate PlusZ (pos 1)) (place PlusZ (pos 1)) first_square pierced_loops
pierced_loops_are =
    let squares : Spot → Bool = is_boundary pierced_plate PlusZ (pos 1) in
    two_loops pierced_plate 3 (λ c e. (and_parts (plate 3 c) (not (same_cell (cell_at 1 1 0) c)) e).0) outline hole 11 3
    (cell_at 0 0 1 ∷ cell_at 3 0 1 ∷ cell_at 3 3 1 ∷ cell_at 0 3 1 ∷ [])
    (cell_at 1 1 1 ∷ cell_at 1 2 1 ∷ cell_at 2 2 1 ∷ cell_at 2 1 1 ∷ [])
    (round_is squares outline 11 refl refl refl refl) (round_is squares hole 3 refl refl refl refl)
    refl refl (refl, (refl, (refl, tt))) (refl, (refl, (refl, tt))) refl (zero, refl) (second_joined squares refl refl) refl

pub twice_pierced_loops_are : AreLoopsOf (is_boundary twice_pierced_plate PlusZ (pos 1))
    (place PlusZ (pos 1)) first_square twice_pierced_loops
twice_pierced_loops_are =
    let squares : Spot → Bool = is_boundary twice_pierced_plate PlusZ (pos 1) in
    two_loops twice_pierced_plate 4
    (λ c e. (and_parts (plate 4 c) (not (same_cell (cell_at 1 1 0) c || same_cell (cell_at 2 2 0) c)) e).0) outline hole 15 7
    (cell_at 0 0 1 ∷ cell_at 4 0 1 ∷ cell_at 4 4 1 ∷ cell_at 0 4 1 ∷ [])
    (cell_at 1 1 1 ∷ cell_at 1 2 1 ∷ cell_at 2 2 1 ∷ cell_at 2 3 1 ∷ cell_at 3 3 1 ∷ cell_at 3 2 1 ∷ cell_at 2 2 1 ∷ cell_at 2 1 1 ∷ [])
    (round_is squares outline 15 refl refl refl refl) (round_is squares hole 7 refl refl refl refl)
    refl refl (refl, (refl, (refl, tt))) (refl, (refl, (refl, (refl, (refl, (refl, (refl, tt))))))) refl (zero, refl)
    (second_joined squares refl refl) refl
