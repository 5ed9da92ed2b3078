-- The places of squares in a table.
use Rattle.std.proofs.Common.{◌≡◌, inl, inr, Bool, true, ℕ, zero, suc, ◌+◌, ◌*◌, ◌<◌, ◌==◌, List, [], ◌∷◌, length, map, ℤ, pos, ◌≤ℤ◌, slice_index_or, ap, ap₂, sym, subst, ◌∙◌, arith}
use Rattle.std.proofs.lemmas.Bool.{both_ways, and_parts, cases_lt}
use Rattle.std.proofs.lemmas.List.{get_or_past}
use Rattle.std.proofs.lemmas.Nat.Bits.{bit_at-zero}
use Rattle.std.proofs.lemmas.Nat.{mod-mul-add, div-mul-add, div-add-mod'}
use Rattle.lemmas.specs.Bits.{is_set}
use Rattle.lemmas.specs.Lists.{Member}
use Rattle.solid_model.specs.WalledBoxes.{is_below, place_of_number}
use Rattle.solid_model.specs.Rounds.{Spot}
use Rattle.solid_model.proofs.BoxCells.{below-bounds}
use Rattle.lemmas.proofs.Lists.{member-map}
use Rattle.solid_model.proofs.BoxPlaces.{IsNumber, number_below}
use Rattle.face_laws.proofs.Turns.{same_spot}
use Rattle.faces.specs.PlaneSquares.{SquareTable, is_in_table, square_place, is_there}
use Rattle.faces.specs.SquareSteps.{place_count, square_at_place}

-- the numbers below n
abbrev upto : ℕ → List ℕ
upto zero = []
upto (suc n) = n ∷ upto n

member-upto : (n k : ℕ) → k < n → Member (upto n) k
member-upto zero k l = absurd (omega arith)
member-upto (suc n) k l = elim (cases_lt k n) as (λ _. Member (upto (suc n)) k) [ inl earlier ↦ inr (member-upto n k earlier) | inr later ↦ inl (omega arith) ]

-- the numbers of a square of the table
pub record HasPlace (q : Spot) : Type 0 where
  pub u : IsNumber 63 q.u
  pub v : IsNumber 63 q.v

pub in_table-numbers : (q : Spot) → is_in_table q ≡ true → HasPlace q
in_table-numbers q within =
    let parts = and_parts (is_below 63 q.u) (is_below 63 q.v) within in
    record { u = number_below 63 q.u parts.0; v = number_below 63 q.v parts.1 }

-- how many places the greatest table has
abbrev square_count : ℕ
square_count = 4032

-- the bit of a square
abbrev pub bit_there : SquareTable → Spot → Bool
bit_there t q = is_set (slice_index_or t.rows (place_of_number q.v) 0) (place_of_number q.u)

-- what is there is in the table, and its truth value is true
pub there-parts : (t : SquareTable) (q : Spot) → is_there t q ≡ true → (is_in_table q ≡ true) × (bit_there t q ≡ true)
there-parts t q there = and_parts (is_in_table q) (bit_there t q) there

module _ (q : Spot) (has : HasPlace q) where
  -- its place, by its numbers
  place_is : square_place q ≡ has.v.number * 64 + has.u.number
  place_is = ap₂ (λ (v u : ℤ). place_of_number v * 64 + place_of_number u) has.v.is has.u.is

  -- is one of the places
  pub square_there : square_place q < square_count
  square_there = omega (arith, place_is, has.v.less, has.u.less)

  -- and the square at this place is the square
  pub square_own : square_at_place (square_place q) ≡ q
  square_own =
      let less : has.u.number < 64 = omega (arith, has.u.less) in
      ap square_at_place place_is
      ∙ same_spot (square_at_place (has.v.number * 64 + has.u.number)) q
      (ap pos (mod-mul-add has.v.number 64 has.u.number less) ∙ sym has.u.is)
      (ap pos (div-mul-add has.v.number 64 has.u.number less) ∙ sym has.v.is)

-- its row is one of the table's where it is there, and so is its place
pub place_there : (t : SquareTable) (q : Spot) → is_there t q ≡ true → square_place q < place_count t
place_there t q there = elim (cases_lt has.v.number (length t.rows)) as (λ _. square_place q < place_count t) [
  | inl within ↦ omega (arith, place_is q has, has.u.less, within)
  | inr beyond ↦ absurd (both_ways (bit_there t q)
      (ap (λ w. is_set w (place_of_number q.u)) (get_or_past t.rows (place_of_number q.v) 0 (omega (arith, ap place_of_number has.v.is, beyond)))
      ∙ ap (λ b. b == 1) (bit_at-zero (place_of_number q.u))) (there-parts t q there).1)
]
  where
    has : HasPlace q
    has = in_table-numbers q (there-parts t q there).0

-- and has the place
pub place_own : (p : ℕ) → square_place (square_at_place p) ≡ p
place_own p = div-add-mod' p 64

-- all squares of the table
abbrev pub all_squares : List Spot
all_squares = map square_at_place (upto square_count)

-- has those that are there
pub in_all_squares : (t : SquareTable) (q : Spot) → is_there t q ≡ true → Member all_squares q
in_all_squares t q there =
    let has = in_table-numbers q (there-parts t q there).0 in
    subst (Member all_squares) (square_own q has)
    (member-map square_at_place (upto square_count) (square_place q) (member-upto square_count (square_place q) (square_there q has)))

-- and these have no negative coordinate
pub there_right : (t : SquareTable) (q : Spot) → is_there t q ≡ true → pos 0 ≤ℤ q.u
there_right t q there =
    (below-bounds 63 q.u (and_parts (is_below 63 q.u) (is_below 63 q.v) (there-parts t q there).0).0).0
