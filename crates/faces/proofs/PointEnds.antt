-- The points where sides of the border of squares may end.
use Rattle.std.proofs.Common.{◌≡◌, inl, inr, Bool, true, false, not, ◌&&◌, ◌||◌, ◌==◌, ℕ, zero, suc, ◌+◌, ◌*◌, ◌/◌, ◌%◌, ◌^◌, ◌<◌, ◌≤◌, List, bit_or, slice_index_or, pos, negsuc, ◌-ℤ◌, refl, ap, sym, subst, ◌∙◌, arith}
use Rattle.std.specs.Int.RustNames.{bit_xor}
use Rattle.std.proofs.Math.Bool.{and-not_self}
use Rattle.std.proofs.lemmas.Bool.{cases_lt, cases_Bool, false≢true, both_ways, and_from, false_from_ne_true}
use Rattle.std.proofs.lemmas.Int.{ints}
use Rattle.std.proofs.lemmas.List.{get_or_past}
use Rattle.std.proofs.lemmas.Nat.{mod_below, mod-mul-add, div-mul-add}
use Rattle.std.proofs.lemmas.Nat.Bits.{bit_at-zero}
use Rattle.lemmas.specs.Bits.{is_set}
use Rattle.solid_model.specs.WalledBoxes.{is_below}
use Rattle.solid_model.specs.Rounds.{Spot, Heading, East, North, West, South, left_of, square_at, is_border}
use Rattle.solid_model.proofs.BoxPlaces.{below_number}
use Rattle.lemmas.proofs.Pushed.{HoldsSoFar}
use Rattle.lemmas.proofs.WordBits.{set_either, same_where_clear, moved_up_first, moved_up}
use Rattle.faces.specs.Border.{side_to, is_border_at, TellEnds}
use Rattle.faces.specs.Ends.{is_set_before, TellRowEnds, AreTurned}
use Rattle.faces.specs.PlaneSquares.{SquareTable, IsTable, is_in_table, is_there}
use Rattle.faces.specs.Ways.{heading_at}
use Rattle.face_laws.specs.GridRounds.{back_of}
use Rattle.face_laws.proofs.Turns.{round, arrives, border_at_end}
use Rattle.faces.proofs.Sides.{end_of-side_to}

-- ---- the points of a row

-- what is either of two isn't where neither is
pub or_clear : (x y : Bool) → (x || y) ≡ false → (x ≡ false) × (y ≡ false)
or_clear true y e = absurd (false≢true (sym e))
or_clear false y e = (refl, e)

-- a bit that doesn't differ from the one below it
same_before : (word u : ℕ) → u < 64 → is_set (bit_xor word (word * 2 ^ 1 % 2 ^ 64)) u ≡ false → is_set_before word u ≡ is_set word u
same_before word zero l clear = sym (same_where_clear word (word * 2 ^ 1 % 2 ^ 64) 0 clear ∙ moved_up_first word)
same_before word (suc u) l clear = sym (same_where_clear word (word * 2 ^ 1 % 2 ^ 64) (suc u) clear ∙ moved_up word u l)

pub row_ends_told : (above below : ℕ) → TellRowEnds above below
    (bit_or (bit_or (bit_xor above below) (bit_xor above (above * 2 ^ 1 % 2 ^ 64))) (bit_xor below (below * 2 ^ 1 % 2 ^ 64)))
row_ends_told above below u l clear =
    let both = or_clear _ _ (sym (set_either (bit_or (bit_xor above below) (bit_xor above (above * 2 ^ 1 % 2 ^ 64))) (bit_xor below (below * 2 ^ 1 % 2 ^ 64)) u) ∙ clear) in
    let two = or_clear _ _ (sym (set_either (bit_xor above below) (bit_xor above (above * 2 ^ 1 % 2 ^ 64)) u) ∙ both.0) in
    let across = sym (same_where_clear above below u two.0) in
    (across, same_before above u l two.1, same_before below u l both.1 ∙ across)

-- ---- row by row

-- the row below a row
abbrev pub row_below : SquareTable → ℕ → ℕ
row_below t zero = 0
row_below t (suc v) = slice_index_or t.rows v 0

-- the points below a row of squares are told
abbrev pub IsEndRow : SquareTable → ℕ → ℕ → Type 0
IsEndRow t v ends = TellRowEnds (slice_index_or t.rows v 0) (row_below t v) ends

-- a number less one
one_less : (k : ℕ) → pos (suc k) -ℤ pos 1 ≡ pos k
one_less k = omega (arith, ints)

module _ (t : SquareTable) (is : IsTable t) where
  -- a square is there where its bit is set
  there_bit : (u v : ℕ) → u ≤ 63 → is_there t (record { u = pos u; v = pos v }) ≡ is_set (slice_index_or t.rows v 0) u
  there_bit u v few = elim (cases_lt v 63) as (λ _. is_there t q ≡ bit) [
    | inl low ↦ elim (cases_lt u 63) as (λ _. is_there t q ≡ bit) [
      | inl left ↦ ap (λ b. b && bit) (and_from (is_below 63 (pos u)) (is_below 63 (pos v)) (below_number 63 u left) (below_number 63 v low))
      | inr last ↦ (let e : 63 ≡ u = omega arith in none (subst (λ k. is_set (slice_index_or t.rows v 0) k ≡ false) e (is.narrow v)))
    ]
    | inr high ↦ none (ap (λ w. is_set w u) (get_or_past t.rows v 0 (omega (arith, is.few))) ∙ ap (λ b. b == 1) (bit_at-zero u))
  ]
    where
      q : Spot
      q = record { u = pos u; v = pos v }

      bit : Bool
      bit = is_set (slice_index_or t.rows v 0) u

      none : bit ≡ false → is_there t q ≡ bit
      none e = false_from_ne_true (is_there t q) (λ there. both_ways bit e (second (is_in_table q) bit there)) ∙ sym e
        where
          second : (x y : Bool) → (x && y) ≡ true → y ≡ true
          second true y f = f
          second false y f = absurd (false≢true f)

  module _ (u v : ℕ) (u_few : u ≤ 63) (v_few : v ≤ 63) where
    abbrev pub point : Spot
    point = record { u = pos u; v = pos v }

    -- the four squares round a point, by their bits
    abbrev round_point : Heading → Bool
    round_point East = is_set (slice_index_or t.rows v 0) u
    round_point North = is_set_before (slice_index_or t.rows v 0) u
    round_point West = is_set_before (row_below t v) u
    round_point South = is_set (row_below t v) u

    round_there : (h : Heading) → is_there t (square_at h point) ≡ round_point h
    round_there East = there_bit u v u_few
    round_there North = by u u_few
      where
        by : (k : ℕ) → k ≤ 63 → is_there t (record { u = pos k -ℤ pos 1; v = pos v }) ≡ is_set_before (slice_index_or t.rows v 0) k
        by zero few = refl
        by (suc k) few = ap (λ x. is_there t (record { u = x; v = pos v })) (one_less k) ∙ there_bit k v (omega arith)
    round_there West = by u v u_few
      where
        by : (k l : ℕ) → k ≤ 63 → is_there t (record { u = pos k -ℤ pos 1; v = pos l -ℤ pos 1 }) ≡ is_set_before (row_below t l) k
        by zero l few = refl
        by (suc k) zero few = ap (λ x. is_there t (record { u = x; v = negsuc 0 })) (one_less k) ∙ none k
          where
            none : (j : ℕ) → is_there t (record { u = pos j; v = negsuc 0 }) ≡ is_set 0 j
            none j = false_from_ne_true _ (λ there. false≢true (below (is_below 63 (pos j)) _ there)) ∙ sym (ap (λ b. b == 1) (bit_at-zero j))
              where
                below : (x y : Bool) → ((x && false) && y) ≡ true → false ≡ true
                below true y e = e
                below false y e = e
        by (suc k) (suc l) few = (λ i. is_there t (record { u = one_less k i; v = one_less l i })) ∙ there_bit k l (omega arith)
    round_there South = by u v u_few
      where
        by : (k l : ℕ) → k ≤ 63 → is_there t (record { u = pos k; v = pos l -ℤ pos 1 }) ≡ is_set (row_below t l) k
        by k zero few = false_from_ne_true _ (λ there. false≢true (below (is_below 63 (pos k)) _ there)) ∙ sym (ap (λ b. b == 1) (bit_at-zero k))
          where
            below : (x y : Bool) → ((x && false) && y) ≡ true → false ≡ true
            below true y e = e
            below false y e = e
        by k (suc l) few = ap (λ x. is_there t (record { u = pos k; v = x })) (one_less l) ∙ there_bit k l few

    -- where they are all the same no side of the border ends at the point
    no_end : (x : Bool) → ((h : Heading) → round_point h ≡ x) → (h : Heading) → is_border (is_there t) (side_to point h) ≡ false
    no_end x same h =
        let left = round_there (left_of h) ∙ same (left_of h) in
        let right = round_there (back_of h) ∙ same (back_of h) in
        border_at_end (is_there t) (side_to point h) ∙ ap (λ q. arrives (round (is_there t) q) h) (end_of-side_to point h)
        ∙ (λ i. left i && not (right i)) ∙ and-not_self x

    told_same : (ends : ℕ) → IsEndRow t v ends → is_set ends u ≡ false → (h : Heading) → round_point h ≡ is_set (slice_index_or t.rows v 0) u
    told_same ends told clear East = refl
    told_same ends told clear North = (told u (omega arith) clear).1
    told_same ends told clear West = (told u (omega arith) clear).2
    told_same ends told clear South = (told u (omega arith) clear).0

    -- so the bits tell all points where one ends
    pub end_told : (ends : ℕ) → IsEndRow t v ends → (h : Heading) → is_border (is_there t) (side_to point h) ≡ true → is_set ends u ≡ true
    end_told ends told h border = elim (cases_Bool (is_set ends u)) as (λ _. is_set ends u ≡ true) [
      | inl set ↦ set
      | inr clear ↦ absurd (both_ways (is_border (is_there t) (side_to point h)) (no_end _ (told_same ends told clear) h) border)
    ]

  -- by v, then u
  pub ends_told : (ends : List ℕ) → HoldsSoFar (IsEndRow t) ends 64 → TellEnds t true ends
  ends_told ends all k within border =
      let p = k / 4 in
      let v_few : p / 64 < 64 = omega arith in
      end_told (p % 64) (p / 64) (let l = mod_below p 64 (omega arith) in omega arith) (omega arith) (slice_index_or ends (p / 64) 0)
      (all.each (p / 64) 0 v_few) (heading_at (k % 4)) border

-- the bits of a column
abbrev pub IsColumnAt : List ℕ → ℕ → ℕ → Type 0
IsColumnAt rows number column = (k : ℕ) → k < 64 → is_set column k ≡ is_set (slice_index_or rows k 0) number

-- and turned, by u, then v
pub turned_told : (t : SquareTable) (ends columns : List ℕ) → TellEnds t true ends → AreTurned ends columns → TellEnds t false columns
turned_told t ends columns told turned k within border =
    let p = k / 4 in
    let h = k % 4 in
    let l = mod_below p 64 (omega arith) in
    let m = mod_below k 4 (omega arith) in
    let v_few : p / 64 < 64 = omega arith in
    -- the number that the same side has by v, then u
    let other = (p % 64 * 64 + p / 64) * 4 + h in
    let point : other / 4 ≡ p % 64 * 64 + p / 64 = div-mul-add (p % 64 * 64 + p / 64) 4 h m in
    let way : other % 4 ≡ h = mod-mul-add (p % 64 * 64 + p / 64) 4 h m in
    let u : (other / 4) % 64 ≡ p / 64 = ap (λ n. n % 64) point ∙ mod-mul-add (p % 64) 64 (p / 64) v_few in
    let v : (other / 4) / 64 ≡ p % 64 = ap (λ n. n / 64) point ∙ div-mul-add (p % 64) 64 (p / 64) v_few in
    let same : is_border_at t true other ≡ is_border_at t false k =
    λ i. is_border (is_there t) (side_to (record { u = pos (u i); v = pos (v i) }) (heading_at (way i))) in
    let set = told other (omega arith) (same ∙ border) in
    turned.each (p / 64) (p % 64) v_few l ∙ (λ i. is_set (slice_index_or ends (sym v i) 0) (sym u i)) ∙ set
