-- A union of grid cells, turned to be seen as a layer, is the union of the turned grid's cells.
use Rattle.std.proofs.Common.{◌≡◌, Bool, true, false, ℕ, zero, suc, ◌+◌, ◌-◌, ◌<◌, List, [], ◌∷◌, ◌++◌, length, slice_index_or, ℤ, pos, neg_ℤ, ◌-ℤ◌, ◌<ℤ◌, if◌then◌else◌, refl, ap, sym, subst, ◌∙◌, arith}
use Rattle.std.proofs.Math.Seq.{get_or-append_seam}
use Rattle.std.proofs.lemmas.Int.{ints}
use Rattle.std.proofs.lemmas.List.{length-append, get_or_append_left}
use Rattle.dxf_entities.specs.declared.layer.Layer.{Layer}
use Rattle.solid_model.specs.declared.cell.Axis.{Axis}
use Rattle.solid_model.specs.declared.cell.Axis.TheVariants.{X, Y, Z}
use Rattle.solid_model.specs.declared.cell.Cell.{Cell}
use Rattle.solid_model.specs.Cells.{coordinate}
use Rattle.solid_model.specs.Grid.{Coordinates, GridCell, is_in_gap, IsInSomeGap, LiesInGridCell, gaps_along, IsUnionOf}
use Rattle.lemmas.specs.Lists.{Each, Ascends}
use Rattle.solid_model.specs.WalledBoxes.{same_axis}
use Rattle.solid_model.proofs.Gaps.{member, lies_in, in_gap}
use Rattle.lemmas.proofs.Lists.{each-append, ascends-append}
use Rattle.solid_model.specs.GridPlaces.{place_in}
use Rattle.column_laws.specs.GridPanels.{HasCounts}
use Rattle.six_views.specs.Turned.{half_turned, mirrored_places, stays, turn_axis, turned_cell, turned_coordinates, turned_numbers, AreTurnedCells}
use Rattle.six_views.proofs.Turned.{mirrored_twice}

-- ---- mirrored lists

-- they are as long,
pub length-mirrored : (zs : List ℤ) → length (mirrored_places zs) ≡ length zs
length-mirrored [] = refl
length-mirrored (z ∷ zs) = omega (arith, length-append (mirrored_places zs) (neg_ℤ z ∷ []), length-mirrored zs)

-- and each member is one of the first list, counted from the other end
pub member-mirrored : (zs : List ℤ) (n m : ℕ) → n + (m + 1) ≡ length zs → member (mirrored_places zs) n ≡ neg_ℤ (member zs m)
member-mirrored [] n m e = absurd (omega arith)
member-mirrored (z ∷ zs) n zero e =
    let here : length (mirrored_places zs) ≡ n = omega (arith, length-mirrored zs) in
    subst (λ k. member (mirrored_places zs ++ neg_ℤ z ∷ []) k ≡ neg_ℤ z) here (get_or-append_seam (mirrored_places zs) (neg_ℤ z) [] (pos 0))
member-mirrored (z ∷ zs) n (suc m) e =
    get_or_append_left (mirrored_places zs) (neg_ℤ z ∷ []) (pos 0) n (omega (arith, length-mirrored zs)) ∙ member-mirrored zs n m (omega arith)

-- what is greater than a number is less than it, mirrored
each-mirrored : (z : ℤ) (zs : List ℤ) → Each (λ y. z <ℤ y) zs → Each (λ x. Each (λ y. x <ℤ y) (neg_ℤ z ∷ [])) (mirrored_places zs)
each-mirrored z [] h = tt
each-mirrored z (y ∷ zs) h = each-append (λ x. Each (λ y. x <ℤ y) (neg_ℤ z ∷ [])) (mirrored_places zs) (neg_ℤ y ∷ []) (each-mirrored z zs h.1)
    ((let l = h.0 in omega (arith, ints), tt), tt)

-- a mirrored list ascends
pub ascends-mirrored : (zs : List ℤ) → Ascends ◌<ℤ◌ zs → Ascends ◌<ℤ◌ (mirrored_places zs)
ascends-mirrored [] h = tt
ascends-mirrored (z ∷ zs) h = ascends-append ◌<ℤ◌ (mirrored_places zs) (neg_ℤ z ∷ []) (ascends-mirrored zs h.1) (tt, tt) (each-mirrored z zs h.0)

-- ---- mirrored gaps

-- what lies in a gap of the mirrored list lies, mirrored, in the gap of the list counted from the other end,
pub from_mirrored : (zs : List ℤ) (n : ℕ) (z : ℤ) → is_in_gap (mirrored_places zs) n z ≡ true
    → is_in_gap zs (length zs - 1 - (n + 1)) (neg_ℤ z -ℤ pos 1) ≡ true
from_mirrored zs n z e =
    let at = lies_in (mirrored_places zs) n z e in
    let long = length-mirrored zs in
    let m : ℕ = length zs - 1 - (n + 1) in
    let low = member-mirrored zs (suc n) m (omega (arith, at.within)) in
    let high = member-mirrored zs n (suc m) (omega (arith, at.within)) in
    in_gap zs m (neg_ℤ z -ℤ pos 1) (omega (arith, at.within)) (omega (arith, ints, at.high, low)) (omega (arith, ints, at.low, high))

-- and the other way round
pub to_mirrored : (zs : List ℤ) (n : ℕ) (z : ℤ) → is_in_gap zs n z ≡ true
    → is_in_gap (mirrored_places zs) (length zs - 1 - (n + 1)) (neg_ℤ z -ℤ pos 1) ≡ true
to_mirrored zs n z e =
    let at = lies_in zs n z e in
    let long = length-mirrored zs in
    let m : ℕ = length zs - 1 - (n + 1) in
    let low = member-mirrored zs m (suc n) (omega (arith, at.within)) in
    let high = member-mirrored zs (suc m) n (omega (arith, at.within)) in
    in_gap (mirrored_places zs) m (neg_ℤ z -ℤ pos 1) (omega (arith, at.within)) (omega (arith, ints, at.high, low)) (omega (arith, ints, at.low, high))

-- ---- turned grids

-- a turned cell's coordinates
coordinate-half_turned : (a b : Axis) (c : Cell) → coordinate b (half_turned a c) ≡ (if same_axis a b then coordinate b c else (neg_ℤ (coordinate b c) -ℤ pos 1))
coordinate-half_turned X X c = refl
coordinate-half_turned X Y c = refl
coordinate-half_turned X Z c = refl
coordinate-half_turned Y X c = refl
coordinate-half_turned Y Y c = refl
coordinate-half_turned Y Z c = refl
coordinate-half_turned Z X c = refl
coordinate-half_turned Z Y c = refl
coordinate-half_turned Z Z c = refl

pub coordinate-turned : (x : Layer) (b : Axis) (c : Cell) → coordinate b (turned_cell x c) ≡ (if stays x b then coordinate b c else (neg_ℤ (coordinate b c) -ℤ pos 1))
coordinate-turned x b c = by x.opposite
  where
    by : (opposite : Bool) → coordinate b (if opposite then half_turned (turn_axis x.view) c else c)
        ≡ (if (if opposite then same_axis (turn_axis x.view) b else true) then coordinate b c else (neg_ℤ (coordinate b c) -ℤ pos 1))
    by true = coordinate-half_turned (turn_axis x.view) b c
    by false = refl

module _ (x : Layer) (coordinates : Coordinates) where
  abbrev turned : Coordinates
  turned = turned_coordinates x coordinates

  -- a turned grid has as many coordinates,
  pub count-turned : (b : Axis) → length (turned b) ≡ length (coordinates b)
  count-turned b = by (stays x b)
    where
      by : (t : Bool) → length (if t then coordinates b else mirrored_places (coordinates b)) ≡ length (coordinates b)
      by true = refl
      by false = length-mirrored (coordinates b)

  gaps-turned : gaps_along turned ≡ gaps_along coordinates
  gaps-turned = λ t b. count-turned b t - 1

  -- in order
  pub counts-turned : (counts : Axis → ℕ) → HasCounts counts coordinates → HasCounts counts turned
  counts-turned counts has = record { ordered = λ b. by b (stays x b); count = λ b. count-turned b ∙ has.count b }
    where
      by : (b : Axis) (t : Bool) → Ascends ◌<ℤ◌ (if t then coordinates b else mirrored_places (coordinates b))
      by b true = has.ordered b
      by b false = ascends-mirrored (coordinates b) (has.ordered b)

  -- a cell of the turned grid, turned, lies in the cell of the grid that comes there
  lies_turned : (n : GridCell) (c : Cell) → LiesInGridCell turned n c → LiesInGridCell coordinates (turned_numbers x (gaps_along coordinates) n) (turned_cell x c)
  lies_turned n c lies b = rw (coordinate-turned x b c) (by (stays x b) (lies b))
    where
      by : (t : Bool) → is_in_gap (if t then coordinates b else mirrored_places (coordinates b)) (n b) (coordinate b c) ≡ true
          → is_in_gap (coordinates b) (if t then n b else (gaps_along coordinates b - (n b + 1))) (if t then coordinate b c else (neg_ℤ (coordinate b c) -ℤ pos 1)) ≡ true
      by true e = e
      by false e = from_mirrored (coordinates b) (n b) (coordinate b c) e

  -- what lies in the grid when it is turned lies in the turned grid
  gap_turned : (c : Cell) (b : Axis) → IsInSomeGap (coordinates b) (coordinate b (turned_cell x c)) → IsInSomeGap (turned b) (coordinate b c)
  gap_turned c b (m, e) = by (stays x b) (subst (λ z. is_in_gap (coordinates b) m z ≡ true) (coordinate-turned x b c) e)
    where
      by : (t : Bool) → is_in_gap (coordinates b) m (if t then coordinate b c else (neg_ℤ (coordinate b c) -ℤ pos 1)) ≡ true
          → IsInSomeGap (if t then coordinates b else mirrored_places (coordinates b)) (coordinate b c)
      by true e = (m, e)
      by false e = (
        length (coordinates b) - 1 - (m + 1),
        subst (λ z. is_in_gap (mirrored_places (coordinates b)) (length (coordinates b) - 1 - (m + 1)) z ≡ true) (mirrored_twice (coordinate b c))
            (to_mirrored (coordinates b) m (neg_ℤ (coordinate b c) -ℤ pos 1) e),
      )

  -- the gaps of a list are fewer than its members
  few_gap : (b : Axis) (n : ℕ) (z : ℤ) → is_in_gap (turned b) n z ≡ true → n < gaps_along coordinates b
  few_gap b n z e = let at = lies_in (turned b) n z e in omega (arith, at.within, count-turned b)

  -- the union of the turned cells is the union, turned
  pub union_turned : (chosen chosen_too : List Bool) (full : Cell → Bool) → IsUnionOf coordinates chosen full
      → AreTurnedCells x (gaps_along coordinates) chosen chosen_too → IsUnionOf turned chosen_too (λ c. full (turned_cell x c))
  union_turned chosen chosen_too full union are = record {
    inside = λ n c lies. union.inside (turned_numbers x (gaps_along coordinates) n) (turned_cell x c) (lies_turned n c lies)
        ∙ sym (are n (λ b. few_gap b (n b) (coordinate b c) (lies b)))
        ∙ ap (λ (sizes : Axis → ℕ). slice_index_or chosen_too (place_in sizes n) false) (sym gaps-turned);
    outside = λ c none. union.outside (turned_cell x c) (λ lies. none (λ b. gap_turned c b (lies b)));
  }
