-- The columns of a union of shaded grid cells are those of the union of the cells themselves, filled behind each full one.
use Rattle.std.proofs.Common.{◌≡◌, ◌⊎◌, inl, inr, Bool, true, false, ℕ, suc, ◌<◌, ◌≤◌, List, length, slice_index_or, ℤ, pos, neg_ℤ, ◌-ℤ◌, ◌≤ℤ◌, ◌<ℤ◌, if◌then◌else◌, refl, ap, sym, subst, ◌∙◌, arith}
use Rattle.std.proofs.lemmas.Bool.{both_ways, cases_lt}
use Rattle.std.proofs.lemmas.Int.{ints}
use Rattle.lemmas.specs.Lists.{Ascends}
use Rattle.lemmas.proofs.Tests.{same_tests}
use Rattle.solid_model.specs.declared.cell.Axis.{Axis}
use Rattle.solid_model.specs.declared.cell.Axis.TheVariants.{X, Y, Z}
use Rattle.solid_model.specs.declared.cell.Cell.{Cell}
use Rattle.solid_model.specs.declared.frame.Frame.{Frame}
use Rattle.solid_model.specs.declared.segment.Segment.{Segment}
use Rattle.solid_model.specs.Cells.{coordinate, is_full}
use Rattle.solid_model.specs.Columns.{cell_in, column_at}
use Rattle.solid_model.specs.Edges.{second_axis, third_axis, AreAcross}
use Rattle.solid_model.specs.Frames.{IsFrame, along, across, cell_on, point_on}
use Rattle.solid_model.specs.Grid.{Coordinates, GridCell, is_in_gap, IsInSomeGap, LiesInGridCell, LiesInGrid, gaps_along, grid_cell_place, IsUnionOf}
use Rattle.solid_model.specs.PerAxis.{numbered}
use Rattle.solid_model.specs.Segments.{start_of}
use Rattle.solid_model.proofs.Gaps.{member, lies_in, in_gap, earlier_at_most, gaps_keep_order, begins_gap, ends_gap}
use Rattle.solid_model.proofs.UnionDrawing.{in_grid_or_not}
use Rattle.solid_model.proofs.Views.{across_each, each_axis, across_along, coordinates_at, cell_on_twice}
use Rattle.section_laws.specs.Shaded.{IsNoFarther, AreShaded, IsCutGap}
use Rattle.section_laws.proofs.ShadedColumns.{Shades}

-- ---- gaps along a direction

-- the end of a gap that is nearer along a direction: the cell that begins there
abbrev pub near_end : Bool → List ℤ → ℕ → ℤ
near_end true zs m = member zs m
near_end false zs m = member zs (suc m) -ℤ pos 1

-- the place of a coordinate along a direction, and the other way round
abbrev pub turned : Bool → ℤ → ℤ
turned forward z = if forward then z else (neg_ℤ z -ℤ pos 1)

module _ (zs : List ℤ) (ascends : Ascends ◌<ℤ◌ zs) where
  pub near_end_there : (forward : Bool) (m : ℕ) → suc m < length zs → is_in_gap zs m (near_end forward zs m) ≡ true
  near_end_there true m within = begins_gap zs ascends m within
  near_end_there false m within = ends_gap zs ascends m within

  -- what isn't farther lies in a gap that isn't farther
  pub comes : (forward : Bool) (m n : ℕ) (k l : ℤ) → is_in_gap zs m (turned forward k) ≡ true → is_in_gap zs n (turned forward l) ≡ true → k ≤ℤ l → IsNoFarther forward m n
  comes true m n k l in_m in_n less = elim (cases_lt n m) as (λ _. m ≤ n) [
    | inl before ↦ absurd (let order = gaps_keep_order zs ascends n m l k in_n in_m before in omega (arith, ints))
    | inr after ↦ after
  ]
  comes false m n k l in_m in_n less = elim (cases_lt m n) as (λ _. n ≤ m) [
    | inl before ↦ absurd (let order = gaps_keep_order zs ascends m n (neg_ℤ k -ℤ pos 1) (neg_ℤ l -ℤ pos 1) in_m in_n before in omega (arith, ints))
    | inr after ↦ after
  ]

  -- the near end of a gap that isn't farther than n isn't farther than what lies in n
  pub nearest : (forward : Bool) (m n : ℕ) (l : ℤ) → suc m < length zs → is_in_gap zs n (turned forward l) ≡ true → IsNoFarther forward m n → turned forward (near_end forward zs m) ≤ℤ l
  nearest true m n l within in_n less =
      let at = lies_in zs n l in_n in
      let order = earlier_at_most zs ascends m n less (omega (arith, at.within)) in
      omega (arith, ints, at.low)
  nearest false m n l within in_n less =
      let at = lies_in zs n (neg_ℤ l -ℤ pos 1) in_n in
      let order = earlier_at_most zs ascends (suc n) (suc m) (omega arith) within in
      omega (arith, ints, at.high)

  -- what lies between the near end of a gap and something in it lies in it
  between : (forward : Bool) (m : ℕ) (k l : ℤ) → is_in_gap zs m (turned forward l) ≡ true → turned forward (near_end forward zs m) ≤ℤ k → k ≤ℤ l → is_in_gap zs m (turned forward k) ≡ true
  between true m k l in_m low high =
      let at = lies_in zs m l in_m in
      in_gap zs m k at.within low (omega (arith, ints, at.high))
  between false m k l in_m low high =
      let at = lies_in zs m (neg_ℤ l -ℤ pos 1) in_m in
      in_gap zs m (neg_ℤ k -ℤ pos 1) at.within (omega (arith, ints, at.low)) (omega (arith, ints))

pub comes_itself : (forward : Bool) (m : ℕ) → IsNoFarther forward m m
comes_itself true m = omega arith
comes_itself false m = omega arith

-- a gap that comes between two others is there
comes_within : (forward : Bool) (first m n size : ℕ) → first < size → n < size → IsNoFarther forward first m → IsNoFarther forward m n → m < size
comes_within true first m n size l k p r = omega arith
comes_within false first m n size l k p r = omega arith

-- ---- numbers of grid cells

pub numbered_at : (a : Axis) (m : ℕ) (n : GridCell) → numbered a m n a ≡ m
numbered_at X m n = refl
numbered_at Y m n = refl
numbered_at Z m n = refl

-- the other two numbers stay
numbered_across : (m : ℕ) (n : GridCell) (b c a : Axis) → AreAcross b c a → (numbered a m n b ≡ n b) × (numbered a m n c ≡ n c)
numbered_across m n = across_each (λ b c a. (numbered a m n b ≡ n b) × (numbered a m n c ≡ n c)) inorder other
  where
    inorder : (b : Axis) → (numbered (third_axis b) m n b ≡ n b) × (numbered (third_axis b) m n (second_axis b) ≡ n (second_axis b))
    inorder X = (refl, refl)
    inorder Y = (refl, refl)
    inorder Z = (refl, refl)

    other : (b : Axis) → (numbered (second_axis b) m n b ≡ n b) × (numbered (second_axis b) m n (third_axis b) ≡ n (third_axis b))
    other X = (refl, refl)
    other Y = (refl, refl)
    other Z = (refl, refl)

-- and it is as before with its own number again
numbered_back : (a : Axis) (m : ℕ) (n : GridCell) (b : Axis) → numbered a (n a) (numbered a m n) b ≡ n b
numbered_back X m n X = refl
numbered_back X m n Y = refl
numbered_back X m n Z = refl
numbered_back Y m n X = refl
numbered_back Y m n Y = refl
numbered_back Y m n Z = refl
numbered_back Z m n X = refl
numbered_back Z m n Y = refl
numbered_back Z m n Z = refl

-- ---- columns

module _ (f : Frame) (is : IsFrame f) (coordinates : Coordinates) (ascends : (a : Axis) → Ascends ◌<ℤ◌ (coordinates a)) (g : Segment) (j : ℤ) where
  abbrev zs : List ℤ
  zs = coordinates f.away.axis

  abbrev cell : ℤ → Cell
  cell k = cell_in f g.upright (start_of g) j k

  -- moved along its column into another gap, a cell lies in the grid cell there
  pub moved : (n : GridCell) (m : ℕ) (k l : ℤ) → LiesInGridCell coordinates n (cell k) → is_in_gap zs m (cell_on f.away l) ≡ true
      → LiesInGridCell coordinates (numbered f.away.axis m n) (cell l)
  moved n m k l lies in_m =
      let way = along f g.upright in
      let beside = across f g.upright in
      let sides = across_along f is g.upright in
      let here = coordinates_at (cell_on way (start_of g)) (cell_on beside j) (cell_on f.away k) way.axis beside.axis f.away.axis sides in
      let there = coordinates_at (cell_on way (start_of g)) (cell_on beside j) (cell_on f.away l) way.axis beside.axis f.away.axis sides in
      let same = numbered_across m n way.axis beside.axis f.away.axis sides in
      each_axis (λ b. is_in_gap (coordinates b) (numbered f.away.axis m n b) (coordinate b (cell l)) ≡ true) way.axis beside.axis f.away.axis sides
      ((λ t. is_in_gap (coordinates way.axis) (same.0 t) ((there.first ∙ sym here.first) t)) ∙ lies way.axis)
      ((λ t. is_in_gap (coordinates beside.axis) (same.1 t) ((there.second ∙ sym here.second) t)) ∙ lies beside.axis)
      ((λ t. is_in_gap zs (numbered_at f.away.axis m n t) (there.third t)) ∙ in_m)

  -- the gap of a cell along the sight axis
  pub gap_of : (n : GridCell) (k : ℤ) → LiesInGridCell coordinates n (cell k) → is_in_gap zs (n f.away.axis) (cell_on f.away k) ≡ true
  gap_of n k lies =
      let here = coordinates_at (cell_on (along f g.upright) (start_of g)) (cell_on (across f g.upright) j) (cell_on f.away k) _ _ _ (across_along f is g.upright) in
      subst (λ z. is_in_gap zs (n f.away.axis) z ≡ true) here.third (lies f.away.axis)

  -- the numbers of a cell's gaps
  pub numbers_within : (n : GridCell) (c : Cell) → LiesInGridCell coordinates n c → (b : Axis) → n b < gaps_along coordinates b
  numbers_within n c lies b = let at = lies_in (coordinates b) (n b) (coordinate b c) (lies b) in omega (arith, at.within)

  module _ (chosen : List Bool) (s : List Cell) (union : IsUnionOf coordinates chosen (is_full s)) where
    -- a full cell lies in a grid cell that is chosen
    pub record LiesInChosen (k : ℤ) : Type 0 where
      pub number : GridCell
      pub lies : LiesInGridCell coordinates number (cell k)
      pub chosen_there : slice_index_or chosen (grid_cell_place coordinates number) false ≡ true

    pub in_chosen : (k : ℤ) → column_at f (is_full s) g j k ≡ true → LiesInChosen k
    in_chosen k full = by (in_grid_or_not coordinates ascends (cell k))
      where
        by : ((n : GridCell) × LiesInGridCell coordinates n (cell k)) ⊎ (LiesInGrid coordinates (cell k) → ⊥) → LiesInChosen k
        by (inl at) = record { number = at.0; lies = at.1; chosen_there = sym (union.inside at.0 (cell k) at.1) ∙ full }
        by (inr none) = absurd (both_ways (is_full s (cell k)) (union.outside (cell k) none) full)

    -- there is a grid cell at its depth
    in_some_gap : (k : ℤ) → column_at f (is_full s) g j k ≡ true → IsInSomeGap zs (cell_on f.away k)
    in_some_gap k full = let at = in_chosen k full in (at.number f.away.axis, gap_of at.number k at.lies)

    -- within a gap the column doesn't change
    pub steady_in : (m : ℕ) (k l : ℤ) → is_in_gap zs m (cell_on f.away k) ≡ true → is_in_gap zs m (cell_on f.away l) ≡ true → column_at f (is_full s) g j k ≡ true → column_at f (is_full s) g j l ≡ true
    steady_in m k l in_k in_l full =
        let at = in_chosen k full in
        let here = moved at.number m k k at.lies in_k in
        let there = moved at.number m k l at.lies in_l in
        union.inside (numbered f.away.axis m at.number) (cell l) there ∙ sym (union.inside (numbered f.away.axis m at.number) (cell k) here) ∙ full

  module _ (chosen shaded : List Bool) (first : ℕ) (are : AreShaded f.away coordinates first chosen shaded) (s other : List Cell)
      (union : IsUnionOf coordinates chosen (is_full s)) (union_too : IsUnionOf coordinates shaded (is_full other)) (plane : ℤ) (in_first : IsCutGap f.away zs plane first) where
    abbrev q : ℤ
    q = point_on f.away plane

    abbrev There : ℤ → Type 0
    There k = IsInSomeGap zs (cell_on f.away k)

    abbrev near : ℤ
    near = cell_on f.away (near_end f.away.forward zs first)

    first_within : suc first < length zs
    first_within = (lies_in zs first (cell_on f.away q) in_first).within

    at_near : is_in_gap zs first (cell_on f.away near) ≡ true
    at_near = subst (λ z. is_in_gap zs first z ≡ true) (sym (cell_on_twice f.away (near_end f.away.forward zs first)))
        (near_end_there zs (ascends f.away.axis) f.away.forward first first_within)

    steady_to : (k : ℤ) → near ≤ℤ k → k ≤ℤ q → column_at f (is_full s) g j k ≡ column_at f (is_full s) g j q
    steady_to k low high =
        let in_k = between zs (ascends f.away.axis) f.away.forward first k q in_first low high in
        same_tests (column_at f (is_full s) g j k) (column_at f (is_full s) g j q)
        (steady_in chosen s union first k q in_k in_first) (steady_in chosen s union first q k in_first in_k)

    -- what is shaded stands at or behind something that is full
    from_full : (k : ℤ) → column_at f (is_full other) g j k ≡ true → (n : ℤ) × (near ≤ℤ n) × (n ≤ℤ k) × (column_at f (is_full s) g j n ≡ true)
    from_full k full =
        let lit = in_chosen shaded other union_too k full in
        let a = f.away.axis in
        let forward = f.away.forward in
        let inside = numbers_within lit.number (cell k) lit.lies in
        let from = (are lit.number inside).0 lit.chosen_there in
        let m = from.0 in
        let gap = gap_of lit.number k lit.lies in
        let few = inside a in
        let start = first_within in
        let m_few : m < gaps_along coordinates a = comes_within forward first m (lit.number a) (gaps_along coordinates a) (omega arith) few from.1 from.2 in
        let m_within : suc m < length zs = omega arith in
        let n : ℤ = cell_on f.away (near_end forward zs m) in
        let in_m : is_in_gap zs m (cell_on f.away n) ≡ true = subst (λ z. is_in_gap zs m z ≡ true) (sym (cell_on_twice f.away (near_end forward zs m)))
        (near_end_there zs (ascends a) forward m m_within) in (
          n,
          nearest zs (ascends a) forward first m n first_within in_m from.1,
          nearest zs (ascends a) forward m (lit.number a) k m_within gap from.2,
          union.inside (numbered a m lit.number) (cell n) (moved lit.number m k n lit.lies in_m) ∙ from.3,
        )

    -- and what stands there is shaded
    fills_behind : (n k : ℤ) → near ≤ℤ n → n ≤ℤ k → There k → column_at f (is_full s) g j n ≡ true → column_at f (is_full other) g j k ≡ true
    fills_behind n k low high there full =
        let lit = in_chosen chosen s union n full in
        let a = f.away.axis in
        let m = there.0 in
        let number : GridCell = numbered a m lit.number in
        let lies = moved lit.number m n k lit.lies there.1 in
        let gap = gap_of lit.number n lit.lies in
        let reaches = comes zs (ascends a) f.away.forward first (lit.number a) near n at_near gap low in
        let ends = comes zs (ascends a) f.away.forward (lit.number a) m n k gap there.1 high in
        union_too.inside number (cell k) lies ∙ (are number (numbers_within number (cell k) lies)).1 (
          lit.number a,
          reaches,
          subst (IsNoFarther f.away.forward (lit.number a)) (sym (numbered_at a m lit.number)) ends,
          ap (λ (x : GridCell). slice_index_or chosen (grid_cell_place coordinates x) false) (λ t b. numbered_back a m lit.number b t) ∙ lit.chosen_there,
        )

    pub shades : Shades near q There (column_at f (is_full s) g j) (column_at f (is_full other) g j)
    shades = record {
      reached = nearest zs (ascends f.away.axis) f.away.forward first first q first_within in_first (comes_itself f.away.forward first);
      steady = steady_to;
      from = from_full;
      fills = fills_behind;
      there = in_some_gap chosen s union;
      shaded_there = in_some_gap shaded other union_too;
    }
