-- The columns of a choice, and what a cut leaves of them.
use Rattle.std.proofs.Common.{◌≡◌, ◌↔◌, ◌⊎◌, inl, inr, Bool, true, false, not, ◌&&◌, nat_lt, ℕ, ◌+◌, ◌-◌, ◌*◌, ◌/◌, ◌%◌, ◌≤◌, ◌<◌, if◌then◌else◌, List, length, slice_index_or, Option, Some, None, pos, refl, ap, sym, subst, ◌∙◌, arith}
use Rattle.std.proofs.lemmas.Bool.{both_ways, and_parts, and_from, cases_lt, lt-ltb, ltb-true, false_from_ne_true, eqb-true, eq-eqb}
use Rattle.lemmas.specs.Bits.{is_set}
use Rattle.lemmas.proofs.Tests.{same_tests}
use Rattle.cell_rows.specs.declared.span.Span.{Span}
use Rattle.cell_rows.specs.Spans.{is_filled, AreFilled}
use Rattle.column_laws.specs.GridColumns.{grid_column}
use Rattle.dxf_entities.specs.declared.layer.Cut.{Cut}
use Rattle.dxf_entities.specs.declared.layer.Layer.{Layer}
use Rattle.section_laws.specs.Shaded.{AreLeftCells, IsLeftCell, IsNoFarther}
use Rattle.six_views.specs.SightFrames.{sight_frame}
use Rattle.solid_model.specs.declared.cell.Axis.{Axis}
use Rattle.solid_model.specs.declared.cell.Axis.TheVariants.{X, Y, Z}
use Rattle.solid_model.specs.declared.frame.Frame.{Frame}
use Rattle.solid_model.specs.declared.frame.View.{View}
use Rattle.solid_model.specs.declared.frame.View.TheVariants.{Front, Top, Side}
use Rattle.solid_model.specs.Choices.{cells_of_choice}
use Rattle.solid_model.specs.Grid.{Coordinates, GridCell, gaps_along}
use Rattle.solid_model.specs.GridPlaces.{place_in, number_on, grid_cell_in}
use Rattle.solid_model.specs.PerAxis.{numbered}
use Rattle.solid_model.specs.WalledBoxes.{Sizes}
use Rattle.fit_lanes.specs.Cuts.{is_kept, keeps, AreLeftOf, HaveOnlyKept, IsLeftBit, KeepsDepths}
use Rattle.fit_lanes.specs.Sights.{width, height, AreSights, AreSeenColumns}
use Rattle.fit_lanes.proofs.SightRows.{seen_from}

-- columns of these grid cells at the depths that are kept
pub record AreKeptColumns (x : Layer) (sizes : Sizes) (chosen : List Bool) (kept : Option ℕ) (columns : List ℕ) : Type 0 where
  pub count : length columns ≡ (height x sizes + 2) * (width x sizes + 1)
  pub inside : (p : ℕ) → p < length columns → p % (width x sizes + 1) < width x sizes → 1 ≤ p / (width x sizes + 1) → p / (width x sizes + 1) ≤ height x sizes
      → (k : ℕ) → is_set (slice_index_or columns p 0) k
      ≡ (keeps kept k && grid_column (sight_frame x) sizes chosen (p % (width x sizes + 1)) (p / (width x sizes + 1) - 1) (pos k))
  pub outside : (p : ℕ) → p < length columns → (width x sizes ≤ p % (width x sizes + 1)) ⊎ ((p / (width x sizes + 1) ≡ 0) ⊎ (height x sizes < p / (width x sizes + 1)))
      → (k : ℕ) → is_set (slice_index_or columns p 0) k ≡ false

-- what is filled behind the points are those of the choice's cells
pub filled_kept : (x : Layer) (sizes : Sizes) (numbers : List (Option ℕ)) (kept : Option ℕ) (sights : List (List Span)) → AreSights x sizes numbers kept sights
    → (choice : List Bool) (columns : List ℕ) → AreFilled choice sights columns → length columns ≡ length sights → AreKeptColumns x sizes (cells_of_choice numbers choice) kept columns
filled_kept x sizes numbers kept sights are choice columns filled long = record {
  count = long ∙ are.count;
  inside = λ p l a b c k. (let m : p < length sights = omega (arith, l, long) in filled p k m ∙ (are.each p m).inside a b c choice k);
  outside = λ p l out k. (let m : p < length sights = omega (arith, l, long) in filled p k m ∙ ap (λ spans. is_filled choice spans k) ((are.each p m).outside out));
}

-- so they lie within those depths,
pub kept_within : (x : Layer) (sizes : Sizes) (chosen : List Bool) (kept : Option ℕ) (columns : List ℕ) → AreKeptColumns x sizes chosen kept columns → HaveOnlyKept kept columns
kept_within x sizes chosen kept columns are p l k on = elim (cases_lt (p % (width x sizes + 1)) (width x sizes)) as (λ _. keeps kept k ≡ true) [
  | inl a ↦ elim (cases_lt (p / (width x sizes + 1)) 1) as (λ _. keeps kept k ≡ true) [
    | inl none ↦ absurd (both_ways (is_set (slice_index_or columns p 0) k) (are.outside p l (inr (inl (let e : p / (width x sizes + 1) ≡ 0 = omega (arith, none) in e))) k) on)
    | inr b ↦ elim (cases_lt (height x sizes) (p / (width x sizes + 1))) as (λ _. keeps kept k ≡ true) [
      | inl out ↦ absurd (both_ways (is_set (slice_index_or columns p 0) k) (are.outside p l (inr (inr out)) k) on)
      | inr c ↦ (and_parts (keeps kept k) _ (sym (are.inside p l a b c k) ∙ on)).0
    ]
  ]
  | inr out ↦ absurd (both_ways (is_set (slice_index_or columns p 0) k) (are.outside p l (inl out) k) on)
]

-- and where nothing is cut they are all of them
pub whole_seen : (x : Layer) (sizes : Sizes) (chosen : List Bool) (columns : List ℕ) → AreKeptColumns x sizes chosen None columns → AreSeenColumns x sizes chosen columns
whole_seen x sizes chosen columns are = record { count = are.count; inside = are.inside; outside = are.outside }

row_below : (q h : ℕ) → 1 ≤ q → q ≤ h → q - 1 < h
row_below q h l m = omega arith

-- ---- depths and numbers along a direction

-- the number of a depth, of so many; and the depth of a number
abbrev number : Bool → ℕ → ℕ → ℕ
number forward size k = if forward then k else (size - (k + 1))

number_below : (forward : Bool) (size k : ℕ) → k < size → number forward size k < size
number_below true size k l = l
number_below false size k l = omega arith

number_twice : (forward : Bool) (size k : ℕ) → k < size → number forward size (number forward size k) ≡ k
number_twice true size k l = refl
number_twice false size k l = omega arith

number_order : (forward : Bool) (size a b : ℕ) → a < size → b < size → a ≤ b → IsNoFarther forward (number forward size a) (number forward size b)
number_order true size a b l m o = o
number_order false size a b l m o = omega arith

depth_order : (forward : Bool) (size a b : ℕ) → a < size → b < size → IsNoFarther forward a b → number forward size a ≤ number forward size b
depth_order true size a b l m o = o
depth_order false size a b l m o = omega arith

between_below : (forward : Bool) (size a m b : ℕ) → a < size → b < size → IsNoFarther forward a m → IsNoFarther forward m b → m < size
between_below true size a m b l k p r = omega arith
between_below false size a m b l k p r = omega arith

kept_from : (first k : ℕ) → is_kept false first k ≡ true → first ≤ k
kept_from first k e = elim (cases_lt k first) as (λ _. first ≤ k) [
  | inl l ↦ absurd (both_ways (not (nat_lt k first)) (ap not (lt-ltb k first l)) e)
  | inr l ↦ l
]

from_kept : (first k : ℕ) → first ≤ k → is_kept false first k ≡ true
from_kept first k l = ap not (let off : nat_lt k first ≡ false = grind (arith, l) in off)

-- ---- cells of a view

module _ (sizes : Axis → ℕ) (i j : ℕ) where
  -- a cell's number along the sight is that of its depth,
  own_number : (o : Bool) (v : View) (k : ℕ) → grid_cell_in (seen_from o v) sizes i j k (seen_from o v).away.axis ≡ number_on sizes (seen_from o v).away k
  own_number true Side k = refl
  own_number true Front k = refl
  own_number true Top k = refl
  own_number false Side k = refl
  own_number false Front k = refl
  own_number false Top k = refl

  -- with that of another depth it is the cell there
  other_number : (o : Bool) (v : View) (m k : ℕ)
      → place_in sizes (numbered (seen_from o v).away.axis (number_on sizes (seen_from o v).away m) (grid_cell_in (seen_from o v) sizes i j k))
      ≡ place_in sizes (grid_cell_in (seen_from o v) sizes i j m)
  other_number true Side m k = refl
  other_number true Front m k = refl
  other_number true Top m k = refl
  other_number false Side m k = refl
  other_number false Front m k = refl
  other_number false Top m k = refl

  -- it lies in the box
  in_box : (o : Bool) (v : View) (k : ℕ) → i < sizes (seen_from o v).right.axis → j < sizes (seen_from o v).up.axis → k < sizes (seen_from o v).away.axis
      → (a : Axis) → grid_cell_in (seen_from o v) sizes i j k a < sizes a
  in_box true Side k l m n X = n
  in_box true Side k l m n Y = omega arith
  in_box true Side k l m n Z = m
  in_box true Front k l m n X = omega arith
  in_box true Front k l m n Y = omega arith
  in_box true Front k l m n Z = m
  in_box true Top k l m n X = l
  in_box true Top k l m n Y = omega arith
  in_box true Top k l m n Z = n
  in_box false Side k l m n X = omega arith
  in_box false Side k l m n Y = l
  in_box false Side k l m n Z = m
  in_box false Front k l m n X = l
  in_box false Front k l m n Y = n
  in_box false Front k l m n Z = m
  in_box false Top k l m n X = l
  in_box false Top k l m n Y = m
  in_box false Top k l m n Z = omega arith

module _ (x : Layer) (coordinates : Coordinates) (c : Cut) (kept : ℕ) (keeps : KeepsDepths coordinates x c kept) (chosen cells : List Bool)
    (are : AreLeftCells c.area (sight_frame x).away coordinates keeps.gap chosen cells) where
  abbrev f : Frame
  f = sight_frame x

  abbrev sizes : Axis → ℕ
  sizes = gaps_along coordinates

  abbrev depths : ℕ
  depths = sizes f.away.axis

  abbrev first : ℕ
  first = number_on sizes f.away keeps.gap

  first_below : first < depths
  first_below = number_below f.away.forward depths keeps.gap keeps.left_from.within

  gap_is : number_on sizes f.away first ≡ keeps.gap
  gap_is = number_twice f.away.forward depths keeps.gap keeps.left_from.within

  module _ (i j : ℕ) (l : i < sizes f.right.axis) (m : j < sizes f.up.axis) where
    abbrev cell : ℕ → GridCell
    cell k = grid_cell_in f sizes i j k

    abbrev full : ℕ → Bool
    full k = slice_index_or chosen (place_in sizes (cell k)) false

    number_is : (k : ℕ) → cell k f.away.axis ≡ number_on sizes f.away k
    number_is = own_number sizes i j x.opposite x.view

    -- a cell is left where its depth is kept, and a nearer one that is kept is full
    abbrev IsLeftAt : Bool → ℕ → Type 0
    IsLeftAt area k = (is_kept area first k ≡ true) × ((n : ℕ) × (n ≤ k) × (is_kept area first n ≡ true) × (full n ≡ true))

    to_cell : (area : Bool) (k : ℕ) → k < depths → IsLeftAt area k → IsLeftCell area f.away sizes keeps.gap chosen (cell k)
    to_cell true k deep (here, (n, less, there, on)) =
        let at = eqb-true k first here in
        let at_too = eqb-true n first there in (
          number_is k ∙ ap (λ d. number_on sizes f.away d) at ∙ gap_is,
          subst (λ d. full d ≡ true) (at_too ∙ sym at) on,
        )
    to_cell false k deep (here, (n, less, there, on)) =
        let near : n < depths = omega (arith, less, deep) in (
          number_on sizes f.away n,
          subst (λ d. IsNoFarther f.away.forward d (number_on sizes f.away n)) gap_is
              (number_order f.away.forward depths first n first_below near (kept_from first n there)),
          subst (IsNoFarther f.away.forward (number_on sizes f.away n)) (sym (number_is k)) (number_order f.away.forward depths n k near deep less),
          ap (λ p. slice_index_or chosen p false) (other_number sizes i j x.opposite x.view n k) ∙ on,
        )

    from_cell : (area : Bool) (k : ℕ) → k < depths → IsLeftCell area f.away sizes keeps.gap chosen (cell k) → IsLeftAt area k
    from_cell true k deep (at, on) =
        let depth : k ≡ first = sym (number_twice f.away.forward depths k deep) ∙ ap (number f.away.forward depths) (sym (number_is k) ∙ at) in
        let here = eq-eqb k first depth in
        (here, (k, omega arith, here, on))
    from_cell false k deep (number_there, far, near, on) =
        let near_too = subst (IsNoFarther f.away.forward number_there) (number_is k) near in
        let below = number_below f.away.forward depths k deep in
        let there = between_below f.away.forward depths keeps.gap number_there (number_on sizes f.away k) keeps.left_from.within below far near_too in
        let n : ℕ = number f.away.forward depths number_there in
        let low = depth_order f.away.forward depths keeps.gap number_there keeps.left_from.within there far in
        let high : n ≤ k = subst (λ d. n ≤ d) (number_twice f.away.forward depths k deep)
        (depth_order f.away.forward depths number_there (number_on sizes f.away k) there below near_too) in (
          from_kept first k (omega (arith, low, high)),
          (
            n,
            high,
            from_kept first n low,
            ap (λ p. slice_index_or chosen p false) (sym (other_number sizes i j x.opposite x.view n k)
                ∙ ap (λ d. place_in sizes (numbered f.away.axis d (cell k))) (number_twice f.away.forward depths number_there there)) ∙ on,
          ),
        )

    -- so the columns that are left are those of the cells that are left
    column_left : (column left : ℕ) → ((k : ℕ) → is_set column k ≡ (is_set kept k && grid_column f sizes chosen i j (pos k)))
        → ((k : ℕ) → (is_set left k ≡ true) ↔ IsLeftBit kept column k) → (k : ℕ) → is_set left k ≡ grid_column f sizes cells i j (pos k)
    column_left column left seen are_left k = same_tests (is_set left k) (grid_column f sizes cells i j (pos k)) to from
      where
        to : is_set left k ≡ true → grid_column f sizes cells i j (pos k) ≡ true
        to e =
            let b = (are_left k).0 e in
            let here = and_parts (nat_lt k depths) (is_kept c.area first k) (sym (keeps.bits k) ∙ b.0) in
            let n : ℕ = b.1.0 in
            let there = and_parts (nat_lt n depths) (is_kept c.area first n) (sym (keeps.bits n) ∙ b.1.2) in
            let both = and_parts (is_set kept n) (grid_column f sizes chosen i j (pos n)) (sym (seen n) ∙ b.1.3) in
            let on = and_parts (nat_lt n depths) (full n) both.1 in
            let deep = ltb-true k depths here.0 in
            and_from (nat_lt k depths) _ here.0 ((are (cell k) (in_box sizes i j x.opposite x.view k l m deep)).1 (to_cell c.area k deep (here.1, (n, b.1.1, there.1, on.1))))

        from : grid_column f sizes cells i j (pos k) ≡ true → is_set left k ≡ true
        from e =
            let p = and_parts (nat_lt k depths) (slice_index_or cells (place_in sizes (cell k)) false) e in
            let deep = ltb-true k depths p.0 in
            let at = from_cell c.area k deep ((are (cell k) (in_box sizes i j x.opposite x.view k l m deep)).0 p.1) in
            let n : ℕ = at.1.0 in
            let near : nat_lt n depths ≡ true = lt-ltb n depths (omega (arith, at.1.1, deep)) in
            let there : is_set kept n ≡ true = keeps.bits n ∙ and_from (nat_lt n depths) _ near at.1.2 in
            (are_left k).1 (
              keeps.bits k ∙ and_from (nat_lt k depths) _ p.0 at.0,
              (n, at.1.1, there, seen n ∙ and_from (is_set kept n) _ there (and_from (nat_lt n depths) _ near at.1.3)),
            )

  pub left_seen : (columns left : List ℕ) → AreKeptColumns x sizes chosen (Some kept) columns → AreLeftOf (Some kept) columns left → length left ≡ length columns
      → AreSeenColumns x sizes cells left
  left_seen columns left seen are_left long = record {
    count = long ∙ seen.count;
    inside = λ p l a b r.
        let there : p < length columns = omega (arith, l, long) in
        column_left (p % (width x sizes + 1)) (p / (width x sizes + 1) - 1) a (row_below (p / (width x sizes + 1)) (height x sizes) b r) (slice_index_or columns p 0) (slice_index_or left p 0)
        (seen.inside p there a b r) (are_left p there);
    outside = λ p l out k.
        let there : p < length columns = omega (arith, l, long) in
        false_from_ne_true (is_set (slice_index_or left p 0) k) (λ e.
        let b = (are_left p there k).0 e in both_ways (is_set (slice_index_or columns p 0) b.1.0) (seen.outside p there out b.1.0) b.1.3);
  }
