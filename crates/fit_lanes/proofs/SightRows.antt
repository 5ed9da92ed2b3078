-- The spans of a row, seen from its near end, are those of a view's column.
use Rattle.std.proofs.Common.{◌≡◌, ◌≢◌, ◌⊎◌, inl, inr, Bool, true, false, ◌&&◌, ◌||◌, ◌==◌, nat_lt, ℕ, ◌+◌, ◌-◌, ◌*◌, ◌%◌, ◌^◌, ◌<◌, ◌≤◌, if◌then◌else◌, List, ◌∷◌, [], ◌++◌, slice_index_or, Option, bit_or, pos, w64, refl, ap, sym, subst, ◌∙◌, arith}
use Rattle.std.proofs.lemmas.Bool.{cases_lt, lt-ltb, ltb-true, and_from}
use Rattle.std.proofs.Math.Nat.{mul-le-mul}
use Rattle.std.proofs.lemmas.Nat.Bits.{bit_at_set_same, bit_at_set_other, bit_at-zero}
use Rattle.lemmas.specs.Bits.{is_set}
use Rattle.cell_rows.specs.declared.span.Span.{Span}
use Rattle.cell_rows.specs.Rows.{cell_numbered}
use Rattle.cell_rows.specs.Spans.{is_filled, AreRowSpans}
use Rattle.cell_rows.proofs.FilledSpans.{filled-last}
use Rattle.solid_model.specs.declared.cell.Axis.{Axis}
use Rattle.solid_model.specs.declared.cell.Axis.TheVariants.{X, Y, Z}
use Rattle.solid_model.specs.declared.frame.Frame.{Frame}
use Rattle.solid_model.specs.declared.frame.View.{View}
use Rattle.solid_model.specs.declared.frame.View.TheVariants.{Front, Top, Side}
use Rattle.solid_model.specs.declared.per_axis.PerAxis.{PerAxis}
use Rattle.solid_model.specs.Blocks.{BlockNumbers}
use Rattle.solid_model.specs.Choices.{is_chosen, cells_of_choice}
use Rattle.solid_model.specs.Frames.{frame_of}
use Rattle.solid_model.specs.GridPlaces.{place_in, number_on, grid_cell_in}
use Rattle.solid_model.specs.Cells.{cell_at}
use Rattle.solid_model.specs.PerAxis.{numbers_of, cell_of, numbered}
use Rattle.solid_model.specs.WalledBoxes.{Sizes, is_within, box_place, box_count}
use Rattle.column_laws.specs.GridColumns.{grid_column}
use Rattle.dxf_entities.specs.declared.layer.Layer.{Layer}
use Rattle.six_views.specs.SightFrames.{opposite_frame, sight_frame}
use Rattle.fit_lanes.specs.Cuts.{keeps}

-- ---- a row, bit by bit

module _ (full : ℕ → Bool) where
  -- the bits of a word are those of the cells down to a depth
  abbrev pub GoesTo : ℕ → ℕ → Type 0
  GoesTo depth word = (k : ℕ) → is_set word k ≡ (nat_lt k depth && full k)

  same_or_other : (k d : ℕ) → (k ≡ d) ⊎ (k ≢ d)
  same_or_other k d = elim (cases_lt k d) as (λ _. (k ≡ d) ⊎ (k ≢ d)) [
    | inl l ↦ inr (λ e. omega arith)
    | inr l ↦ elim (cases_lt d k) as (λ _. (k ≡ d) ⊎ (k ≢ d)) [ inl m ↦ inr (λ e. omega arith) | inr m ↦ inl (omega arith) ]
  ]

  below_more : (k d : ℕ) → k ≢ d → nat_lt k d ≡ nat_lt k (d + 1)
  below_more k d other = grind arith

  not_below : (d : ℕ) → nat_lt d d ≡ false
  not_below d = grind arith

  module _ (depth word : ℕ) (so_far : GoesTo depth word) where
    here : (nat_lt depth (depth + 1) && full depth) ≡ full depth
    here = ap (λ b. b && full depth) (lt-ltb depth (depth + 1) (omega arith))

    pub one_full : depth < 64 → full depth ≡ true → GoesTo (depth + 1) (bit_or word (1 * 2 ^ depth % 2 ^ 64))
    one_full within is k = elim (same_or_other k depth) as (λ _. is_set (bit_or word (1 * 2 ^ depth % 2 ^ 64)) k ≡ (nat_lt k (depth + 1) && full k)) [
      | inl e ↦ subst (λ m. is_set (bit_or word (1 * 2 ^ depth % 2 ^ 64)) m ≡ (nat_lt m (depth + 1) && full m)) (sym e)
          (ap (λ b. b == 1) (bit_at_set_same w64 word depth within) ∙ sym is ∙ sym here)
      | inr other ↦ ap (λ b. b == 1) (bit_at_set_other w64 word depth within k other) ∙ so_far k ∙ ap (λ b. b && full k) (below_more k depth other)
    ]

    pub one_empty : full depth ≡ false → GoesTo (depth + 1) word
    one_empty is k = elim (same_or_other k depth) as (λ _. is_set word k ≡ (nat_lt k (depth + 1) && full k)) [
      | inl e ↦ subst (λ m. is_set word m ≡ (nat_lt m (depth + 1) && full m)) (sym e)
          (so_far depth ∙ ap (λ b. b && full depth) (not_below depth) ∙ sym is ∙ sym here)
      | inr other ↦ so_far k ∙ ap (λ b. b && full k) (below_more k depth other)
    ]

-- ---- spans

-- one more, of which a part is seen
pub seen_more : (choice : List Bool) (xs ys : List Span) (one seen : Span) (k n : ℕ) (within : Bool) → seen.block ≡ one.block
    → is_set seen.cells k ≡ (within && is_set one.cells n) → is_filled choice ys k ≡ (within && is_filled choice xs n)
    → is_filled choice (ys ++ seen ∷ []) k ≡ (within && is_filled choice (xs ++ one ∷ []) n)
seen_more choice xs ys one seen k n within same cells so_far =
    filled-last choice ys seen k
    ∙ (λ t. so_far t || (is_chosen choice (same t) && cells t))
    ∙ by within (is_filled choice xs n) (is_chosen choice one.block) (is_set one.cells n)
    ∙ ap (λ b. within && b) (sym (filled-last choice xs one n))
  where
    by : (b f c s : Bool) → ((b && f) || (c && (b && s))) ≡ (b && (f || (c && s)))
    by true f c s = refl
    by false f true s = refl
    by false f false s = refl

-- one of no cell can be left out
pub bare_without : (choice : List Bool) (xs : List Span) (one : Span) (k : ℕ) → one.cells ≡ 0 → is_filled choice xs k ≡ is_filled choice (xs ++ one ∷ []) k
bare_without choice xs one k none = sym (filled-last choice xs one k
    ∙ ap (λ (n : ℕ). is_filled choice xs k || (is_chosen choice one.block && is_set n k)) none
    ∙ ap (λ b. is_filled choice xs k || (is_chosen choice one.block && b)) (ap (λ b. b == 1) (bit_at-zero k))
    ∙ by (is_filled choice xs k) (is_chosen choice one.block))
  where
    by : (f c : Bool) → (f || (c && false)) ≡ f
    by true c = refl
    by false true = refl
    by false false = refl

-- ---- the column of a view

-- the frame of a view, from its own side or from the opposite one
abbrev pub seen_from : Bool → View → Frame
seen_from opposite v = if opposite then opposite_frame v else frame_of v

module _ (x : Layer) (b : BlockNumbers) (n : PerAxis) (i j : ℕ) where
  abbrev f : Frame
  f = sight_frame x

  abbrev sizes : Sizes
  sizes = numbers_of b.sizes

  abbrev a : Axis
  a = f.away.axis

  module _ (first : numbers_of n ≡ numbered a 0 (grid_cell_in f sizes i j 0)) where
    -- the cell of the row at a depth of the view is the view's cell there
    same_place : (o : Bool) (v : View) → numbers_of n ≡ numbered (seen_from o v).away.axis 0 (grid_cell_in (seen_from o v) sizes i j 0) → (k : ℕ)
        → box_place sizes (cell_numbered (seen_from o v).away.axis (number_on sizes (seen_from o v).away k) n) ≡ place_in sizes (grid_cell_in (seen_from o v) sizes i j k)
    same_place true Side e k = λ t. (e t Z * sizes Y + e t Y) * sizes X + k
    same_place true Front e k = λ t. (e t Z * sizes Y + (sizes Y - (k + 1))) * sizes X + e t X
    same_place true Top e k = λ t. (k * sizes Y + e t Y) * sizes X + e t X
    same_place false Side e k = λ t. (e t Z * sizes Y + e t Y) * sizes X + (sizes X - (k + 1))
    same_place false Front e k = λ t. (e t Z * sizes Y + k) * sizes X + e t X
    same_place false Top e k = λ t. ((sizes Z - (k + 1)) * sizes Y + e t Y) * sizes X + e t X

    -- the row's own cell is its first one
    own_cell : (o : Bool) (v : View) → numbers_of n ≡ numbered (seen_from o v).away.axis 0 (grid_cell_in (seen_from o v) sizes i j 0)
        → cell_of n ≡ cell_numbered (seen_from o v).away.axis 0 n
    own_cell true Side e = λ t. cell_at (e t X) n.y n.z
    own_cell true Front e = λ t. cell_at n.x (e t Y) n.z
    own_cell true Top e = λ t. cell_at n.x n.y (e t Z)
    own_cell false Side e = λ t. cell_at (e t X) n.y n.z
    own_cell false Front e = λ t. cell_at n.x (e t Y) n.z
    own_cell false Top e = λ t. cell_at n.x n.y (e t Z)

    pub first_cell : cell_of n ≡ cell_numbered a 0 n
    first_cell = own_cell x.opposite x.view first

    -- it stands in the box
    abbrev WithinBox : Bool → View → Type 0
    WithinBox o v = numbers_of n ≡ numbered (seen_from o v).away.axis 0 (grid_cell_in (seen_from o v) sizes i j 0)
        → i < sizes (seen_from o v).right.axis → j < sizes (seen_from o v).up.axis → (k : ℕ) (others : Sizes) → k < others (seen_from o v).away.axis
        → others (seen_from o v).right.axis ≡ sizes (seen_from o v).right.axis → others (seen_from o v).up.axis ≡ sizes (seen_from o v).up.axis
        → is_within others (cell_numbered (seen_from o v).away.axis k n) ≡ true

    across_x : (k : ℕ) (o : Sizes) → k < o X → n.y < o Y → n.z < o Z → is_within o (cell_numbered X k n) ≡ true
    across_x k o at y z = and_from (nat_lt k (o X)) (nat_lt n.y (o Y) && nat_lt n.z (o Z)) (lt-ltb k (o X) at)
        (and_from (nat_lt n.y (o Y)) (nat_lt n.z (o Z)) (lt-ltb n.y (o Y) y) (lt-ltb n.z (o Z) z))

    across_y : (k : ℕ) (o : Sizes) → k < o Y → n.x < o X → n.z < o Z → is_within o (cell_numbered Y k n) ≡ true
    across_y k o at x z = and_from (nat_lt n.x (o X)) (nat_lt k (o Y) && nat_lt n.z (o Z)) (lt-ltb n.x (o X) x)
        (and_from (nat_lt k (o Y)) (nat_lt n.z (o Z)) (lt-ltb k (o Y) at) (lt-ltb n.z (o Z) z))

    across_z : (k : ℕ) (o : Sizes) → k < o Z → n.x < o X → n.y < o Y → is_within o (cell_numbered Z k n) ≡ true
    across_z k o at x y = and_from (nat_lt n.x (o X)) (nat_lt n.y (o Y) && nat_lt k (o Z)) (lt-ltb n.x (o X) x)
        (and_from (nat_lt n.y (o Y)) (nat_lt k (o Z)) (lt-ltb n.y (o Y) y) (lt-ltb k (o Z) at))

    same_within : (o : Bool) (v : View) → WithinBox o v
    same_within true Side e l m k o at right up =
        across_x k o at (let p : n.y ≡ sizes Y - (i + 1) = (λ t. e t Y) in omega arith) (let p : n.z ≡ j = (λ t. e t Z) in omega arith)
    same_within true Front e l m k o at right up =
        across_y k o at (let p : n.x ≡ sizes X - (i + 1) = (λ t. e t X) in omega arith) (let p : n.z ≡ j = (λ t. e t Z) in omega arith)
    same_within true Top e l m k o at right up =
        across_z k o at (let p : n.x ≡ i = (λ t. e t X) in omega arith) (let p : n.y ≡ sizes Y - (j + 1) = (λ t. e t Y) in omega arith)
    same_within false Side e l m k o at right up =
        across_x k o at (let p : n.y ≡ i = (λ t. e t Y) in omega arith) (let p : n.z ≡ j = (λ t. e t Z) in omega arith)
    same_within false Front e l m k o at right up =
        across_y k o at (let p : n.x ≡ i = (λ t. e t X) in omega arith) (let p : n.z ≡ j = (λ t. e t Z) in omega arith)
    same_within false Top e l m k o at right up =
        across_z k o at (let p : n.x ≡ i = (λ t. e t X) in omega arith) (let p : n.y ≡ j = (λ t. e t Y) in omega arith)

    -- a depth of the view is a number of the row
    number_below : (forward : Bool) (size k : ℕ) → k < size → (if forward then k else (size - (k + 1))) < size
    number_below true size k l = l
    number_below false size k l = omega arith

    module _ (l : i < sizes f.right.axis) (m : j < sizes f.up.axis) (few : sizes a ≤ 63) where
      -- the row has a place in the list of all of them,
      other_sizes : (o : Bool) (v : View) → (numbered (seen_from o v).away.axis 1 sizes (seen_from o v).right.axis ≡ sizes (seen_from o v).right.axis)
          × (numbered (seen_from o v).away.axis 1 sizes (seen_from o v).up.axis ≡ sizes (seen_from o v).up.axis)
          × (0 < numbered (seen_from o v).away.axis 1 sizes (seen_from o v).away.axis)
      other_sizes true Side = (refl, refl, omega arith)
      other_sizes true Front = (refl, refl, omega arith)
      other_sizes true Top = (refl, refl, omega arith)
      other_sizes false Side = (refl, refl, omega arith)
      other_sizes false Front = (refl, refl, omega arith)
      other_sizes false Top = (refl, refl, omega arith)

      pub row_within : is_within (numbered a 1 sizes) (cell_numbered a 0 n) ≡ true
      row_within = let o = other_sizes x.opposite x.view in same_within x.opposite x.view first l m 0 (numbered a 1 sizes) o.2 o.0 o.1

      module _ (kept : Option ℕ) (rows : List (List Span)) (of : AreRowSpans b a rows) (spans : List Span)
          (seen : (choice : List Bool) (k : ℕ) → is_filled choice spans k
          ≡ ((keeps kept k && nat_lt k (sizes a)) && is_filled choice (slice_index_or rows (box_place (numbered a 1 sizes) (cell_numbered a 0 n)) []) (number_on sizes f.away k))) where
        -- and what is seen of it is the view's column, as far as it is kept
        pub column_seen : (choice : List Bool) (k : ℕ) → is_filled choice spans k ≡ (keeps kept k && grid_column f sizes (cells_of_choice b.numbers choice) i j (pos k))
        column_seen choice k = seen choice k ∙ each_of (keeps kept k) (nat_lt k (sizes a)) (is_filled choice row (number_on sizes f.away k))
            ∙ ap (λ s. keeps kept k && s) (by (nat_lt k (sizes a)) refl)
          where
            each_of : (s t u : Bool) → ((s && t) && u) ≡ (s && (t && u))
            each_of true t u = refl
            each_of false t u = refl

            row : List Span
            row = slice_index_or rows (box_place (numbered a 1 sizes) (cell_numbered a 0 n)) []

            cell : Bool
            cell = slice_index_or (cells_of_choice b.numbers choice) (place_in sizes (grid_cell_in f sizes i j k)) false

            by : (t : Bool) → nat_lt k (sizes a) ≡ t → (nat_lt k (sizes a) && is_filled choice row (number_on sizes f.away k)) ≡ (nat_lt k (sizes a) && cell)
            by false e = ap (λ t. t && is_filled choice row (number_on sizes f.away k)) e ∙ sym (ap (λ t. t && cell) e)
            by true e =
                let deep : k < sizes a = ltb-true k (sizes a) e in
                let number = number_below f.away.forward (sizes a) k deep in
                let within = same_within x.opposite x.view first l m (number_on sizes f.away k) sizes number refl refl in
                ap (λ t. nat_lt k (sizes a) && t)
                (of.each choice n row_within (number_on sizes f.away k) (omega arith)
                ∙ (λ t. within t && slice_index_or (cells_of_choice b.numbers choice) (same_place x.opposite x.view first k t) false))

-- ---- how many rows there are

-- with one cell along an axis a box has few
pub few_numbered : (b : Axis) (sizes : Sizes) → ((a : Axis) → sizes a ≤ 63) → (a : Axis) → numbered b 1 sizes a ≤ 63
few_numbered X sizes few X = omega arith
few_numbered X sizes few Y = few Y
few_numbered X sizes few Z = few Z
few_numbered Y sizes few X = few X
few_numbered Y sizes few Y = omega arith
few_numbered Y sizes few Z = few Z
few_numbered Z sizes few X = few X
few_numbered Z sizes few Y = few Y
few_numbered Z sizes few Z = omega arith

pub few_cells : (sizes : Sizes) → ((a : Axis) → sizes a ≤ 63) → box_count sizes ≤ 250047
few_cells sizes few =
    let face = mul-le-mul {n₂ = 63} {m₂ = 63} (few Z) (few Y) in
    let all = mul-le-mul {n₂ = 3969} {m₂ = 63} face (few X) in omega arith
