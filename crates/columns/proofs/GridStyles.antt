-- The styles of a view's segments are made from its columns, one by one.
use Rattle.std.proofs.Common.{◌≡◌, Bool, true, false, ℕ, suc, ◌+◌, ◌-◌, ◌*◌, ◌/◌, ◌%◌, ◌<◌, ◌≤◌, List, [], ◌∷◌, ◌++◌, map, length, take, drop, get_or, ℤ, pos, refl, ap, ap₂, sym, subst, ◌∙◌, arith}
use Rattle.std.specs.List.{flat_map}
use Rattle.std.proofs.lemmas.List.{length-take, length-drop, length-map, ext_get_or, get_or-take, get_or-drop, get_or-map, take-append-drop}
use Rattle.std.proofs.lemmas.Nat.{div-mul-add, mod-mul-add, mul-add-lt}
use Rattle.std.proofs.Math.Nat.{mul_comm, suc-mul, zero-mul}
use Rattle.solid_model.specs.declared.cell.Axis.{Axis}
use Rattle.solid_model.specs.declared.frame.Frame.{Frame}
use Rattle.solid_model.specs.declared.frame.View.{View}
use Rattle.solid_model.specs.declared.segment.Style.{Style}
use Rattle.solid_model.specs.declared.segment.Style.TheVariants.{Blank}
use Rattle.solid_model.specs.DrawnStyle.{solid_drawing}
use Rattle.solid_model.specs.Frames.{frame_of, along, across}
use Rattle.solid_model.specs.Grid.{gaps_along}
use Rattle.solid_model.specs.Panels.{starts_of}
use Rattle.solid_model.specs.Segments.{segment_at, across_of, along_of}
use Rattle.solid_model.specs.PerAxis.{gaps_of}
use Rattle.column_lanes.specs.declared.column.Column.{Column}
use Rattle.columns.specs.ColumnLists.{AreColumns}
use Rattle.column_laws.specs.GridPanels.{IsColumnBeside, IsStyleBetween, AreStylesAlong}
use Rattle.column_laws.proofs.GridSegments.{segment_drawn}
use Rattle.lemmas.proofs.Pushed.{HoldsSoFar}

-- ---- columns beside a line

-- places along and across are places to the right and upwards
places_within : (f : Frame) (sizes : Axis → ℕ) (upright : Bool) (start line : ℕ) → start < sizes (along f upright).axis → line < sizes (across f upright).axis
    → (across_of upright line start < sizes f.right.axis) × (along_of upright line start < sizes f.up.axis)
places_within f sizes true start line l m = (m, l)
places_within f sizes false start line l m = (l, m)

-- the column there stands in the list
pub column_within : (f : Frame) (sizes : Axis → ℕ) (upright : Bool) (start line : ℕ) → start < sizes (along f upright).axis → line < sizes (across f upright).axis
    → along_of upright line start * sizes f.right.axis + across_of upright line start < sizes f.up.axis * sizes f.right.axis
column_within f sizes upright start line l m =
    let p = places_within f sizes upright start line l m in
    let within = mul-add-lt (along_of upright line start) (sizes f.right.axis) (across_of upright line start) (sizes f.up.axis) p.1 p.0 in
    omega (arith, mul_comm (sizes f.right.axis) (sizes f.up.axis))

-- it is the one beside the line
pub beside_line : (f : Frame) (sizes : Axis → ℕ) (chosen : List Bool) (upright : Bool) (start line : ℕ) (columns : List Column) (column : Column) → AreColumns f sizes chosen columns
    → start < sizes (along f upright).axis → line < sizes (across f upright).axis
    → column ≡ get_or columns (along_of upright line start * sizes f.right.axis + across_of upright line start) record { 0 = 0 }
    → IsColumnBeside f sizes chosen upright start line column.0
beside_line f sizes chosen upright start line columns column are l m e =
    let p = places_within f sizes upright start line l m in
    subst (λ (c : Column). IsColumnBeside f sizes chosen upright start line c.0) (sym e)
    (record { inside = λ within k. are.each (across_of upright line start) (along_of upright line start) p.0 p.1 k; outside = λ beyond. absurd (omega arith) })

-- ---- styles, line by line

-- a list by lines, from what stands at each place
module _ (f : ℤ → ℤ → Style) (starts : List ℤ) where
  abbrev n : ℕ
  n = length starts

  styles_from_places : (lines : List ℤ) (styles : List Style) → length styles ≡ length lines * n
      → ((i j : ℕ) → i < n → j < length lines → get_or styles (j * n + i) Blank ≡ f (get_or lines j (pos 0)) (get_or starts i (pos 0)))
      → styles ≡ flat_map (λ line. map (f line) starts) lines
  styles_from_places [] styles count at = none styles (count ∙ zero-mul n)
    where
      none : (xs : List Style) → length xs ≡ 0 → xs ≡ []
      none [] e = refl
      none (x ∷ xs) e = absurd (omega arith)
  styles_from_places (line ∷ lines) styles count at =
      sym (take-append-drop n styles) ∙ ap₂ ◌++◌ first (styles_from_places lines (drop n styles) (omega (arith, length-drop n styles, longer)) rest)
    where
      longer : length styles ≡ length lines * n + n
      longer = count ∙ suc-mul (length lines) n

      as_long : length (take n styles) ≡ length (map (f line) starts)
      as_long = omega (arith, length-take n styles, length-map starts (f line), longer)

      first : take n styles ≡ map (f line) starts
      first = ext_get_or Blank (take n styles) (map (f line) starts) as_long (λ i l.
          let within : i < n = omega (arith, as_long, length-map starts (f line)) in
          let here : i ≡ 0 * n + i = omega (arith, zero-mul n) in
          get_or-take n styles i Blank within ∙ ap (λ p. get_or styles p Blank) here ∙ at i 0 within (omega arith) ∙ sym (get_or-map (f line) starts i (pos 0) Blank within))

      rest : (i j : ℕ) → i < n → j < length lines → get_or (drop n styles) (j * n + i) Blank ≡ f (get_or lines j (pos 0)) (get_or starts i (pos 0))
      rest i j l m =
          let farther : n + (j * n + i) ≡ suc j * n + i = omega (arith, suc-mul j n) in
          get_or-drop n styles (j * n + i) Blank ∙ ap (λ p. get_or styles p Blank) farther ∙ at i (suc j) l (omega arith)

-- the style at a place of the list
abbrev pub IsStyleAt : Frame → (Axis → ℕ) → List Bool → Bool → ℕ → ℕ → Style → Type 0
IsStyleAt f sizes chosen upright width p style = IsStyleBetween f sizes chosen upright (p % width) (p / width) style

-- all of them are those of the union's drawing
pub all_styles : (counts : Axis → ℕ) (chosen : List Bool) (v : View) (upright : Bool) (styles : List Style) (width many : ℕ)
    → width ≡ gaps_of counts (along (frame_of v) upright).axis → many ≡ counts (across (frame_of v) upright).axis * width
    → HoldsSoFar (IsStyleAt (frame_of v) (gaps_of counts) chosen upright width) styles many → AreStylesAlong counts chosen v upright styles
all_styles counts chosen v upright styles width many wide whole so_far coordinates has s union =
    styles_from_places (λ line start. solid_drawing s (segment_at v upright start line)) starts lines styles count at
  where
    f : Frame
    f = frame_of v

    lines : List ℤ
    lines = coordinates (across f upright).axis

    all_starts : List ℤ
    all_starts = coordinates (along f upright).axis

    starts : List ℤ
    starts = starts_of all_starts

    -- a segment begins at each coordinate along the line but the last
    starts_count : length starts ≡ length all_starts - 1
    starts_count = omega (arith, length-take (length all_starts - 1) all_starts)

    same_width : length starts ≡ width
    same_width = starts_count ∙ ap (λ n. n - 1) (has.count (along f upright).axis) ∙ sym wide

    count : length styles ≡ length lines * length starts
    count = so_far.count ∙ whole ∙ ap₂ ◌*◌ (sym (has.count (across f upright).axis)) (sym same_width)

    same_gaps : gaps_of counts ≡ gaps_along coordinates
    same_gaps t a = sym (has.count a) t - 1

    between : (i j : ℕ) → i < length starts → j < length lines
        → IsStyleBetween f (gaps_along coordinates) chosen upright i j (get_or styles (j * length starts + i) Blank)
    between i j l m =
        let p : ℕ = j * length starts + i in
        let place : p < many = omega (arith, mul-add-lt j (length starts) i (length lines) m l, count, so_far.count, mul_comm (length starts) (length lines)) in
        let column : p % width ≡ i = ap (λ w. p % w) (sym same_width) ∙ mod-mul-add j (length starts) i l in
        let line : p / width ≡ j = ap (λ w. p / w) (sym same_width) ∙ div-mul-add j (length starts) i l in
        subst (λ sizes. IsStyleBetween f sizes chosen upright i j (get_or styles p Blank)) same_gaps
        (subst (λ x. IsStyleBetween f (gaps_of counts) chosen upright x j (get_or styles p Blank)) column
        (subst (λ y. IsStyleBetween f (gaps_of counts) chosen upright (p % width) y (get_or styles p Blank)) line (so_far.each p Blank place)))

    at : (i j : ℕ) → i < length starts → j < length lines
        → get_or styles (j * length starts + i) Blank ≡ solid_drawing s (segment_at v upright (get_or starts i (pos 0)) (get_or lines j (pos 0)))
    at i j l m =
        let style = between i j l m in
        let within : i < length all_starts - 1 = omega (arith, starts_count) in
        segment_drawn coordinates has.ordered chosen s union v upright i j style.0 style.1 style.2 (omega arith) m (get_or styles (j * length starts + i) Blank) style.3
        ∙ ap (λ start. solid_drawing s (segment_at v upright start (get_or lines j (pos 0)))) (sym (get_or-take (length all_starts - 1) all_starts i (pos 0) within))

-- few coordinates have few gaps
pub few_gaps : (counts gaps : Axis → ℕ) → gaps ≡ gaps_of counts → ((a : Axis) → counts a ≤ 64) → (a : Axis) → gaps a ≤ 64
few_gaps counts gaps e few a = subst (λ (n : Axis → ℕ). n a ≤ 64) (sym e) (omega (arith, few a))

-- columns are those of an equal frame and equal sizes
pub same_columns : (f g : Frame) (sizes others : Axis → ℕ) (chosen : List Bool) (columns : List Column) → f ≡ g → sizes ≡ others
    → AreColumns f sizes chosen columns → AreColumns g others chosen columns
same_columns f g sizes others chosen columns same_frame same_sizes are =
    subst (λ n. AreColumns g n chosen columns) same_sizes (subst (λ x. AreColumns x sizes chosen columns) same_frame are)
