-- The file of a brick whose sides differ.
use Rattle.std.proofs.Common.{◌≡◌, ◌≢◌, inl, inr, Bool, true, false, ℕ, zero, suc, ◌+◌, ◌*◌, ◌<◌, List, [], ◌∷◌, length, slice_index_or, ℤ, pos, ◌+ℤ◌, ◌≤ℤ◌, ◌<ℤ◌, IsTrue, refl, sym, ap, subst, ◌∙◌, arith}
use Rattle.std.specs.Fmt.{digits}
use Rattle.std.proofs.lemmas.Bool.{false_from_ne_true}
use Rattle.std.proofs.lemmas.Int.{ints}
use Rattle.solid_model.specs.declared.cell.Axis.{Axis}
use Rattle.solid_model.specs.declared.cell.Axis.TheVariants.{X, Y, Z}
use Rattle.solid_model.specs.declared.cell.Cell.{Cell}
use Rattle.solid_model.specs.declared.frame.View.{View}
use Rattle.solid_model.specs.declared.frame.View.TheVariants.{Front, Top, Side}
use Rattle.solid_model.specs.declared.runs.Run.{Run}
use Rattle.solid_model.specs.declared.segment.Style.TheVariants.{Blank, Solid}
use Rattle.solid_model.specs.Cells.{coordinate, cell_at, is_full}
use Rattle.solid_model.specs.DrawnStyle.{solid_drawing}
use Rattle.solid_model.specs.Grid.{Coordinates, is_in_gap, IsUnionOf}
use Rattle.lemmas.specs.Lists.{Member, Ascends}
use Rattle.solid_model.specs.Panels.{PanelStyles, PanelsStyles, styles_along, AreGridStyles}
use Rattle.solid_model.specs.PerView.{of_view}
use Rattle.solid_model.specs.Runs.{run_style, AreRuns, ViewRuns, DrawingRuns, runs_along}
use Rattle.solid_model.specs.GridBox.{axis_along, axis_across}
use Rattle.solid_model.proofs.Fullness.{is_full-member, member-is_full}
use Rattle.solid_model.proofs.Gaps.{member, lies_in, in_gap as in_gap_of}
use Rattle.solid_model.proofs.RunStyles.{covers_from}
use Rattle.solid_model.proofs.UnionDrawing.{union_on_grid}
use Rattle.solid_model.proofs.Unions.{cells_over, member-cells_over, range_from, member-range_from}
use Rattle.redraw.specs.Files.{AreRunsOf, IsFarEnd, IsFileOf, sheet_lines}
use Rattle.redraw.specs.GridRuns.{AreRunsOn}
use Rattle.redraw.specs.Plain.{plain_file}
use Rattle.redraw.specs.SmallFiles.{brick, brick_file}
use Rattle.redraw.proofs.DrawnRuns.{runs_shown}
use Rattle.redraw.proofs.LastRuns.{run_style-covered, run_style-uncovered}

-- ---- its grid: one cell

-- how far it reaches
abbrev far : Axis → ℕ
far X = 1
far Y = 2
far Z = 3

abbrev ends : ℕ → List ℤ
ends n = pos 0 ∷ pos n ∷ []

abbrev coordinates : Coordinates
coordinates a = ends (far a)

some : (a : Axis) → 0 < far a
some X = omega arith
some Y = omega arith
some Z = omega arith

ascends : (n : ℕ) → 0 < n → Ascends ◌<ℤ◌ (ends n)
ascends n l = ((omega (arith, ints), tt), (tt, tt))

-- the place lies between the ends
abbrev IsBetween : ℕ → ℤ → Type 0
IsBetween n z = (pos 0 ≤ℤ z) × (z <ℤ pos n)

-- what lies in a gap lies in the first one
in_first : (n cell : ℕ) (z : ℤ) → IsTrue (is_in_gap (ends n) cell z) → (cell ≡ 0) × IsBetween n z
in_first n cell z gap = at cell (lies_in (ends n) cell z gap).within gap
  where
    at : (m : ℕ) → suc m < length (ends n) → IsTrue (is_in_gap (ends n) m z) → (m ≡ 0) × IsBetween n z
    at zero l h = let lies = lies_in (ends n) zero z h in (refl, (lies.low, lies.high))
    at (suc m) l h = absurd (omega arith)

-- ---- its cells

abbrev places : Axis → List ℤ
places a = range_from (pos 0) (far a)

all_cells : brick ≡ cells_over (places X) (places Y) (places Z)
all_cells = refl

full_between : (c : Cell) → ((a : Axis) → IsBetween (far a) (coordinate a c)) → is_full brick c ≡ true
full_between c lies = member-is_full brick c (member-cells_over (places X) (places Y) (places Z) c (at X) (at Y) (at Z))
  where
    at : (a : Axis) → Member (places a) (coordinate a c)
    at a = let l = (lies a).0 in let h = (lies a).1 in member-range_from (far a) (pos 0) (coordinate a c) l (omega (arith, ints))

-- a full cell lies in the one gap along each axis
abbrev LiesInGap : Cell → Type 0
LiesInGap c = (a : Axis) → is_in_gap (coordinates a) 0 (coordinate a c) ≡ true

lies_by_axis : (x y z : ℕ) → is_in_gap (ends 1) 0 (pos x) ≡ true → is_in_gap (ends 2) 0 (pos y) ≡ true → is_in_gap (ends 3) 0 (pos z) ≡ true → LiesInGap (cell_at x y z)
lies_by_axis x y z p q r X = p
lies_by_axis x y z p q r Y = q
lies_by_axis x y z p q r Z = r

in_gap : (c : Cell) → IsTrue (is_full brick c) → LiesInGap c
in_gap c full = by (is_full-member brick c full)
  where
    by : Member brick c → LiesInGap c
    by (inl e) = subst LiesInGap e (lies_by_axis 0 0 0 refl refl refl)
    by (inr (inl e)) = subst LiesInGap e (lies_by_axis 0 1 0 refl refl refl)
    by (inr (inr (inl e))) = subst LiesInGap e (lies_by_axis 0 0 1 refl refl refl)
    by (inr (inr (inr (inl e)))) = subst LiesInGap e (lies_by_axis 0 1 1 refl refl refl)
    by (inr (inr (inr (inr (inl e))))) = subst LiesInGap e (lies_by_axis 0 0 2 refl refl refl)
    by (inr (inr (inr (inr (inr (inl e)))))) = subst LiesInGap e (lies_by_axis 0 1 2 refl refl refl)
    by (inr (inr (inr (inr (inr (inr none)))))) = absurd none

union : IsUnionOf coordinates (true ∷ []) (is_full brick)
union = record {
  inside = λ n c lies.
      let x = in_first (far X) (n X) c.x (lies X) in
      let y = in_first (far Y) (n Y) c.y (lies Y) in
      let z = in_first (far Z) (n Z) c.z (lies Z) in
      full_between c (between c x.1 y.1 z.1) ∙ sym (λ t. slice_index_or (true ∷ []) ((z.0 t * 1 + y.0 t) * 1 + x.0 t) false);
  outside = λ c none. false_from_ne_true (is_full brick c) (λ full. none (λ a. (0, in_gap c full a)));
}
  where
    between : (c : Cell) → IsBetween 1 c.x → IsBetween 2 c.y → IsBetween 3 c.z → (a : Axis) → IsBetween (far a) (coordinate a c)
    between c x y z X = x
    between c x y z Y = y
    between c x y z Z = z

-- ---- its runs

-- the two sides of a rectangle, so long, and so far from one another
abbrev sides : ℕ → ℕ → List Run
sides long wide = record { at = pos 0; from = pos 0; to = pos long; style = Solid } ∷ record { at = pos wide; from = pos 0; to = pos long; style = Solid } ∷ []

abbrev rectangle : ℕ → ℕ → ViewRuns
rectangle width height = record { level = sides width height; upright = sides height width }

abbrev rectangles : DrawingRuns
rectangles = record { front = rectangle 1 3; top = rectangle 1 2; side = rectangle 2 3 }

abbrev panel : PanelStyles
panel = record { level = Solid ∷ Solid ∷ []; upright = Solid ∷ Solid ∷ [] }

abbrev panels : PanelsStyles
panels = record { front = panel; top = panel; side = panel }

drawn : AreGridStyles (solid_drawing brick) coordinates panels
drawn Front true = refl
drawn Front false = refl
drawn Top true = refl
drawn Top false = refl
drawn Side true = refl
drawn Side false = refl

module _ (long wide : ℕ) (some_length : 0 < long) (some_width : 0 < wide) where
  are_sides : AreRuns (sides long wide)
  are_sides = (((omega (arith, ints), drawn_solid), ((omega (arith, ints), drawn_solid), tt)), ((inl (omega (arith, ints)), tt), (tt, tt)))
    where
      drawn_solid : Solid ≢ Blank
      drawn_solid e = cc

  -- each side goes all along, on one of the two lines
  record IsSide (r : Run) : Type 0 where
    on : Member (ends wide) r.at
    from : r.from ≡ pos 0
    to : r.to ≡ pos long

  a_side : (r : Run) → Member (sides long wide) r → IsSide r
  a_side r (inl e) = subst IsSide e (record { on = inl refl; from = refl; to = refl })
  a_side r (inr (inl e)) = subst IsSide e (record { on = inr (inl refl); from = refl; to = refl })
  a_side r (inr (inr none)) = absurd none

  covered : (r : Run) → Member (sides long wide) r → (z : ℤ) → IsBetween long z → run_style (sides long wide) r.at z ≡ r.style
  covered r m z (low, high) =
      let side = a_side r m in
      run_style-covered (sides long wide) are_sides r m r.at z (covers_from r z (omega (arith, ints, side.from)) (omega (arith, ints, side.to)))

  on_grid : AreRunsOn (ends wide) (ends long) (Solid ∷ Solid ∷ []) (sides long wide)
  on_grid = record {
    are_runs = are_sides;
    shown = λ line cell z within gap. let at = in_first long cell z gap in shown line cell z within at.0 at.1;
    off_lines = λ j z none. run_style-uncovered (sides long wide) j z (λ r k on from to. none (subst (Member (ends wide)) on (a_side r k).on));
    off_ends = λ j z none. run_style-uncovered (sides long wide) j z (λ r k on from to.
        let side = a_side r k in none (0, first z (omega (arith, ints, side.from), omega (arith, ints, side.to))));
  }
    where
      first : (z : ℤ) → IsBetween long z → is_in_gap (ends long) 0 z ≡ true
      first z (low, high) = in_gap_of (ends long) 0 z (omega arith) low high

      shown : (line cell : ℕ) (z : ℤ) → line < 2 → cell ≡ 0 → IsBetween long z
          → run_style (sides long wide) (member (ends wide) line) z ≡ slice_index_or (Solid ∷ Solid ∷ []) (line * 1 + cell) Blank
      shown zero cell z l none between =
          let there : zero * 1 + cell ≡ 0 = omega arith in
          covered _ (inl refl) z between ∙ sym (ap (λ n. slice_index_or (Solid ∷ Solid ∷ []) n Blank) there)
      shown (suc zero) cell z l none between =
          let there : suc zero * 1 + cell ≡ 1 = omega arith in
          covered _ (inr (inl refl)) z between ∙ sym (ap (λ n. slice_index_or (Solid ∷ Solid ∷ []) n Blank) there)
      shown (suc (suc line)) cell z l none between = absurd (omega arith)

-- ---- its file

runs_of_brick : AreRunsOf (solid_drawing brick) rectangles
runs_of_brick = runs_shown coordinates (λ a. ascends (far a) (some a)) panels (solid_drawing brick)
    (union_on_grid coordinates (λ a. ascends (far a) (some a)) (true ∷ []) brick union) drawn rectangles along_all
  where
    along_all : (v : View) (upright : Bool)
        → AreRunsOn (coordinates (axis_across v upright)) (coordinates (axis_along v upright)) (styles_along upright (of_view v panels)) (runs_along upright (of_view v rectangles))
    along_all Front true = on_grid 3 1 (some Z) (some X)
    along_all Front false = on_grid 1 3 (some X) (some Z)
    along_all Top true = on_grid 2 1 (some Y) (some X)
    along_all Top false = on_grid 1 2 (some X) (some Y)
    along_all Side true = on_grid 3 2 (some Z) (some Y)
    along_all Side false = on_grid 2 3 (some Y) (some Z)

-- the cell that stands farthest out along every axis
reaches : (a : Axis) → IsFarEnd (is_full brick) a (pos (far a))
reaches a = record {
  reached = (cell_at 0 1 2, refl, last a);
  within = λ c full. (in_first (far a) 0 (coordinate a c) (in_gap c full a)).1.1;
}
  where
    last : (b : Axis) → coordinate b (cell_at 0 1 2) +ℤ pos 1 ≡ pos (far b)
    last X = refl
    last Y = refl
    last Z = refl

text : brick_file ≡ plain_file 0 (sheet_lines (pos 1) (pos 3) rectangles)
unfolding digits
text = refl

pub brick_is_file : IsFileOf 0 brick brick_file
brick_is_file = (pos 1, pos 3, rectangles, record { runs = runs_of_brick; right = reaches X; up = reaches Z }, text)
