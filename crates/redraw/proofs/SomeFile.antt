-- A solid has a written file: it reaches somewhere, and its drawing has runs.
use Rattle.std.proofs.Common.{◌≡◌, ◌≢◌, inl, ⊎_elim, Bool, true, false, ℕ, suc, List, [], ◌∷◌, ℤ, pos, ◌+ℤ◌, ◌-ℤ◌, ◌≤ℤ◌, ◌<ℤ◌, IsTrue, refl, ap, sym, subst, ◌∙◌, arith}
use Rattle.std.proofs.lemmas.Int.{ints}
use Rattle.solid_model.specs.declared.cell.Axis.{Axis}
use Rattle.solid_model.specs.declared.cell.Axis.TheVariants.{X, Z}
use Rattle.solid_model.specs.declared.cell.Cell.{Cell}
use Rattle.solid_model.specs.declared.frame.Direction.{Direction}
use Rattle.solid_model.specs.declared.frame.View.{View}
use Rattle.solid_model.specs.declared.frame.View.TheVariants.{Front, Top, Side}
use Rattle.solid_model.specs.declared.runs.Run.{Run}
use Rattle.solid_model.specs.declared.segment.Segment.{Segment}
use Rattle.solid_model.specs.declared.segment.Style.TheVariants.{Blank}
use Rattle.solid_model.specs.Boxes.{place_of}
use Rattle.solid_model.specs.Cells.{coordinate, is_full, IsSolid}
use Rattle.solid_model.specs.DrawnStyle.{solid_drawing}
use Rattle.solid_model.specs.Frames.{frame_of, along, across}
use Rattle.solid_model.specs.Runs.{AreRuns, DrawingRuns, runs_along, run_style}
use Rattle.solid_model.specs.PerView.{of_view}
use Rattle.solid_model.specs.Segments.{segment_at, start_of, line_of}
use Rattle.solid_model.proofs.Fullness.{member-is_full}
use Rattle.lemmas.proofs.Integers.{natural}
use Rattle.solid_model.proofs.Styles.{cell_beside_drawn, drawn_style_drawn}
use Rattle.solid_model.proofs.Views.{views_are_frames}
use Rattle.solid_model.proofs.WithinViews.{Least, Greatest, outermost_by}
use Rattle.redraw.specs.Files.{AreRunsOf, IsFarEnd, IsFileOf, sheet_lines}
use Rattle.redraw.specs.Plain.{plain_file}
use Rattle.redraw.proofs.SomeRuns.{IsAmong, some_runs}

-- ---- the runs of a drawing

-- the runs of each view and kind, as the runs of the three views
abbrev drawing_runs : (View → Bool → List Run) → DrawingRuns
drawing_runs runs = record {
  front = record { level = runs Front false; upright = runs Front true };
  top = record { level = runs Top false; upright = runs Top true };
  side = record { level = runs Side false; upright = runs Side true };
}

-- of each view and kind they are the ones given
runs_of_drawing : (runs : View → Bool → List Run) (v : View) (upright : Bool) → runs v upright ≡ runs_along upright (of_view v (drawing_runs runs))
runs_of_drawing runs Front false = refl
runs_of_drawing runs Front true = refl
runs_of_drawing runs Top false = refl
runs_of_drawing runs Top true = refl
runs_of_drawing runs Side false = refl
runs_of_drawing runs Side true = refl

-- a segment is the one at its own place
at_own_place : (v : View) (upright : Bool) (right up : ℤ) → let g : Segment = record { view = v; upright = upright; right = right; up = up } in segment_at v upright (start_of g) (line_of g) ≡ g
at_own_place v true right up = refl
at_own_place v false right up = refl

-- where the segment at a place begins, and its line
own_place : (v : View) (upright : Bool) (start line : ℤ)
    → (start_of (segment_at v upright start line) ≡ start) × (line_of (segment_at v upright start line) ≡ line)
own_place v true start line = (refl, refl)
own_place v false start line = (refl, refl)

-- ---- a solid

module _ (s : List Cell) (c : Cell) (full : IsTrue (is_full s c)) where
  -- how far it reaches along an axis
  far_end : (a : Axis) → (far : ℤ) × IsFarEnd (is_full s) a far
  far_end a =
      let m = outermost_by Greatest (coordinate a) s c full in
      (coordinate a m.0 +ℤ pos 1, record { reached = (m.0, m.1, refl); within = λ b h. let l = m.2 b h in omega (arith, ints) })

  -- along a direction its cells lie among so many places
  places_along : (d : Direction) → (low : ℤ) × (n : ℕ) × ((b : Cell) → IsTrue (is_full s b) → (low ≤ℤ place_of d b) × (place_of d b <ℤ (low +ℤ pos n)))
  places_along d =
      let least = outermost_by Least (place_of d) s c full in
      let greatest = outermost_by Greatest (place_of d) s c full in
      let n = natural (place_of d greatest.0 -ℤ place_of d least.0) (let l = greatest.2 least.0 least.1 in omega (arith, ints)) in
      (place_of d least.0, suc n.0, λ b h. (least.2 b h, let l = greatest.2 b h in omega (arith, ints, n.1)))

  module _ (v : View) (upright : Bool) where
    -- what is drawn of a view lies among so many lines and places
    drawn_among : (first : ℤ) (lines : ℕ) (low : ℤ) (places : ℕ)
        → ((b : Cell) → IsTrue (is_full s b) → (first ≤ℤ place_of (across (frame_of v) upright) b) × (place_of (across (frame_of v) upright) b <ℤ (first +ℤ pos lines)))
        → ((b : Cell) → IsTrue (is_full s b) → (low ≤ℤ place_of (along (frame_of v) upright) b) × (place_of (along (frame_of v) upright) b <ℤ (low +ℤ pos places)))
        → (j y : ℤ) → solid_drawing s (segment_at v upright y j) ≢ Blank → IsAmong first (suc lines) low places j y
    drawn_among first lines low places on_lines at_places j y shown =
        let g : Segment = segment_at v upright y j in
        let b = cell_beside_drawn (frame_of v) (views_are_frames v) (is_full s) g (solid_drawing s g) (drawn_style_drawn (frame_of v) (views_are_frames v) s g) shown in
        let own = own_place v upright y j in
        let p : ℤ = place_of (across (frame_of v) upright) b.cell in
        let beside : (p ≤ℤ j) × (j ≤ℤ (p +ℤ pos 1)) = ⊎_elim
        (λ h. (omega (arith, ints, own.1), omega (arith, ints, own.1))) (λ h. (omega (arith, ints, own.1), omega (arith, ints, own.1))) b.at_line in
        let line = on_lines b.cell b.is_full in
        let place = at_places b.cell b.is_full in
        let start = b.on_stretch in
        record {
          line_from = omega (arith, ints, line.0, beside.0);
          line_to = omega (arith, ints, line.1, beside.1);
          from = omega (arith, ints, place.0, start, own.0);
          to = omega (arith, ints, place.1, start, own.0);
        }

    -- a view has level and upright runs
    view_has_runs : (rs : List Run) × AreRuns rs × ((j y : ℤ) → run_style rs j y ≡ solid_drawing s (segment_at v upright y j))
    view_has_runs =
        let lines = places_along (across (frame_of v) upright) in
        let places = places_along (along (frame_of v) upright) in
        some_runs (λ j y. solid_drawing s (segment_at v upright y j)) lines.0 (suc lines.1) places.0 places.1
        (drawn_among lines.0 lines.1 places.0 places.1 lines.2 places.2)

  abbrev runs : View → Bool → List Run
  runs v upright = (view_has_runs v upright).0

  -- its drawing has runs
  have_runs : AreRunsOf (solid_drawing s) (drawing_runs runs)
  have_runs = record {
    runs = λ v upright. subst AreRuns (runs_of_drawing runs v upright) (view_has_runs v upright).1;
    show = λ g. ap (λ rs. run_style rs (line_of g) (start_of g)) (sym (runs_of_drawing runs g.view g.upright))
        ∙ (view_has_runs g.view g.upright).2 (line_of g) (start_of g)
        ∙ ap (solid_drawing s) (at_own_place g.view g.upright g.right g.up);
  }

  -- so it has a file
  file_of_full : (decimals : ℕ) → (text : List ℕ) × IsFileOf decimals s text
  file_of_full decimals =
      let x = far_end X in let z = far_end Z in (
        plain_file decimals (sheet_lines x.0 z.0 (drawing_runs runs)),
        (x.0, z.0, drawing_runs runs, record { runs = have_runs; right = x.1; up = z.1 }, refl),
      )

-- each solid has a written file
pub some_file : (s : List Cell) → IsSolid s → (decimals : ℕ) → (text : List ℕ) × IsFileOf decimals s text
some_file [] none decimals = absurd none
some_file (c ∷ cs) some decimals = file_of_full (c ∷ cs) c (member-is_full (c ∷ cs) c (inl refl)) decimals
