-- How far a solid reaches is seen in a view: an outermost full cell draws an outermost edge.
use Rattle.std.proofs.Common.{◌≡◌, ◌≢◌, ◌⊎◌, inl, inr, ⊎_elim, Bool, suc, ◌-◌, ◌<◌, List, [], ◌∷◌, length, get_or, ℤ, pos, ◌-ℤ◌, ◌≤ℤ◌, ◌<ℤ◌, IsTrue, refl, sym, ap, subst, ◌∙◌, arith}
use Rattle.std.proofs.lemmas.Int.{ints}
use Rattle.solid_model.specs.declared.cell.Axis.{Axis}
use Rattle.solid_model.specs.declared.cell.Cell.{Cell}
use Rattle.solid_model.specs.declared.frame.Frame.{Frame}
use Rattle.solid_model.specs.declared.frame.View.{View}
use Rattle.solid_model.specs.declared.runs.Run.{Run}
use Rattle.solid_model.specs.declared.segment.Segment.{Segment}
use Rattle.solid_model.specs.declared.segment.Style.{Style}
use Rattle.solid_model.specs.declared.segment.Style.TheVariants.{Blank}
use Rattle.solid_model.specs.Boxes.{place_of}
use Rattle.solid_model.specs.Cells.{coordinate, is_full}
use Rattle.solid_model.specs.DrawnStyle.{solid_drawing}
use Rattle.solid_model.specs.Frames.{frame_of, across}
use Rattle.lemmas.specs.Lists.{Member}
use Rattle.solid_model.specs.Runs.{run_style, IsRun, AreRuns}
use Rattle.solid_model.specs.Segments.{segment_at}
use Rattle.lemmas.proofs.Lists.{each-at}
use Rattle.solid_model.proofs.RunStyles.{covers_parts, covering_run}
use Rattle.solid_model.proofs.Styles.{edge_not_blank, drawn_style_drawn, cell_beside_drawn}
use Rattle.solid_model.proofs.Views.{views_are_frames, stands_forward, forward_cell, line_at}
use Rattle.solid_model.proofs.WithinViews.{Greatest, IsOutermost, outermost}
use Rattle.redraw.specs.Files.{IsFarEnd}
use Rattle.redraw.specs.GridRuns.{last_line}
use Rattle.redraw.proofs.LastRuns.{run_style-drawn}

-- ---- far ends and farthest lines

-- something is drawn on the line, and nothing on a farther one
pub record IsFarthestLine (drawing : Segment → Style) (v : View) (upright : Bool) (far : ℤ) : Type 0 where
  pub reached : (start : ℤ) × (drawing (segment_at v upright start far) ≢ Blank)
  pub within : (start line : ℤ) → drawing (segment_at v upright start line) ≢ Blank → line ≤ℤ far

-- a drawing has one farthest line
pub one_farthest : (drawing other : Segment → Style) → ((g : Segment) → drawing g ≡ other g) → (v : View) (upright : Bool) (far too : ℤ)
    → IsFarthestLine drawing v upright far → IsFarthestLine other v upright too → far ≡ too
one_farthest drawing other same v upright far too h k =
    let there = k.within h.reached.0 far (λ blank. h.reached.1 (same _ ∙ blank)) in
    let back = h.within k.reached.0 too (λ blank. k.reached.1 (sym (same _) ∙ blank)) in
    omega (arith, ints)

-- a solid has one far end along an axis
pub one_far_end : (full : Cell → Bool) (a : Axis) (far too : ℤ) → IsFarEnd full a far → IsFarEnd full a too → far ≡ too
one_far_end full a far too h k =
    let there = k.within h.reached.0 h.reached.1 in
    let back = h.within k.reached.0 k.reached.1 in
    omega (arith, ints, h.reached.2, k.reached.2)

module _ (v : View) (upright : Bool) (s : List Cell) where
  abbrev frame : Frame
  frame = frame_of v

  abbrev axis : Axis
  axis = (across frame upright).axis

  -- the place of a cell across the segments is its coordinate
  placed_across : (c : Cell) → place_of (across frame upright) c ≡ coordinate axis c
  placed_across c = forward_cell (across frame upright) (coordinate axis c) (stands_forward v upright)

  -- beside what is drawn on a line a cell is full
  full_beside : (start line : ℤ) → solid_drawing s (segment_at v upright start line) ≢ Blank
      → (c : Cell) × IsTrue (is_full s c) × ((coordinate axis c ≡ line) ⊎ (coordinate axis c ≡ line -ℤ pos 1))
  full_beside start line drawn =
      let g : Segment = segment_at v upright start line in
      let is = views_are_frames v in
      let beside = cell_beside_drawn frame is (is_full s) g (solid_drawing s g) (drawn_style_drawn frame is s g) drawn in
      let here = sym (placed_across beside.cell) in (
        beside.cell,
        beside.is_full,
        ⊎_elim
            (λ e. inl (here ∙ e ∙ line_at v upright start line))
            (λ e. inr (here ∙ e ∙ ap (λ l. l -ℤ pos 1) (line_at v upright start line))) beside.at_line,
      )

  module _ (c : Cell) (full : IsTrue (is_full s c)) where
    -- the outermost edge at the far end
    abbrev edge : IsOutermost frame s v upright Greatest
    edge = outermost frame (views_are_frames v) s v upright Greatest c full

    -- no cell reaches beyond it
    none_beyond : (b : Cell) → IsTrue (is_full s b) → coordinate axis b <ℤ edge.line
    none_beyond b h = let inner = edge.inner b h in let there = placed_across b in omega (arith, ints)

    edge_drawn : solid_drawing s (segment_at v upright edge.start edge.line) ≢ Blank
    edge_drawn =
        let g : Segment = segment_at v upright edge.start edge.line in
        edge_not_blank frame (is_full s) g (solid_drawing s g) (drawn_style_drawn frame (views_are_frames v) s g) edge.depth edge.edge

    far_end : IsFarEnd (is_full s) axis edge.line
    far_end =
        let beside = full_beside edge.start edge.line edge_drawn in
        let inside = none_beyond beside.0 beside.1 in
        record {
          reached = (beside.0, beside.1, ⊎_elim (λ e. absurd (omega (arith, ints))) (λ e. omega (arith, ints)) beside.2);
          within = none_beyond;
        }

    farthest_line : IsFarthestLine (solid_drawing s) v upright edge.line
    farthest_line = record {
      reached = (edge.start, edge_drawn);
      within = λ start line drawn.
          let beside = full_beside start line drawn in
          let inside = none_beyond beside.0 beside.1 in
          ⊎_elim (λ e. omega (arith, ints)) (λ e. omega (arith, ints)) beside.2;
    }

  -- the far end of a solid is the farthest line of its drawing
  pub far_end-is_farthest_line : (far : ℤ) → IsFarEnd (is_full s) axis far → IsFarthestLine (solid_drawing s) v upright far
  far_end-is_farthest_line far end =
      let c = end.reached.0 in
      let full = end.reached.1 in
      subst (IsFarthestLine (solid_drawing s) v upright)
      (one_far_end (is_full s) axis _ far (far_end c full) end) (farthest_line c full)

  -- and the other way round, where a cell is full
  pub farthest_line-is_far_end : (c : Cell) → IsTrue (is_full s c) → (far : ℤ) → IsFarthestLine (solid_drawing s) v upright far → IsFarEnd (is_full s) axis far
  farthest_line-is_far_end c full far farthest =
      subst (IsFarEnd (is_full s) axis)
      (one_farthest (solid_drawing s) (solid_drawing s) (λ g. refl) v upright _ far (farthest_line c full) farthest) (far_end c full)

  -- where a cell is full something is drawn
  pub some_drawn : (c : Cell) → IsTrue (is_full s c) → (start : ℤ) × (line : ℤ) × (solid_drawing s (segment_at v upright start line) ≢ Blank)
  some_drawn c full = let e = edge c full in (e.start, e.line, edge_drawn c full)

-- ---- the last of the runs

-- no run lies beyond the last one
last_is_farthest : (rs : List Run) → AreRuns rs → (r : Run) → Member rs r → r.at ≤ℤ last_line rs
last_is_farthest [] runs r k = absurd k
last_is_farthest (q ∷ []) runs r (inl e) = let same = ap (λ (n : Run). n.at) e in omega (arith, ints)
last_is_farthest (q ∷ []) runs r (inr none) = absurd none
last_is_farthest (q ∷ p ∷ rs) runs r (inl e) =
    let same = ap (λ (n : Run). n.at) e in
    let rest = last_is_farthest (p ∷ rs) (runs.0.1, runs.1.1) p (inl refl) in
    ⊎_elim (λ earlier. omega (arith, ints)) (λ on. omega (arith, ints, on.0)) runs.1.0.0
last_is_farthest (q ∷ p ∷ rs) runs r (inr k) = last_is_farthest (p ∷ rs) (runs.0.1, runs.1.1) r k

-- it is the last member
pub last_line-last : (rs : List Run) (d : Run) → 0 < length rs → (get_or rs (length rs - 1) d).at ≡ last_line rs
last_line-last [] d l = absurd (omega arith)
last_line-last (r ∷ []) d l = refl
last_line-last (r ∷ q ∷ rs) d l =
    let more : length (r ∷ q ∷ rs) - 1 ≡ suc (length (q ∷ rs) - 1) = omega arith in
    ap (λ n. (get_or (r ∷ q ∷ rs) n d).at) more ∙ last_line-last (q ∷ rs) d (omega arith)

-- a run lies on its line, where there are some
last_is_run : (r : Run) (rs : List Run) → (q : Run) × Member (r ∷ rs) q × (q.at ≡ last_line (r ∷ rs))
last_is_run r [] = (r, inl refl, refl)
last_is_run r (p ∷ rs) = let rest = last_is_run p rs in (rest.0, inr rest.1, rest.2)

last_run : (rs : List Run) (r : Run) → Member rs r → (q : Run) × Member rs q × (q.at ≡ last_line rs)
last_run [] r k = absurd k
last_run (p ∷ rs) r k = last_is_run p rs

-- the line of the last run is the farthest one that is drawn
pub last_line-is_farthest : (drawing : Segment → Style) (v : View) (upright : Bool) (rs : List Run) → AreRuns rs
    → ((j z : ℤ) → run_style rs j z ≡ drawing (segment_at v upright z j))
    → (start line : ℤ) → drawing (segment_at v upright start line) ≢ Blank → IsFarthestLine drawing v upright (last_line rs)
last_line-is_farthest drawing v upright rs runs show start line drawn =
    let covering = λ (z j : ℤ) (shown : drawing (segment_at v upright z j) ≢ Blank). covering_run rs j z (λ blank. shown (sym (show j z) ∙ blank)) in
    let some = covering start line drawn in
    let last = last_run rs some.0 some.1 in
    record {
      reached = (
        last.0.from,
        λ blank. run_style-drawn rs runs last.0 last.1 last.0.from (omega (arith, ints)) (each-at IsRun rs last.0 runs.0 last.1).0
            (ap (λ j. run_style rs j last.0.from) last.2 ∙ show (last_line rs) last.0.from ∙ blank),
      );
      within = λ z j shown.
          let r = covering z j shown in
          let at = covers_parts j z r.0 r.2 in
          let l = last_is_farthest rs runs r.0 r.1 in
          omega (arith, ints, at.0);
    }
