-- A view of a solid begins where its first runs do.
use Rattle.std.proofs.Common.{◌≡◌, ◌≢◌, inl, inr, ⊎_elim, Bool, true, false, List, [], ◌∷◌, Some, None, ℤ, ◌≤ℤ◌, IsTrue, refl, sym, ap, subst, ◌∙◌, arith}
use Rattle.std.proofs.lemmas.Bool.{false≢true}
use Rattle.std.proofs.lemmas.Int.{ints}
use Rattle.lemmas.specs.Lists.{Member}
use Rattle.lemmas.proofs.Lists.{each-at}
use Rattle.solid_model.specs.declared.cell.Cell.{Cell}
use Rattle.solid_model.specs.declared.frame.Frame.{Frame}
use Rattle.solid_model.specs.declared.frame.View.{View}
use Rattle.solid_model.specs.declared.runs.Run.{Run}
use Rattle.solid_model.specs.declared.segment.Segment.{Segment}
use Rattle.solid_model.specs.declared.segment.Style.TheVariants.{Blank}
use Rattle.solid_model.specs.Cells.{is_full, IsSolid}
use Rattle.solid_model.specs.DrawnStyle.{solid_drawing}
use Rattle.solid_model.specs.Frames.{frame_of}
use Rattle.solid_model.specs.Moved.{BeginsAt}
use Rattle.solid_model.specs.Runs.{run_style, StandsApart, AreRuns, ViewRuns, runs_along}
use Rattle.solid_model.specs.Segments.{segment_at, line_of}
use Rattle.solid_model.proofs.Fullness.{full_cell_of}
use Rattle.solid_model.proofs.RunStyles.{covering_run, covers_parts}
use Rattle.solid_model.proofs.Styles.{cell_beside_drawn, drawn_style_drawn}
use Rattle.solid_model.proofs.Views.{views_are_frames}
use Rattle.solid_model.proofs.WithinViews.{Least, IsOutermost, outermost}
use Rattle.redraw.proofs.LastRuns.{run_style-drawn}
use Rattle.redraw.proofs.SolidBegins.{begins_beside, outermost_drawn}
use Rattle.further_views.specs.Further.{view_style}
use Rattle.six_views.specs.MovedRuns.{first_line}

-- no run stands on an earlier line than the first one
first_least : (r : Run) (rs : List Run) → AreRuns (r ∷ rs) → (m : Run) → Member (r ∷ rs) m → r.at ≤ℤ m.at
first_least r rs are m (inl same) = let e = ap (λ (n : Run). n.at) same in omega (arith, ints)
first_least r rs are m (inr k) = earlier (each-at (StandsApart r) rs m are.1.0 k)
  where
    earlier : StandsApart r m → r.at ≤ℤ m.at
    earlier (inl before) = omega (arith, ints)
    earlier (inr same) = let e = same.0 in omega (arith, ints)

-- the line of a segment that is told by it
pub line_at : (v : View) (upright : Bool) (start line : ℤ) → line_of (segment_at v upright start line) ≡ line
line_at v true start line = refl
line_at v false start line = refl

-- where a cell is full there is a solid
solid_of_full : (s : List Cell) (c : Cell) → IsTrue (is_full s c) → IsSolid s
solid_of_full [] c full = absurd (false≢true full)
solid_of_full (d ∷ s) c full = tt

module _ (s : List Cell) (v : View) (own : ViewRuns) (runs : (upright : Bool) → AreRuns (runs_along upright own))
    (show : (g : Segment) → g.view ≡ v → view_style own g ≡ solid_drawing s g) where
  abbrev f : Frame
  f = frame_of v

  shown_at : (upright : Bool) (z j : ℤ) → run_style (runs_along upright own) j z ≡ solid_drawing s (segment_at v upright z j)
  shown_at true z j = show (segment_at v true z j) refl
  shown_at false z j = show (segment_at v false z j) refl

  -- a segment that is drawn shows that there is a solid
  pub solid_of_drawn : (g : Segment) → g.view ≡ v → solid_drawing s g ≢ Blank → IsSolid s
  solid_of_drawn g of drawn =
      let b = cell_beside_drawn (frame_of g.view) (views_are_frames g.view) (is_full s) g (solid_drawing s g) (drawn_style_drawn (frame_of g.view) (views_are_frames g.view) s g) drawn in
      solid_of_full s b.cell b.is_full

  -- so does a run
  pub solid_of_run : (upright : Bool) (r : Run) (rs : List Run) → runs_along upright own ≡ r ∷ rs → IsSolid s
  solid_of_run upright r rs is =
      let are : AreRuns (r ∷ rs) = subst AreRuns is (runs upright) in
      let long = are.0.0.0 in
      solid_of_drawn (segment_at v upright r.from r.at) refl (λ blank.
      run_style-drawn (r ∷ rs) are r (inl refl) r.from (omega (arith, ints)) long
      (ap (λ xs. run_style xs r.at r.from) (sym is) ∙ shown_at upright r.from r.at ∙ blank))

  -- the first run stands on the outermost line
  first_on : (upright : Bool) (o : IsOutermost f s v upright Least) (r : Run) (rs : List Run) → runs_along upright own ≡ r ∷ rs → r.at ≡ o.line
  first_on upright o r rs is =
      let are : AreRuns (r ∷ rs) = subst AreRuns is (runs upright) in
      let shown : (z j : ℤ) → run_style (r ∷ rs) j z ≡ solid_drawing s (segment_at v upright z j) = λ z j. ap (λ xs. run_style xs j z) (sym is) ∙ shown_at upright z j in
      let m = covering_run (r ∷ rs) o.line o.start (λ blank. outermost_drawn s v upright o (sym (shown o.start o.line) ∙ blank)) in
      let on = covers_parts o.line o.start m.0 m.2 in
      let low = first_least r rs are m.0 m.1 in
      let long = are.0.0.0 in
      let g : Segment = segment_at v upright r.from r.at in
      let b = cell_beside_drawn f (views_are_frames v) (is_full s) g (solid_drawing s g) (drawn_style_drawn f (views_are_frames v) s g)
      (λ blank. run_style-drawn (r ∷ rs) are r (inl refl) r.from (omega (arith, ints)) long (shown r.from r.at ∙ blank)) in
      let line = line_at v upright r.from r.at in
      let inner = o.inner b.cell b.is_full in
      let high : o.line ≤ℤ r.at = ⊎_elim {C = o.line ≤ℤ r.at} (λ e. omega (arith, ints, line, inner)) (λ e. omega (arith, ints, line, inner)) b.at_line in
      omega (arith, ints, low, on.0, high)

  -- its line, where it is told
  first_is : (upright : Bool) (o : IsOutermost f s v upright Least) (at : ℤ) → first_line (runs_along upright own) ≡ Some at → o.line ≡ at
  first_is upright o at = by (runs_along upright own) refl
    where
      by : (xs : List Run) → runs_along upright own ≡ xs → first_line xs ≡ Some at → o.line ≡ at
      by [] is e = absurd cc
      by (r ∷ rs) is e = let same : r.at ≡ at = cc in sym (first_on upright o r rs is) ∙ same

  -- there is one
  pub first_there : IsSolid s → (upright : Bool) → first_line (runs_along upright own) ≢ None
  first_there solid upright = by (runs_along upright own) refl
    where
      by : (xs : List Run) → runs_along upright own ≡ xs → first_line xs ≢ None
      by [] is e =
          let full = full_cell_of s solid in
          let o = outermost f (views_are_frames v) s v upright Least full.0 full.1 in
          outermost_drawn s v upright o (sym (shown_at upright o.start o.line) ∙ ap (λ xs. run_style xs o.line o.start) is)
      by (r ∷ rs) is e = cc

  -- the view begins at the first upright and the first level one
  pub begins_first : IsSolid s → (right up : ℤ) → first_line own.upright ≡ Some right → first_line own.level ≡ Some up → BeginsAt (solid_drawing s) v right up
  begins_first solid right up at_right at_up =
      let full = full_cell_of s solid in
      let left = outermost f (views_are_frames v) s v true Least full.0 full.1 in
      let bottom = outermost f (views_are_frames v) s v false Least full.0 full.1 in
      subst (λ r. BeginsAt (solid_drawing s) v r up) (first_is true left right at_right)
      (subst (λ u. BeginsAt (solid_drawing s) v left.line u) (first_is false bottom up at_up) (begins_beside s v left bottom))
