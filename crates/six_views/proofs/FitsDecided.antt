-- Of each solid on a grid it is decided whether it fits the runs of further views and sections.
use Rattle.std.proofs.Common.{◌≡◌, ◌⊎◌, inl, inr, Bool, true, false, List, [], ◌∷◌, map, Option, Some, None, ℤ, ◌<ℤ◌, int_eq, refl, sym, ap, subst, ◌∙◌}
use Rattle.std.proofs.lemmas.Bool.{both_ways, false≢true}
use Rattle.std.proofs.lemmas.Bool.Decides.{Decides-int_eq}
use Rattle.dxf_entities.specs.declared.layer.Cut.{Cut}
use Rattle.dxf_entities.specs.declared.layer.Layer.{Layer}
use Rattle.lemmas.specs.Lists.{Ascends}
use Rattle.lemmas.proofs.Decisions.{IsDecided}
use Rattle.solid_model.specs.declared.cell.Axis.{Axis}
use Rattle.solid_model.specs.declared.cell.Cell.{Cell}
use Rattle.solid_model.specs.declared.frame.View.{View}
use Rattle.solid_model.specs.declared.runs.Run.{Run}
use Rattle.solid_model.specs.declared.segment.Style.{Style}
use Rattle.solid_model.specs.Cells.{is_full, IsSolid}
use Rattle.solid_model.specs.DrawnStyle.{solid_drawing}
use Rattle.solid_model.specs.Drawings.{same_style}
use Rattle.solid_model.specs.Grid.{Coordinates, IsUnionOf}
use Rattle.solid_model.specs.Runs.{AreRuns, ViewRuns, runs_along, run_style}
use Rattle.solid_model.specs.PerView.{of_view}
use Rattle.solid_model.specs.Segments.{along_of, across_of, start_of, line_of}
use Rattle.solid_model.proofs.Sheets.{same_style-itself, same_style-one}
use Rattle.solid_model.proofs.Styles.{cell_beside_drawn}
use Rattle.solid_model.proofs.Unions.{some_union}
use Rattle.redraw.proofs.SolidBegins.{solid_begins}
use Rattle.redraw.proofs.SomeFile.{some_file}
use Rattle.section_laws.specs.LeftCells.{DrawsWhatIsLeft, LeavesNothing}
use Rattle.further_views.specs.Further.{FurtherRuns, HasRuns, view_style}
use Rattle.six_views.specs.Fits.{ShowsCut, ShowsLayer, ShowsLeft, ShowsMoved}
use Rattle.six_views.specs.Further.{FitsRuns, ShowsAsked}
use Rattle.six_views.specs.MovedRuns.{moved_run, AreMovedRuns}
use Rattle.six_views.specs.SightFrames.{sight_frame}
use Rattle.six_views.specs.Turned.{turned_cells}
use Rattle.six_views.proofs.Decided.{as_decided, both_decided}
use Rattle.six_views.proofs.MovedRuns.{shows_where_moved}
use Rattle.six_views.proofs.ShownCuts.{left_shown, nothing_shown}
use Rattle.six_views.proofs.SomeLeft.{some_left}
use Rattle.six_views.proofs.Turned.{sight_drawn, sights_are_frames}

-- ---- equal lists of runs

int_decided : (a b : ℤ) → IsDecided (a ≡ b)
int_decided a b = by (int_eq a b) refl
  where
    by : (t : Bool) → int_eq a b ≡ t → IsDecided (a ≡ b)
    by true e = inl ((Decides-int_eq a b).0 e)
    by false e = inr (λ same. both_ways (int_eq a b) e ((Decides-int_eq a b).1 same))

style_decided : (a b : Style) → IsDecided (a ≡ b)
style_decided a b = by (same_style a b) refl
  where
    by : (t : Bool) → same_style a b ≡ t → IsDecided (a ≡ b)
    by true e = inl (same_style-one a b e)
    by false e = inr (λ same. both_ways (same_style a b) e (subst (λ s. same_style a s ≡ true) same (same_style-itself a)))

run_decided : (a b : Run) → IsDecided (a ≡ b)
run_decided a b = as_decided ((a.at ≡ b.at) × ((a.from ≡ b.from) × ((a.to ≡ b.to) × (a.style ≡ b.style)))) (a ≡ b)
    (λ h. λ t. record { at = h.0 t; from = h.1.0 t; to = h.1.1.0 t; style = h.1.1.1 t })
    (λ e. (ap (λ (r : Run). r.at) e, (ap (λ (r : Run). r.from) e, (ap (λ (r : Run). r.to) e, ap (λ (r : Run). r.style) e))))
    (both_decided _ _ (int_decided a.at b.at) (both_decided _ _ (int_decided a.from b.from) (both_decided _ _ (int_decided a.to b.to) (style_decided a.style b.style))))

runs_decided : (rs ss : List Run) → IsDecided (rs ≡ ss)
runs_decided [] [] = inl refl
runs_decided [] (s ∷ ss) = inr (λ e. cc)
runs_decided (r ∷ rs) [] = inr (λ e. cc)
runs_decided (r ∷ rs) (s ∷ ss) = as_decided ((r ≡ s) × (rs ≡ ss)) (r ∷ rs ≡ s ∷ ss) (λ h. λ t. h.0 t ∷ h.1 t)
    (λ e. (cc, cc)) (both_decided _ _ (run_decided r s) (runs_decided rs ss))

-- ---- one layer

solid_turned : (x : Layer) (s : List Cell) → IsSolid s → IsSolid (turned_cells x s)
solid_turned x [] none = none
solid_turned x (c ∷ cs) some = tt

module _ (x : Layer) (shown : ViewRuns) (kept : (upright : Bool) → AreRuns (runs_along upright shown)) where
  abbrev v : View
  v = x.view

  -- whether it is shown whole
  abbrev Whole : List Cell → Type 0
  Whole s = ShowsMoved (sight_frame x) (is_full s) (view_style shown) v

  solid_decided : (s : List Cell) → IsSolid s → IsDecided (Whole s)
  solid_decided s solid =
      let turned = turned_cells x s in
      let (text, (far_x, far_z, d, sheet, is)) = some_file turned (solid_turned x s solid) 0 in
      let (right, up, begins) = solid_begins turned (solid_turned x s solid) v in
      let own : ViewRuns = of_view v d in
      let where_moved = shows_where_moved (sight_frame x) (is_full s) v (solid_drawing turned) (sight_drawn x s) own shown (sheet.runs.runs v) kept
      (λ g of. (λ t. run_style (runs_along g.upright (of_view (sym of t) d)) (line_of g) (start_of g)) ∙ sheet.runs.show g) right up begins in
      as_decided (AreMovedRuns right up shown own) (Whole s) where_moved.1 where_moved.0
      (as_decided (Moved right up own false × Moved right up own true) (AreMovedRuns right up shown own) (λ h. λ upright. each right up own upright h)
      (λ are. (are false, are true)) (both_decided _ _ (decided right up own false) (decided right up own true)))
    where
      Moved : ℤ → ℤ → ViewRuns → Bool → Type 0
      Moved right up own upright = runs_along upright own ≡ map (moved_run (across_of upright right up) (along_of upright right up)) (runs_along upright shown)

      decided : (right up : ℤ) (own : ViewRuns) (upright : Bool) → IsDecided (Moved right up own upright)
      decided right up own upright = runs_decided (runs_along upright own) (map (moved_run (across_of upright right up) (along_of upright right up)) (runs_along upright shown))

      each : (right up : ℤ) (own : ViewRuns) (upright : Bool) → Moved right up own false × Moved right up own true → Moved right up own upright
      each right up own true h = h.1
      each right up own false h = h.0

  whole_decided : (s : List Cell) → IsDecided (Whole s)
  whole_decided [] = inr none
    where
      -- without a cell nothing is shown
      none : Whole [] → ⊥
      none (drawing, draws, (right, up, begins, moved)) =
          let at = begins.at_left in
          let beside = cell_beside_drawn (sight_frame x) (sights_are_frames x) (is_full []) at.0 (drawing at.0) (draws at.0 at.1) at.2 in
          false≢true beside.is_full
  whole_decided (c ∷ cs) = solid_decided (c ∷ cs) tt

  module _ (coordinates : Coordinates) (ascends : (a : Axis) → Ascends ◌<ℤ◌ (coordinates a)) (chosen : List Bool) (s : List Cell)
      (union : IsUnionOf coordinates chosen (is_full s)) where
    -- whether it is shown cut, by what the solid of other grid cells shows
    left_decided : (c : Cut) → IsDecided (ShowsLeft (sight_frame x) c s (view_style shown) v)
    left_decided c = by (some_left (sight_frame x) (sights_are_frames x) coordinates ascends chosen c.at c.area)
      where
        by : ((kept : List Bool) × DrawsWhatIsLeft (sight_frame x) coordinates chosen c.at c.area kept) ⊎ LeavesNothing (sight_frame x) coordinates chosen c.at c.area
            → IsDecided (ShowsLeft (sight_frame x) c s (view_style shown) v)
        by (inr none) = inr (nothing_shown (sight_frame x) (sights_are_frames x) coordinates chosen c s union (view_style shown) v none)
        by (inl (kept, draws)) =
            let other = some_union coordinates ascends kept in
            let same = left_shown (sight_frame x) (sights_are_frames x) coordinates chosen c s union (view_style shown) v kept draws other.0 other.1 in
            as_decided (Whole other.0) (ShowsLeft (sight_frame x) c s (view_style shown) v) same.0 same.1 (whole_decided other.0)

    pub layer_decided : IsDecided (ShowsLayer x s (view_style shown))
    layer_decided = by x.cut
      where
        by : (cut : Option Cut) → IsDecided (ShowsCut cut (sight_frame x) s (view_style shown) v)
        by None = whole_decided s
        by (Some c) = left_decided c

-- ---- all that are asked for

module _ (coordinates : Coordinates) (ascends : (a : Axis) → Ascends ◌<ℤ◌ (coordinates a)) (chosen : List Bool) (s : List Cell)
    (union : IsUnionOf coordinates chosen (is_full s)) where
  pub fits_decided : (e : FurtherRuns) → HasRuns e → IsDecided (FitsRuns e s)
  fits_decided [] runs = inl tt
  fits_decided (v ∷ e) (kept, runs) = both_decided (ShowsAsked s v) (FitsRuns e s)
      (layer_decided v.layer v.runs kept coordinates ascends chosen s union) (fits_decided e runs)
