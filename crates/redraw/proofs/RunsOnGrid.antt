-- The runs of a drawing that stays on a grid begin at grid coordinates, so there are few of them.
use Rattle.std.proofs.Common.{◌≡◌, ◌≢◌, inl, ⊎_elim, Bool, ◌*◌, ◌≤◌, List, [], ◌∷◌, map, length, ℤ, pos, ◌-ℤ◌, ◌<ℤ◌, refl, ap, sym, subst, ◌∙◌, arith}
use Rattle.std.proofs.Math.Nat.{mul-le-mul_left}
use Rattle.std.proofs.lemmas.Bool.{both_ways}
use Rattle.std.proofs.lemmas.Int.{ints}
use Rattle.std.proofs.lemmas.List.{length-map}
use Rattle.solid_model.specs.declared.cell.Axis.{Axis}
use Rattle.solid_model.specs.declared.cell.Cell.{Cell}
use Rattle.solid_model.specs.declared.frame.View.{View}
use Rattle.solid_model.specs.declared.runs.Run.{Run}
use Rattle.solid_model.specs.declared.segment.Segment.{Segment}
use Rattle.solid_model.specs.declared.segment.Style.{Style}
use Rattle.solid_model.specs.declared.segment.Style.TheVariants.{Blank}
use Rattle.solid_model.specs.Drawings.{same_style}
use Rattle.solid_model.specs.Frames.{frame_of, along, across}
use Rattle.solid_model.specs.Grid.{Coordinates, IsInSomeGap}
use Rattle.lemmas.specs.Lists.{Member, Ascends}
use Rattle.solid_model.proofs.OnGrid.{StaysOnGrid}
use Rattle.solid_model.specs.Runs.{run_style, IsRun, StandsApart, AreRuns}
use Rattle.solid_model.specs.Segments.{segment_at}
use Rattle.solid_model.proofs.InGrid.{gap_or_none}
use Rattle.lemmas.proofs.Lists.{IsWithin, each-at, each-weaker, each-map, member-from_map}
use Rattle.solid_model.proofs.RunStyles.{run_stretch}
use Rattle.solid_model.proofs.SameOnGrid.{member_or_not}
use Rattle.solid_model.proofs.Sheets.{same_style-itself, same_style-one}
use Rattle.solid_model.proofs.UnionDrawing.{same_gaps_before}
use Rattle.solid_model.proofs.Unions.{cells_over, member-cells_over, length-cells_over}
use Rattle.lemmas.proofs.WithoutRepeats.{no_longer}

-- ---- where a run begins

-- the point at which a run begins, along and across, as one of a plane
abbrev beginning : Run → Cell
beginning r = record { x = pos 0; y = r.from; z = r.at }

-- runs that stand apart begin at two points
apart_begins : (a b : Run) → IsRun a → StandsApart a b → beginning a ≢ beginning b
apart_begins a b run apart same =
    let on : a.at ≡ b.at = ap (λ (c : Cell). c.z) same in
    let from : a.from ≡ b.from = ap (λ (c : Cell). c.y) same in
    let long = run.0 in
    ⊎_elim {C = ⊥} (λ l. omega (arith, ints)) (λ l. ⊎_elim {C = ⊥} (λ m. omega (arith, ints)) (λ m. omega (arith, ints, m.0)) l.1) apart

runs_begin_once : (rs : List Run) → AreRuns rs → Ascends ◌≢◌ (map beginning rs)
runs_begin_once [] runs = tt
runs_begin_once (r ∷ rs) runs = (
  each-map beginning (λ c. beginning r ≢ c) rs (each-weaker (StandsApart r) (λ b. beginning r ≢ beginning b) rs (λ b. apart_begins r b runs.0.0) runs.1.0),
  runs_begin_once rs (runs.0.1, runs.1.1),
)

-- runs whose lines are among some numbers, and whose beginnings are among others, are no more than there are pairs of them
no_more_runs : (rs : List Run) (starts lines : List ℤ) → AreRuns rs → ((r : Run) → Member rs r → Member starts r.from × Member lines r.at)
    → length rs ≤ length lines * length starts
no_more_runs rs starts lines runs among =
    let fewer = no_longer (map beginning rs) (cells_over (pos 0 ∷ []) starts lines) (runs_begin_once rs runs) within in
    omega (arith, fewer, length-map rs beginning, length-cells_over (pos 0 ∷ []) starts lines)
  where
    within : IsWithin (map beginning rs) (cells_over (pos 0 ∷ []) starts lines)
    within c k =
        let m = member-from_map beginning rs c k in
        let h = among m.0 m.1 in
        subst (Member (cells_over (pos 0 ∷ []) starts lines)) m.2 (member-cells_over (pos 0 ∷ []) starts lines (beginning m.0) (inl refl) h.0 h.1)

-- ---- on a grid

module _ (coordinates : Coordinates) (ascends : (a : Axis) → Ascends ◌<ℤ◌ (coordinates a)) (drawing : Segment → Style) (stays : StaysOnGrid coordinates drawing)
    (v : View) (upright : Bool) (rs : List Run) (runs : AreRuns rs) (shows : (j z : ℤ) → run_style rs j z ≡ drawing (segment_at v upright z j)) where
  abbrev starts : List ℤ
  starts = coordinates (along (frame_of v) upright).axis

  abbrev lines : List ℤ
  lines = coordinates (across (frame_of v) upright).axis

  module _ (r : Run) (k : Member rs r) where
    -- where the run begins the drawing has its style
    style_there : drawing (segment_at v upright r.from r.at) ≡ r.style
    style_there =
        let stretch = run_stretch rs runs r k in
        sym (shows r.at r.from) ∙ sym (same_style-one r.style _ (stretch.inside r.from (omega (arith, ints)) stretch.nonempty))

    drawn_there : drawing (segment_at v upright r.from r.at) ≢ Blank
    drawn_there blank = (each-at IsRun rs r runs.0 k).1 (sym style_there ∙ blank)

    -- just before it has not
    changes_there : drawing (segment_at v upright (r.from -ℤ pos 1) r.at) ≡ drawing (segment_at v upright r.from r.at) → ⊥
    changes_there same =
        let before = shows r.at (r.from -ℤ pos 1) ∙ same ∙ style_there in
        both_ways _ (run_stretch rs runs r k).before (ap (same_style r.style) before ∙ same_style-itself r.style)

    line_on_grid : Member lines r.at
    line_on_grid = ⊎_elim (λ m. m) (λ none. absurd (drawn_there (stays.off_lines v upright r.from r.at none))) (member_or_not lines r.at)

    start_in_gap : (gap : IsInSomeGap starts r.from) → Member starts r.from
    start_in_gap gap = ⊎_elim (λ m. m)
        (λ none. absurd (changes_there (stays.steady v upright gap.0 (r.from -ℤ pos 1) r.from r.at ((same_gaps_before starts r.from none gap.0).1 gap.1) gap.1)))
        (member_or_not starts r.from)

    start_on_grid : Member starts r.from
    start_on_grid = ⊎_elim start_in_gap (λ none. absurd (drawn_there (stays.off_ends v upright r.from r.at none)))
        (gap_or_none starts (ascends (along (frame_of v) upright).axis) r.from)

    -- a run begins at grid coordinates
    pub begins_on_grid : Member starts r.from × Member lines r.at
    begins_on_grid = (start_on_grid, line_on_grid)

  -- on a grid with at most 64 coordinates along each axis there are at most 4,096 runs
  pub few_runs : ((a : Axis) → length (coordinates a) ≤ 64) → length rs ≤ 4096
  few_runs few =
      let most = no_more_runs rs starts lines runs begins_on_grid in
      let along_few = few (along (frame_of v) upright).axis in
      let across_few = few (across (frame_of v) upright).axis in
      omega (arith, most, mul-le-mul_left (length lines) along_few, across_few)
