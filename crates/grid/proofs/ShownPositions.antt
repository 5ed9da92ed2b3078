-- A view's runs begin and end where the style changes along their lines, and lie on the lines that are drawn.
use Rattle.std.proofs.Common.{◌≡◌, ◌≢◌, ◌⊎◌, inl, inr, ⊎_elim, ◌↔◌, Bool, true, false, not, List, [], ◌∷◌, ◌++◌, ℤ, pos, ◌-ℤ◌, ◌≤ℤ◌, ◌<ℤ◌, refl, sym, ap, subst, ◌∙◌, append_assoc, arith}
use Rattle.std.proofs.lemmas.Bool.{both_ways}
use Rattle.std.proofs.lemmas.Int.{ints, by_lt_z}
use Rattle.solid_model.specs.declared.cell.Axis.{Axis}
use Rattle.solid_model.specs.declared.frame.View.{View}
use Rattle.solid_model.specs.declared.frame.View.TheVariants.{Front, Top, Side}
use Rattle.solid_model.specs.declared.runs.Run.{Run}
use Rattle.solid_model.specs.declared.segment.Segment.{Segment}
use Rattle.solid_model.specs.declared.segment.Style.{Style}
use Rattle.solid_model.specs.declared.segment.Style.TheVariants.{Blank}
use Rattle.solid_model.specs.Drawings.{same_style}
use Rattle.solid_model.specs.Frames.{frame_of, along}
use Rattle.solid_model.specs.Grid.{IsDrawnAcross, ChangesAt, IsGridCoordinate}
use Rattle.lemmas.specs.Lists.{Member}
use Rattle.solid_model.specs.Runs.{run_covers, run_style, IsRun, AreRuns, DrawingRuns, runs_along, style_in}
use Rattle.solid_model.specs.PerView.{of_view}
use Rattle.solid_model.specs.Segments.{segment_at}
use Rattle.solid_model.proofs.InGrid.{blank_or_drawn}
use Rattle.lemmas.proofs.Lists.{each-at, member-append, member-append_left, member-append_right, member-push, member-push_last, member-map, member-from_map}
use Rattle.solid_model.proofs.RunStyles.{covers_parts, covers_from, covering_run, run_stretch, in_runs}
use Rattle.solid_model.proofs.Sheets.{same_style-one}
use Rattle.grid.specs.Positions.{ends_of, run_lines, ShowsByKind, ShowsInView, ShowsInSomeView}

-- ---- the ends of runs

-- z is an end of a run
abbrev IsEnd : Run → ℤ → Type 0
IsEnd r z = (r.from ≡ z) ⊎ (r.to ≡ z)

-- an end of a run of the list is listed
member-ends : (rs : List Run) (r : Run) (z : ℤ) → Member rs r → IsEnd r z → Member (ends_of rs) z
member-ends [] r z k e = absurd k
member-ends (q ∷ rs) r z (inl same) (inl e) = inl (ap (λ (n : Run). n.from) same ∙ e)
member-ends (q ∷ rs) r z (inl same) (inr e) = inr (inl (ap (λ (n : Run). n.to) same ∙ e))
member-ends (q ∷ rs) r z (inr k) e = inr (inr (member-ends rs r z k e))

-- and what is listed is one
member-from_ends : (rs : List Run) (z : ℤ) → Member (ends_of rs) z → (r : Run) × Member rs r × IsEnd r z
member-from_ends [] z k = absurd k
member-from_ends (r ∷ rs) z (inl e) = (r, inl refl, inl e)
member-from_ends (r ∷ rs) z (inr (inl e)) = (r, inl refl, inr e)
member-from_ends (r ∷ rs) z (inr (inr k)) = let m = member-from_ends rs z k in (m.0, inr m.1, m.2)

-- ---- along a line, and across it

module _ (rs : List Run) (runs : AreRuns rs) where
  -- what a run covers has its style
  pub run_style-covered : (r : Run) → Member rs r → (j z : ℤ) → run_covers j z r ≡ true → run_style rs j z ≡ r.style
  run_style-covered r k j z e =
      let p = covers_parts j z r e in
      subst (λ i. run_style rs i z ≡ r.style) p.0 (sym (same_style-one r.style _ ((run_stretch rs runs r k).inside z p.1 p.2)))

  -- where the style changes at z, no run covers the unit lengths on both sides
  none_across : (line z : ℤ) → run_style rs line (z -ℤ pos 1) ≢ run_style rs line z → (r : Run) → Member rs r
      → run_covers line (z -ℤ pos 1) r ≡ true → run_covers line z r ≡ true → ⊥
  none_across line z changes r k before after = changes (run_style-covered r k line (z -ℤ pos 1) before ∙ sym (run_style-covered r k line z after))

  -- so a run begins or ends there
  change-is_end : (line z : ℤ) → run_style rs line (z -ℤ pos 1) ≢ run_style rs line z → (r : Run) × Member rs r × IsEnd r z
  change-is_end line z changes = ⊎_elim ends begins (blank_or_drawn (run_style rs line z))
    where
      begins : run_style rs line z ≢ Blank → (r : Run) × Member rs r × IsEnd r z
      begins drawn =
          let m = covering_run rs line z drawn in
          let p = covers_parts line z m.0 m.2 in
          let earlier = λ (l : m.0.from ≤ℤ (z -ℤ pos 1)). none_across line z changes m.0 m.1
          (subst (λ j. run_covers j (z -ℤ pos 1) m.0 ≡ true) p.0 (covers_from m.0 (z -ℤ pos 1) l (omega (arith, ints, p.2)))) m.2 in
          (m.0, m.1, inl (by_lt_z m.0.from z (λ l. absurd (earlier (omega (arith, ints)))) (λ l. omega (arith, ints, p.1))))

      ends : run_style rs line z ≡ Blank → (r : Run) × Member rs r × IsEnd r z
      ends blank =
          let m = covering_run rs line (z -ℤ pos 1) (λ none. changes (none ∙ sym blank)) in
          let p = covers_parts line (z -ℤ pos 1) m.0 m.2 in
          let later = λ (l : z <ℤ m.0.to). none_across line z changes m.0 m.1 m.2
          (subst (λ j. run_covers j z m.0 ≡ true) p.0 (covers_from m.0 z (omega (arith, ints, p.1)) l)) in
          (m.0, m.1, inr (by_lt_z z m.0.to (λ l. absurd (later l)) (λ l. omega (arith, ints, p.2))))

  -- at each end of a run the style changes on its line, since the run is maximal
  end-is_change : (r : Run) → Member rs r → (z : ℤ) → IsEnd r z → run_style rs r.at (z -ℤ pos 1) ≢ run_style rs r.at z
  end-is_change r k z (inl e) same =
      let s = run_stretch rs runs r k in
      both_ways _ s.before (ap (same_style r.style) (subst (λ y. run_style rs r.at (y -ℤ pos 1) ≡ run_style rs r.at y) (sym e) same)
      ∙ s.inside r.from (omega (arith, ints)) s.nonempty)
  end-is_change r k z (inr e) same =
      let s = run_stretch rs runs r k in
      both_ways _ s.after (ap (same_style r.style) (sym (subst (λ y. run_style rs r.at (y -ℤ pos 1) ≡ run_style rs r.at y) (sym e) same))
      ∙ s.inside (r.to -ℤ pos 1) (omega (arith, ints, s.nonempty)) (omega (arith, ints)))

  -- where a run lies something is drawn
  drawn_on_line : (r : Run) → Member rs r → run_style rs r.at r.from ≢ Blank
  drawn_on_line r k blank =
      let is = each-at IsRun rs r runs.0 k in
      is.1 (sym (run_style-covered r k r.at r.from (covers_from r r.from (omega (arith, ints)) is.0)) ∙ blank)

-- ---- what a view shows

module _ (d : DrawingRuns) (v : View) (upright : Bool) (own : AreRuns (runs_along upright (of_view v d))) (other : AreRuns (runs_along (not upright) (of_view v d))) where
  -- the runs that run along, and those across
  abbrev rs : List Run
  rs = runs_along upright (of_view v d)

  abbrev ss : List Run
  ss = runs_along (not upright) (of_view v d)

  -- what the view shows at z
  abbrev Shows : ℤ → Type 0
  Shows z = IsDrawnAcross (style_in d) v upright z ⊎ ChangesAt (style_in d) v upright z

  -- it shows something at the ends of the one, and at the lines of the other
  runs_show : (z : ℤ) → Member (ends_of rs ++ run_lines ss) z → Shows z
  runs_show z k = ⊎_elim at_end on_line (member-append (ends_of rs) (run_lines ss) z k)
    where
      at_end : Member (ends_of rs) z → Shows z
      at_end l =
          let m = member-from_ends rs z l in
          inr (
            m.0.at,
            λ same. end-is_change rs own m.0 m.1 z m.2
                (sym (in_runs d v upright (z -ℤ pos 1) m.0.at) ∙ same ∙ in_runs d v upright z m.0.at),
          )

      on_line : Member (run_lines ss) z → Shows z
      on_line l =
          let m = member-from_map (λ (r : Run). r.at) ss z l in
          inl (
            m.0.from,
            λ blank. drawn_on_line ss other m.0 m.1
                (sym (in_runs d v (not upright) m.0.from m.0.at) ∙ ap (λ j. style_in d (segment_at v (not upright) m.0.from j)) m.2 ∙ blank),
          )

  -- and nowhere else
  shown_by_runs : (z : ℤ) → Shows z → Member (ends_of rs ++ run_lines ss) z
  shown_by_runs z (inl (start, drawn)) =
      let m = covering_run ss z start (λ none. drawn (in_runs d v (not upright) start z ∙ none)) in
      member-append_right (ends_of rs) (run_lines ss) z
      (subst (Member (run_lines ss)) (covers_parts z start m.0 m.2).0 (member-map (λ (r : Run). r.at) ss m.0 m.1))
  shown_by_runs z (inr (line, changes)) =
      let m = change-is_end rs own line z (λ same. changes (in_runs d v upright (z -ℤ pos 1) line ∙ same ∙ sym (in_runs d v upright z line))) in
      member-append_left (ends_of rs) (run_lines ss) z (member-ends rs m.0 z m.1 m.2)

  -- positions, with those that the view shows along segments that run along the axis
  pub with_shown : (a : Axis) → (along (frame_of v) upright).axis ≡ a → (before more : List ℤ)
      → more ≡ (before ++ ends_of (runs_along upright (of_view v d))) ++ run_lines (runs_along (not upright) (of_view v d))
      → (z : ℤ) → Member more z ↔ (Member before z ⊎ ShowsByKind (style_in d) a v upright z)
  with_shown a on before more e z =
      let same = e ∙ append_assoc before (ends_of rs) (run_lines ss) in (
        λ k. ⊎_elim inl (λ l. inr (on, runs_show z l)) (member-append before (ends_of rs ++ run_lines ss) z (subst (λ ys. Member ys z) same k)),
        λ k. subst (λ ys. Member ys z) (sym same)
            (⊎_elim (member-append_left before (ends_of rs ++ run_lines ss) z) (λ s. member-append_right before (ends_of rs ++ run_lines ss) z (shown_by_runs z s.1)) k),
      )

-- positions with those of the one kind and then of the other are those with the view's
pub with_both : (drawing : Segment → Style) (a : Axis) (v : View) (before more all : List ℤ)
    → ((z : ℤ) → Member more z ↔ (Member before z ⊎ ShowsByKind drawing a v false z))
    → ((z : ℤ) → Member all z ↔ (Member more z ⊎ ShowsByKind drawing a v true z))
    → (z : ℤ) → Member all z ↔ (Member before z ⊎ ShowsInView drawing a v z)
with_both drawing a v before more all level upright z = (
  λ k. ⊎_elim (λ l. ⊎_elim inl (λ s. inr (false, s)) ((level z).0 l)) (λ s. inr (true, s)) ((upright z).0 k),
  λ k. ⊎_elim (λ l. (upright z).1 (inl ((level z).1 (inl l)))) (λ s. shown s.0 s.1) k,
)
  where
    shown : (kind : Bool) → ShowsByKind drawing a v kind z → Member all z
    shown true s = (upright z).1 (inr s)
    shown false s = (upright z).1 (inl ((level z).1 (inr s)))

-- ---- from view to view

module _ (drawing : Segment → Style) (a : Axis) where
  -- before the first view there is nothing
  pub none_shown : (z : ℤ) → Member [] z ↔ ShowsInSomeView drawing a [] z
  none_shown z = (λ k. absurd k, λ s. absurd s.1)

  -- positions of some views, with those of one more
  pub with_next : (vs : List View) (v : View) (before more : List ℤ) → ((z : ℤ) → Member before z ↔ ShowsInSomeView drawing a vs z)
      → ((z : ℤ) → Member more z ↔ (Member before z ⊎ ShowsInView drawing a v z)) → (z : ℤ) → Member more z ↔ ShowsInSomeView drawing a (vs ++ v ∷ []) z
  with_next vs v before more own next z = (
    λ k. ⊎_elim (λ l. let s = (own z).0 l in (s.0, member-append_left vs (v ∷ []) s.0 s.1, s.2)) (λ s. (v, member-push_last vs v, s)) ((next z).0 k),
    λ s. (next z).1 (⊎_elim (λ l. inl ((own z).1 (s.0, l, s.2))) (λ e. inr (subst (λ w. ShowsInView drawing a w z) (sym e) s.2)) (member-push vs v s.0 s.1)),
  )

  -- the positions of the three views are the grid coordinates
  pub in_three_views : (zs : List ℤ) → ((z : ℤ) → Member zs z ↔ ShowsInSomeView drawing a (Front ∷ Top ∷ Side ∷ []) z)
      → (z : ℤ) → Member zs z ↔ IsGridCoordinate drawing a z
  in_three_views zs own z = (λ k. let s = (own z).0 k in (s.0, s.2.0, s.2.1.0, s.2.1.1), λ s. (own z).1 (s.0, each_view s.0, (s.1, (s.2, s.3))))
    where
      each_view : (v : View) → Member (Front ∷ Top ∷ Side ∷ []) v
      each_view Front = inl refl
      each_view Top = inr (inl refl)
      each_view Side = inr (inr (inl refl))
