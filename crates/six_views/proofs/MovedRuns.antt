-- A solid shows what runs do, moved to least coordinates 0, exactly where its own runs are these, moved.
use Rattle.std.proofs.Common.{◌≡◌, ◌↔◌, inl, inr, Bool, true, false, if◌then◌else◌, List, [], ◌∷◌, map, ℤ, ◌+ℤ◌, ◌-ℤ◌, refl, sym, ap, subst, ◌∙◌, arith}
use Rattle.std.proofs.lemmas.Int.{ints}
use Rattle.solid_model.specs.declared.cell.Cell.{Cell}
use Rattle.solid_model.specs.declared.frame.Frame.{Frame}
use Rattle.solid_model.specs.declared.frame.View.{View}
use Rattle.solid_model.specs.declared.runs.Run.{Run}
use Rattle.solid_model.specs.declared.segment.Segment.{Segment}
use Rattle.solid_model.specs.declared.segment.Style.{Style}
use Rattle.solid_model.specs.Draws.{DrawsView}
use Rattle.solid_model.specs.Moved.{BeginsAt, IsMovedToZero}
use Rattle.solid_model.specs.Runs.{run_covers, run_style, IsRun, StandsApart, AreRuns, ViewRuns, runs_along}
use Rattle.solid_model.specs.Segments.{along_of, across_of, start_of, line_of, segment_at, farther}
use Rattle.lemmas.proofs.Lists.{each-map, each-weaker, ascends-map}
use Rattle.solid_model.proofs.Moved.{one_moved}
use Rattle.solid_model.proofs.RunStyles.{covers_parts, covers_from, same_styles_one_list}
use Rattle.solid_model.proofs.Styles.{one_style}
use Rattle.six_views.specs.Fits.{ShowsMoved}
use Rattle.further_views.specs.Further.{view_style}
use Rattle.six_views.specs.MovedRuns.{moved_run, AreMovedRuns}
use Rattle.six_views.proofs.Turned.{same_tests}

-- ---- moved runs

module _ (a b : ℤ) where
  -- a moved run covers what the run covers, moved
  covers_moved : (r : Run) (j z : ℤ) → run_covers (j +ℤ a) (z +ℤ b) (moved_run a b r) ≡ run_covers j z r
  covers_moved r j z = same_tests _ _
      (λ e. let p = covers_parts (j +ℤ a) (z +ℤ b) (moved_run a b r) e in
      let at : r.at ≡ j = omega (arith, ints, p.0) in
      subst (λ k. run_covers k z r ≡ true) at (covers_from r z (omega (arith, ints, p.1)) (omega (arith, ints, p.2))))
      (λ e. let p = covers_parts j z r e in
      subst (λ k. run_covers (k +ℤ a) (z +ℤ b) (moved_run a b r) ≡ true) p.0
      (covers_from (moved_run a b r) (z +ℤ b) (omega (arith, ints, p.1)) (omega (arith, ints, p.2))))

  style_moved : (rs : List Run) (j z : ℤ) → run_style (map (moved_run a b) rs) (j +ℤ a) (z +ℤ b) ≡ run_style rs j z
  style_moved [] j z = refl
  style_moved (r ∷ rs) j z = λ t. if covers_moved r j z t then r.style else style_moved rs j z t

  apart_moved : (x y : Run) → StandsApart x y → StandsApart (moved_run a b x) (moved_run a b y)
  apart_moved x y (inl before) = inl (omega (arith, ints))
  apart_moved x y (inr (same, inl ends)) = inr (ap (λ k. k +ℤ a) same, inl (omega (arith, ints)))
  apart_moved x y (inr (same, inr (meets, differ))) = inr (ap (λ k. k +ℤ a) same, inr (ap (λ k. k +ℤ b) meets, differ))

  -- they are runs
  pub runs_moved : (rs : List Run) → AreRuns rs → AreRuns (map (moved_run a b) rs)
  runs_moved rs are = (
    each-map (moved_run a b) IsRun rs (each-weaker IsRun (λ r. IsRun (moved_run a b r)) rs (λ r is. (let l = is.0 in omega (arith, ints), is.1)) are.0),
    ascends-map (moved_run a b) StandsApart StandsApart rs apart_moved are.1,
  )

-- a run is another one, moved, exactly where its parts are
pub run_is_moved : (a b : ℤ) (own shown : Run) → own.at ≡ shown.at +ℤ a → own.from ≡ shown.from +ℤ b → own.to ≡ shown.to +ℤ b → own.style ≡ shown.style
    → own ≡ moved_run a b shown
run_is_moved a b own shown at from to style = λ i. record { at = at i; from = from i; to = to i; style = style i }

pub moved_parts : (a b : ℤ) (own shown : Run) → own ≡ moved_run a b shown
    → (own.at ≡ shown.at +ℤ a) × ((own.from ≡ shown.from +ℤ b) × ((own.to ≡ shown.to +ℤ b) × (own.style ≡ shown.style)))
moved_parts a b own shown e = (ap (λ (r : Run). r.at) e, (ap (λ (r : Run). r.from) e, (ap (λ (r : Run). r.to) e, ap (λ (r : Run). r.style) e)))

-- ---- what a solid shows

module _ (f : Frame) (full : Cell → Bool) (v : View) (drawing : Segment → Style) (draws : DrawsView f full drawing v)
    (own shown : ViewRuns) (runs : (upright : Bool) → AreRuns (runs_along upright own)) (runs_too : (upright : Bool) → AreRuns (runs_along upright shown))
    (show : (g : Segment) → g.view ≡ v → view_style own g ≡ drawing g) (right up : ℤ) (begins : BeginsAt drawing v right up) where
  abbrev across : Bool → ℤ
  across upright = across_of upright right up

  abbrev along : Bool → ℤ
  along upright = along_of upright right up

  -- a view of a solid's drawing is one
  module _ (other : Segment → Style) (draws_too : DrawsView f full other v) where
    agree : (g : Segment) → g.view ≡ v → other g ≡ drawing g
    agree g of = one_style f full g _ _ (draws_too g of) (draws g of)

    begins_too : (r u : ℤ) → BeginsAt other v r u → BeginsAt drawing v r u
    begins_too r u at = record {
      stands_from = λ g of drawn. at.stands_from g of (λ e. drawn (sym (agree g of) ∙ e));
      at_left = let h = at.at_left in (h.0, h.1, (λ e. h.2 (agree h.0 h.1 ∙ e)), h.3);
      at_bottom = let h = at.at_bottom in (h.0, h.1, (λ e. h.2 (agree h.0 h.1 ∙ e)), h.3);
    }

    is_moved : IsMovedToZero other (view_style shown) v → IsMovedToZero drawing (view_style shown) v
    is_moved (r, u, at, same) = (r, u, begins_too r u at, λ g of. same g of ∙ agree (farther r u g) of)

  -- where it is moved to what is shown, the runs are moved
  module _ (moved : IsMovedToZero drawing (view_style shown) v) where
    same : (g : Segment) → g.view ≡ v → view_style shown g ≡ view_style own (farther right up g)
    same g of = one_moved drawing (view_style shown) (λ h. drawing (farther right up h)) v moved (right, up, begins, λ h of_it. refl) g of
        ∙ sym (show (farther right up g) of)

    same_at : (upright : Bool) (j z : ℤ) → run_style (runs_along upright shown) j z ≡ run_style (runs_along upright own) (j +ℤ across upright) (z +ℤ along upright)
    same_at true j z = same (segment_at v true z j) refl
    same_at false j z = same (segment_at v false z j) refl

    same_runs : (upright : Bool) → runs_along upright own ≡ map (moved_run (across upright) (along upright)) (runs_along upright shown)
    same_runs upright = same_styles_one_list (runs_along upright own) (map (moved_run (across upright) (along upright)) (runs_along upright shown))
        (runs upright) (runs_moved (across upright) (along upright) (runs_along upright shown) (runs_too upright))
        (λ j z.
        let back_j : (j -ℤ across upright) +ℤ across upright ≡ j = omega (arith, ints) in
        let back_z : (z -ℤ along upright) +ℤ along upright ≡ z = omega (arith, ints) in
        (λ t. run_style (runs_along upright own) (sym back_j t) (sym back_z t))
        ∙ sym (same_at upright (j -ℤ across upright) (z -ℤ along upright))
        ∙ sym (style_moved (across upright) (along upright) (runs_along upright shown) (j -ℤ across upright) (z -ℤ along upright))
        ∙ (λ t. run_style (map (moved_run (across upright) (along upright)) (runs_along upright shown)) (back_j t) (back_z t)))

  -- and the other way round
  from_moved : AreMovedRuns right up shown own → (g : Segment) → g.view ≡ v → view_style shown g ≡ drawing (farther right up g)
  from_moved are g of = sym (style_moved (across g.upright) (along g.upright) (runs_along g.upright shown) (line_of g) (start_of g))
      ∙ (λ t. run_style (sym (are g.upright) t) (line_of g +ℤ across g.upright) (start_of g +ℤ along g.upright))
      ∙ at_farther g.upright g.right g.up
      ∙ show (farther right up g) of
    where
      at_farther : (upright : Bool) (r u : ℤ)
          → run_style (runs_along upright own) ((if upright then r else u) +ℤ across upright) ((if upright then u else r) +ℤ along upright)
          ≡ run_style (runs_along upright own) (if upright then (r +ℤ right) else (u +ℤ up)) (if upright then (u +ℤ up) else (r +ℤ right))
      at_farther true r u = refl
      at_farther false r u = refl

  pub shows_where_moved : ShowsMoved f full (view_style shown) v ↔ AreMovedRuns right up shown own
  shows_where_moved = (
    (λ s. same_runs (is_moved s.0 s.1 s.2)),
    (λ are. (drawing, draws, (right, up, begins, from_moved are))),
  )
