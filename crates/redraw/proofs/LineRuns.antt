-- The runs of one line, stretch by stretch.
use Rattle.std.proofs.Common.{◌≡◌, ◌≢◌, ◌⊎◌, inl, inr, ⊎_elim, ℕ, suc, ◌-◌, ◌<◌, ◌≤◌, List, [], ◌∷◌, ◌++◌, length, ℤ, pos, ◌≤ℤ◌, ◌<ℤ◌, IsTrue, refl, sym, ap, ◌∙◌, arith}
use Rattle.std.proofs.Math.ListN.{get_or-eq_default}
use Rattle.std.proofs.lemmas.Bool.{cases_lt}
use Rattle.std.proofs.lemmas.Int.{ints}
use Rattle.solid_model.specs.declared.runs.Run.{Run}
use Rattle.solid_model.specs.declared.segment.Style.{Style}
use Rattle.solid_model.specs.declared.segment.Style.TheVariants.{Blank}
use Rattle.solid_model.specs.Grid.{is_in_gap, IsInSomeGap}
use Rattle.lemmas.specs.Lists.{Member, Each, Ascends}
use Rattle.solid_model.specs.Runs.{run_style, StandsApart, AreRuns}
use Rattle.solid_model.proofs.Gaps.{member, lies_in, earlier_less, earlier_at_most}
use Rattle.solid_model.proofs.InGrid.{some_gap_or_outside}
use Rattle.lemmas.proofs.ListPlaces.{member-at}
use Rattle.lemmas.proofs.Lists.{each-at, each-weaker, each-push, member-push}
use Rattle.redraw.specs.GridRuns.{cell_style, IsStretchEnd, IsWithLine}
use Rattle.redraw.proofs.LastRuns.{run_style-uncovered, blank_past, runs_push, push-elsewhere, push-covered, apart_later}

-- the cells of a line from one up to but without another, as a run
abbrev pub stretch : ℤ → List ℤ → List Style → ℕ → ℕ → Run
stretch at ends styles cell end = record { at = at; from = member ends cell; to = member ends end; style = cell_style styles cell }

-- the runs of the cells before one: what begins at this cell stands apart from all of them
pub record AreRunsBefore (at : ℤ) (ends : List ℤ) (styles : List Style) (before : List Run) (cell : ℕ) (rs : List Run) : Type 0 where
  pub within : cell ≤ length styles
  pub are_runs : AreRuns rs
  pub apart : Each (λ x. StandsApart x (stretch at ends styles cell cell)) rs
  pub members : (r : Run) → Member rs r → Member before r ⊎ (r.at ≡ at)
  pub others : (j z : ℤ) → j ≢ at → run_style rs j z ≡ run_style before j z
  pub shown : (k : ℕ) (z : ℤ) → k < cell → IsTrue (is_in_gap ends k z) → run_style rs at z ≡ cell_style styles k
  pub off_ends : (z : ℤ) → (IsInSomeGap ends z → ⊥) → run_style rs at z ≡ Blank

module _ (at : ℤ) (ends : List ℤ) (styles : List Style) (ascends : Ascends ◌<ℤ◌ ends) (count : length styles ≡ length ends - 1) (before : List Run) where
  -- runs on earlier lines are none of this line
  pub before_line : AreRuns before → Each (λ r. r.at <ℤ at) before → AreRunsBefore at ends styles before 0 before
  before_line runs earlier = record {
    within = omega arith;
    are_runs = runs;
    apart = each-weaker (λ r. r.at <ℤ at) (λ x. StandsApart x (stretch at ends styles 0 0)) before (λ r l. inl l) earlier;
    members = λ r k. inl k;
    others = λ j z other. refl;
    shown = λ k z l gap. absurd (omega arith);
    off_ends = λ z none. run_style-uncovered before at z (λ r k on from to. let l = each-at (λ x. x.at <ℤ at) before r earlier k in omega (arith, ints));
  }

  -- all cells of the line
  pub whole_line : (cell : ℕ) (rs : List Run) → length styles ≤ cell → AreRunsBefore at ends styles before cell rs → IsWithLine at ends styles before rs
  whole_line cell rs all so_far = record {
    are_runs = so_far.are_runs;
    members = so_far.members;
    others = so_far.others;
    shown = λ k z gap. let l = (lies_in ends k z gap).within in so_far.shown k z (omega arith) gap;
    off_ends = so_far.off_ends;
  }

  module _ (cell end : ℕ) (rs : List Run) (so_far : AreRunsBefore at ends styles before cell rs) (is_end : IsStretchEnd styles cell end) where
    -- the stretch has some length
    long : member ends cell <ℤ member ends end
    long = earlier_less ends ascends cell end is_end.beyond (let l = is_end.within in let m = is_end.beyond in omega arith)

    -- what lies in a cell of the stretch lies in the stretch
    in_stretch : (k : ℕ) (z : ℤ) → cell ≤ k → k < end → IsTrue (is_in_gap ends k z) → (member ends cell ≤ℤ z) × (z <ℤ member ends end)
    in_stretch k z from to gap =
        let lies = lies_in ends k z gap in
        let low = earlier_at_most ends ascends cell k from (omega (arith, lies.within)) in
        let high = earlier_at_most ends ascends (suc k) end (omega arith) (let l = is_end.within in let m = is_end.beyond in omega arith) in
        (omega (arith, ints, lies.low), omega (arith, ints, lies.high))

    -- what lies in a cell before it doesn't
    before_stretch : (k : ℕ) (z : ℤ) → k < cell → IsTrue (is_in_gap ends k z) → z <ℤ member ends cell
    before_stretch k z l gap =
        let lies = lies_in ends k z gap in
        let high = earlier_at_most ends ascends (suc k) cell (omega arith) (let m = is_end.within in let n = is_end.beyond in omega arith) in
        omega (arith, ints, lies.high)

    -- what lies in no cell doesn't
    outside_stretch : (z : ℤ) → (IsInSomeGap ends z → ⊥) → member ends cell ≤ℤ z → z <ℤ member ends end → ⊥
    outside_stretch z none from to =
        let l = is_end.within in
        let m = is_end.beyond in
        ⊎_elim {C = ⊥} none (⊎_elim {C = ⊥}
        (λ beyond. let p = beyond (member ends cell) (member-at ends cell (pos 0) (omega arith)) in omega (arith, ints))
        (λ behind. let p = behind (member ends end) (member-at ends end (pos 0) (omega arith)) in omega (arith, ints)))
        (some_gap_or_outside ends ascends z)

    -- what begins behind the stretch stands apart from all runs before it
    still_apart : Each (λ x. StandsApart x (stretch at ends styles end end)) rs
    still_apart = each-weaker (λ x. StandsApart x (stretch at ends styles cell cell)) (λ x. StandsApart x (stretch at ends styles end end)) rs
        (λ x. apart_later x (stretch at ends styles cell cell) (stretch at ends styles end end) refl long) so_far.apart

    -- a blank stretch is no run
    pub blank_stretch : cell_style styles cell ≡ Blank → AreRunsBefore at ends styles before end rs
    blank_stretch blank = record {
      within = is_end.within;
      are_runs = so_far.are_runs;
      apart = still_apart;
      members = so_far.members;
      others = so_far.others;
      shown = λ k z l gap. elim (cases_lt k cell) as (λ _. run_style rs at z ≡ cell_style styles k) [
        | inl earlier ↦ so_far.shown k z earlier gap
        | inr later ↦ blank_past rs (stretch at ends styles cell cell) so_far.apart z (in_stretch k z later l gap).0 ∙ sym (is_end.same k later l ∙ blank)
      ];
      off_ends = so_far.off_ends;
    }

    -- another one is
    module _ (drawn : cell_style styles cell ≢ Blank) where
      abbrev run : Run
      run = stretch at ends styles cell end

      -- the next cell has another style, if there is one
      differs : cell_style styles cell ≢ cell_style styles end
      differs = λ same. elim (cases_lt end (length styles)) as (λ _. ⊥) [
        | inl more ↦ is_end.differs more (sym same)
        | inr last ↦ drawn (same ∙ get_or-eq_default styles Blank last)
      ]

      more_runs : AreRuns (rs ++ run ∷ [])
      more_runs = runs_push rs run so_far.are_runs (long, drawn) so_far.apart

      shows : (k : ℕ) (z : ℤ) → k < end → IsTrue (is_in_gap ends k z) → run_style (rs ++ run ∷ []) at z ≡ cell_style styles k
      shows k z l gap = elim (cases_lt k cell) as (λ _. run_style (rs ++ run ∷ []) at z ≡ cell_style styles k) [
        | inl earlier ↦ push-elsewhere rs run at z (λ on from to. let b = before_stretch k z earlier gap in omega (arith, ints)) ∙ so_far.shown k z earlier gap
        | inr later ↦ (let inside = in_stretch k z later l gap in push-covered rs run more_runs z inside.0 inside.1 ∙ sym (is_end.same k later l))
      ]

      pub drawn_stretch : AreRunsBefore at ends styles before end (rs ++ run ∷ [])
      drawn_stretch = record {
        within = is_end.within;
        are_runs = more_runs;
        apart = each-push (λ x. StandsApart x (stretch at ends styles end end)) rs run still_apart (inr (refl, inr (refl, differs)));
        members = λ r k. ⊎_elim (so_far.members r) (λ same. inr (sym (ap (λ (n : Run). n.at) same))) (member-push rs run r k);
        others = λ j z other. push-elsewhere rs run j z (λ on from to. other (sym on)) ∙ so_far.others j z other;
        shown = shows;
        off_ends = λ z none. push-elsewhere rs run at z (λ on. outside_stretch z none) ∙ so_far.off_ends z none;
      }
