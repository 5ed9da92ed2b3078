-- A drawing of finitely many lines has runs, line by line.
use Rattle.std.proofs.Common.{◌≡◌, ◌≢◌, ⊎_elim, inl, ℕ, ◌<◌, List, ℤ, pos, ◌+ℤ◌, ◌-ℤ◌, ◌≤ℤ◌, ◌<ℤ◌, ap, sym, ◌∙◌, arith}
use Rattle.std.proofs.lemmas.Int.{ints}
use Rattle.solid_model.specs.declared.runs.Run.{Run}
use Rattle.solid_model.specs.declared.segment.Style.{Style}
use Rattle.solid_model.specs.declared.segment.Style.TheVariants.{Blank}
use Rattle.lemmas.specs.Lists.{Member, Each}
use Rattle.lemmas.proofs.Lists.{appended, each-at, each-weaker, each-appended, member-appended, member-from_appended, ascends-appended}
use Rattle.solid_model.specs.Runs.{run_style, IsRun, StandsApart, AreRuns}
use Rattle.solid_model.proofs.InGrid.{blank_or_drawn}
use Rattle.lemmas.proofs.Integers.{natural}
use Rattle.solid_model.proofs.RunStyles.{covers_parts, covers_from, covering_run}
use Rattle.redraw.proofs.SheetLines.{style_of_run}
use Rattle.redraw.proofs.PlacesRuns.{IsLineRun, AreFrom, some_line_runs, each_line_run, line_runs_apart, on_line_run}

-- the place y of the line j lies among so many lines and places, counted from the first ones
pub record IsAmong (first : ℤ) (lines : ℕ) (low : ℤ) (places : ℕ) (j y : ℤ) : Type 0 where
  pub line_from : first ≤ℤ j
  pub line_to : j <ℤ (first +ℤ pos lines)
  pub from : low ≤ℤ y
  pub to : y <ℤ (low +ℤ pos places)

module _ (drawn : ℤ → ℤ → Style) (first : ℤ) (lines : ℕ) (low : ℤ) (places : ℕ) (among : (j y : ℤ) → drawn j y ≢ Blank → IsAmong first lines low places j y) where
  -- the runs of the line j
  on_line : (j : ℤ) → (rs : List Run) × AreFrom j (drawn j) low rs
  on_line j = some_line_runs j (drawn j) places low (λ y past.
      ⊎_elim (λ blank. blank) (λ shown. let a = among j y shown in absurd (let to = a.to in omega (arith, ints))) (blank_or_drawn (drawn j y)))

  -- those of the line that is k lines past the first
  abbrev runs_past : ℕ → List Run
  runs_past k = (on_line (first +ℤ pos k)).0

  -- those of all lines
  abbrev all_runs : List Run
  all_runs = appended runs_past lines

  -- each shows what is drawn on its line
  past : (k : ℕ) → Each (IsLineRun (first +ℤ pos k) (drawn (first +ℤ pos k)) low) (runs_past k)
  past k = each_line_run (first +ℤ pos k) (drawn (first +ℤ pos k)) low (runs_past k) (on_line (first +ℤ pos k)).1

  on_past : (k : ℕ) (r : Run) → Member (runs_past k) r → r.at ≡ first +ℤ pos k
  on_past k r m = (each-at _ (runs_past k) r (past k) m).on

  -- they stand in order, apart
  all_are_runs : AreRuns all_runs
  all_are_runs = (
    each-appended IsRun runs_past (λ k. each-weaker (IsLineRun (first +ℤ pos k) (drawn (first +ℤ pos k)) low) IsRun (runs_past k) (λ r run. (run.long, run.shown)) (past k)) lines,
    ascends-appended StandsApart runs_past lines
        (λ k l. line_runs_apart (first +ℤ pos k) (drawn (first +ℤ pos k)) low (runs_past k) (on_line (first +ℤ pos k)).1)
        (λ j k a b sooner l m n. inl (omega (arith, ints, on_past j a m, on_past k b n))),
  )

  -- the place y of the line j lies on the run
  abbrev LiesOn : ℤ → ℤ → Run → Type 0
  LiesOn j y r = (r.at ≡ j) × (r.from ≤ℤ y) × (y <ℤ r.to)

  -- what lies on a run has its style, as it is drawn
  shown_by : (j y : ℤ) (r : Run) → Member all_runs r → LiesOn j y r → run_style all_runs j y ≡ drawn j y
  shown_by j y r m (on, from, to) =
      let of = member-from_appended runs_past lines r m in
      let run = each-at _ (runs_past of.0) r (past of.0) of.2 in
      sym (style_of_run all_runs all_are_runs r m j y on (covers_from r y from to))
      ∙ sym (run.inside y from to) ∙ ap (λ i. drawn i y) (sym run.on ∙ on)

  -- what is drawn lies on a run
  drawn_on_past : (k : ℕ) (j y : ℤ) → k < lines → first +ℤ pos k ≡ j → low ≤ℤ y → drawn j y ≢ Blank → (r : Run) × Member all_runs r × LiesOn j y r
  drawn_on_past k j y l here from shown =
      let m = on_line_run (first +ℤ pos k) (drawn (first +ℤ pos k)) low (runs_past k) (on_line (first +ℤ pos k)).1 y from
      (λ blank. shown (ap (λ i. drawn i y) (sym here) ∙ blank)) in
      (m.0, member-appended runs_past lines k m.0 l m.1, (on_past k m.0 m.1 ∙ here, m.2, m.3))

  drawn_on_run : (j y : ℤ) → drawn j y ≢ Blank → (r : Run) × Member all_runs r × LiesOn j y r
  drawn_on_run j y shown =
      let a = among j y shown in
      let from = a.line_from in
      let to = a.line_to in
      let k = natural (j -ℤ first) (omega (arith, ints)) in
      drawn_on_past k.0 j y (omega (arith, ints, k.1)) (omega (arith, ints, k.1)) a.from shown

  -- so they show what is drawn
  all_show : (j y : ℤ) → run_style all_runs j y ≡ drawn j y
  all_show j y = ⊎_elim
      (λ blank. ⊎_elim (λ e. e ∙ sym blank)
      (λ shown. let m = covering_run all_runs j y shown in shown_by j y m.0 m.1 (covers_parts j y m.0 m.2)) (blank_or_drawn (run_style all_runs j y)))
      (λ shown. let m = drawn_on_run j y shown in shown_by j y m.0 m.1 m.2)
      (blank_or_drawn (drawn j y))

  -- a drawing of so many lines and places has runs
  pub some_runs : (rs : List Run) × AreRuns rs × ((j y : ℤ) → run_style rs j y ≡ drawn j y)
  some_runs = (all_runs, all_are_runs, all_show)
