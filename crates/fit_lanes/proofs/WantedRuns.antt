-- Styles on a grid have the shown runs exactly where they are those that the shown runs give.
use Rattle.std.proofs.Common.{◌≡◌, ⊎_elim, ℕ, ◌+◌, ◌-◌, ◌*◌, ◌<◌, List, length, slice_index_or, ℤ, pos, ◌<ℤ◌, ap, sym, subst, ◌∙◌, arith}
use Rattle.lemmas.specs.Lists.{Member, Ascends}
use Rattle.lemmas.proofs.ListPlaces.{member-place}
use Rattle.solid_model.specs.declared.runs.Run.{Run}
use Rattle.solid_model.specs.declared.segment.Style.{Style}
use Rattle.solid_model.specs.declared.segment.Style.TheVariants.{Blank}
use Rattle.solid_model.specs.Runs.{run_style}
use Rattle.solid_model.proofs.Gaps.{member, begins_gap}
use Rattle.solid_model.proofs.InGrid.{gap_or_none}
use Rattle.solid_model.proofs.RunStyles.{same_styles_one_list}
use Rattle.solid_model.proofs.SameOnGrid.{member_or_not}
use Rattle.redraw.specs.GridRuns.{AreRunsOn}
use Rattle.fit_lanes.specs.Wanted.{AreShownStyles, placed_runs, HaveRuns, AreWantedStyles, AreNeverShown}
use Rattle.fit_lanes.proofs.ByLines.{same_by_lines}

module _ (lines ends : List ℤ) (ascends : Ascends ◌<ℤ◌ ends) (m n : ℕ) where
  -- styles have their runs in one way
  runs_same : (styles : List Style) (a b : List Run) → AreRunsOn lines ends styles a → AreRunsOn lines ends styles b → a ≡ b
  runs_same styles a b on on_too = same_styles_one_list a b on.are_runs on_too.are_runs (λ j z.
      ⊎_elim {C = run_style a j z ≡ run_style b j z} (λ k. on_line j z k) (λ none. on.off_lines j z none ∙ sym (on_too.off_lines j z none)) (member_or_not lines j))
    where
      on_line : (j z : ℤ) → Member lines j → run_style a j z ≡ run_style b j z
      on_line j z k =
          let at = member-place lines j k in
          ⊎_elim {C = run_style a j z ≡ run_style b j z}
          (λ gap. subst (λ l. run_style a l z ≡ run_style b l z) (at.2 (pos 0)) (on.shown at.0 gap.0 z at.1 gap.1 ∙ sym (on_too.shown at.0 gap.0 z at.1 gap.1)))
          (λ none. on.off_ends j z none ∙ sym (on_too.off_ends j z none))
          (gap_or_none ends ascends z)

  -- and runs tell the styles of which they are
  cell_told : (styles : List Style) (runs : List Run) → AreRunsOn lines ends styles runs → (line cell : ℕ) → line < length lines → cell < length ends - 1
      → slice_index_or styles (line * (length ends - 1) + cell) Blank ≡ run_style runs (member lines line) (member ends cell)
  cell_told styles runs on line cell l k = sym (on.shown line cell (member ends cell) l (begins_gap ends ascends cell (omega arith)))

  module _ (shown : List Run) (wanted : List Style) (are : AreShownStyles lines ends (placed_runs lines ends m n shown) wanted) where
    -- styles with the shown runs are those that these give
    styles_same : (styles : List Style) (runs : List Run) → HaveRuns lines ends styles runs → runs ≡ placed_runs lines ends m n shown → styles ≡ wanted
    styles_same styles runs have same = same_by_lines Blank styles wanted (length lines) (length ends - 1) have.count are.count (λ line cell l k.
        cell_told styles runs have.runs_on line cell l k ∙ ap (λ rs. run_style rs (member lines line) (member ends cell)) same ∙ sym (are.each line cell l k))

    module _ (own : List Run) (on : AreRunsOn lines ends wanted own) where
      runs_are_own : (styles : List Style) (runs : List Run) → HaveRuns lines ends styles runs → styles ≡ wanted → runs ≡ own
      runs_are_own styles runs have same = runs_same wanted runs own (subst (λ xs. AreRunsOn lines ends xs runs) same have.runs_on) on

      -- where they have these runs they are the wanted ones,
      pub are_wanted : own ≡ placed_runs lines ends m n shown → AreWantedStyles lines ends m n shown wanted
      are_wanted is = record {
        count = are.count;
        exact = λ styles runs have. (styles_same styles runs have, λ same. runs_are_own styles runs have same ∙ is);
      }

      -- else there are none
      pub never_shown : (own ≡ placed_runs lines ends m n shown → ⊥) → AreNeverShown lines ends m n shown
      never_shown none styles runs have same = none (sym (runs_are_own styles runs have (styles_same styles runs have same)) ∙ same)
