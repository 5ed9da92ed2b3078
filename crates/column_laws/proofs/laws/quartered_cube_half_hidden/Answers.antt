-- Each decision is excluded by one line and one of its cells, which the tests tell.
use Rattle.std.proofs.Common.{◌≡◌, Bool, true, false, ℕ, ◌<◌, List, [], ◌∷◌, Option, Some, None, pos, IsTrue, refl, arith}
use Rattle.std.proofs.lemmas.Bool.{false≢true}
use Rattle.solid_model.specs.declared.cell.Axis.TheVariants.{X, Y, Z}
use Rattle.solid_model.specs.declared.decision.Decision.{Decision}
use Rattle.solid_model.specs.declared.frame.View.TheVariants.{Front, Top}
use Rattle.solid_model.specs.declared.line_id.LineId.{LineId}
use Rattle.solid_model.specs.Blocks.{block_at}
use Rattle.solid_model.specs.Demands.{has_line, lines_of, said_by, can_be_met}
use Rattle.solid_model.specs.Forcing.{known_by, cell_beside, can_be_met_with, IsExcluded, IsForced}
use Rattle.solid_model.specs.Frames.{frame_of}
use Rattle.solid_model.specs.GridBox.{grid_sizes}
use Rattle.solid_model.specs.SmallLines.{line}
use Rattle.lemmas.proofs.Tests.{passes_all}
use Rattle.column_laws.specs.SmallForcing.{quartered_half_hidden, decision, upper_cells}
use Rattle.column_laws.proofs.AllLines.{lines_are_listed}
use Rattle.column_laws.proofs.ForcedDecisions.{out_with}
use Rattle.column_laws.proofs.LiveTree.{begins_live}
use Rattle.column_laws.proofs.MetLines.{AreSized, met_computed}
use Rattle.column_laws.proofs.laws.quartered_cube_half_hidden.Goals as goal

sized : AreSized quartered_half_hidden
sized X = refl
sized Y = refl
sized Z = refl

-- the block of a cell beside a line
abbrev block_beside : LineId → Bool → ℕ → Option ℕ
block_beside l of_after depth = block_at quartered_half_hidden.blocks (cell_beside quartered_half_hidden.grid l of_after (pos depth))

-- a line can't be met with a value in one of its cells
excluded : (known : ℕ → Option Bool) (l : LineId) (of_after : Bool) (depth block : ℕ) (value : Bool) → known block ≡ None
    → IsTrue (has_line quartered_half_hidden.grid l) → depth < grid_sizes quartered_half_hidden.grid (frame_of l.view).away.axis
    → block_beside l of_after depth ≡ Some block → can_be_met_with quartered_half_hidden known l of_after depth value ≡ false
    → IsExcluded quartered_half_hidden known block value
excluded known l of_after depth block value none has few at cannot =
    (none, l, has, out_with quartered_half_hidden sized known l of_after depth few block at none value cannot)

-- the dashed half, and the strokes that part the upper cells at the rear from those before them
abbrev hidden_half : LineId
hidden_half = line Top true 1 1

abbrev parting : ℕ → LineId
parting cell = line Top false 1 cell

-- what is known once these decisions are taken
abbrev after : List Decision → ℕ → Option Bool
after ds = known_by (said_by []) ds

chain : IsForced quartered_half_hidden (said_by []) upper_cells
chain = (
  excluded (said_by []) hidden_half false 0 6 false refl refl (omega arith) refl refl,
  (
    excluded (after (decision 6 true ∷ [])) hidden_half true 0 7 false refl refl (omega arith) refl refl,
    (
      excluded (after (decision 6 true ∷ decision 7 true ∷ [])) (parting 0) false 0 4 true refl refl (omega arith) refl refl,
      (excluded (after (decision 6 true ∷ decision 7 true ∷ decision 4 false ∷ [])) (parting 1) false 0 5 true refl refl (omega arith) refl refl, tt),
    ),
  ),
)

pub returns-clause-met : goal.returns-clause-met
returns-clause-met c = λ l has. (met_computed quartered_half_hidden sized (said_by []) l).0
    (passes_all (can_be_met quartered_half_hidden (said_by [])) (lines_of quartered_half_hidden.grid) l refl (lines_are_listed quartered_half_hidden.grid l has))

pub returns-clause-forced : goal.returns-clause-forced
returns-clause-forced c = chain

-- the front's line between the two upper columns is lost
abbrev between : LineId
between = line Front true 1 1

pub returns-clause-none : goal.returns-clause-none
returns-clause-none c = λ prefix live.
    let met = (begins_live quartered_half_hidden [] prefix live).lives upper_cells chain between refl in
    false≢true ((met_computed quartered_half_hidden sized (after upper_cells) between).1 met)
