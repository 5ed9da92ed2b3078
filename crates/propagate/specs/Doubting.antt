-- Lines that are doubted: of each other one it is known that it excludes nothing.
use Rattle.std.specs.Prelude.{◌≡◌, Bool, false, ℕ, List, ◌∷◌, [], ◌++◌, length, slice_get, slice_index_or, Some}
use Rattle.propagate.specs.Forced.{IsCalm}
use Rattle.solid_model.specs.declared.decision.Decision.{Decision}
use Rattle.solid_model.specs.declared.line_id.LineId.{LineId}
use Rattle.solid_model.specs.Blocks.{ProblemParts}
use Rattle.solid_model.specs.Decisions.{decided_by}
use Rattle.solid_model.specs.Demands.{lines_of, AllMet}

-- Each line has a mark, and where every line can be met, those that aren't doubted exclude nothing.
pub record AreDoubted (p : ProblemParts) (decisions : List Decision) (doubted : List Bool) : Type 0 where
  pub count : length doubted ≡ length (lines_of p.grid)
  pub calm : AllMet p (decided_by decisions) → (number : ℕ) (l : LineId) → slice_get (lines_of p.grid) number ≡ Some l
      → slice_index_or doubted number false ≡ false → IsCalm p (decided_by decisions) l

-- the same of the decisions before the last one
pub record AreDoubtedBefore (p : ProblemParts) (decisions : List Decision) (doubted : List Bool) : Type 0 where
  pub before : List Decision
  pub last : Decision
  pub are : decisions ≡ before ++ last ∷ []
  pub doubted_lines : AreDoubted p before doubted
