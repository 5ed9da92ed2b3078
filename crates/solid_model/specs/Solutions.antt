-- The solutions of a problem: choices of its blocks that match the drawing.
use Rattle.std.specs.Prelude.{◌≡◌, ◌≢◌, Bool, List, length}
use Rattle.solid_model.specs.declared.segment.Segment.{Segment}
use Rattle.solid_model.specs.declared.segment.Style.{Style}
use Rattle.solid_model.specs.Blocks.{ProblemParts}
use Rattle.solid_model.specs.Choices.{IsMatchingChoice}
use Rattle.lemmas.specs.Lists.{Each, Ascends}
use Rattle.solid_model.specs.Panels.{coordinates_of, IsGridOf}
use Rattle.solid_model.specs.Runs.{IsDrawing}

-- the choice says of each block whether it is full, and of every drawing that has this grid it fills a matching solid
pub record IsSolutionOf (p : ProblemParts) (choice : List Bool) : Type 0 where
  pub whole : length choice ≡ p.blocks.count
  pub matching : (drawing : Segment → Style) → IsDrawing drawing → IsGridOf drawing p.grid
      → IsMatchingChoice drawing (coordinates_of p.grid) p.blocks.numbers choice

-- solutions of a problem, none twice
pub record AreSolutions (p : ProblemParts) (choices : List (List Bool)) : Type 0 where
  pub each : Each (IsSolutionOf p) choices
  pub once : Ascends ◌≢◌ choices
