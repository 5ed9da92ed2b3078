-- Problems that a log can be written for.
use Rattle.std.specs.Prelude.{◌≡◌, ◌≢◌, ◌≤◌, Bool, List, length}
use Rattle.lemmas.specs.Lists.{Each, Ascends}
use Rattle.completeness_logs.specs.LogTexts.{most_listed}
use Rattle.solid_model.specs.declared.segment.Segment.{Segment}
use Rattle.solid_model.specs.declared.segment.Style.{Style}
use Rattle.solid_model.specs.Blocks.{ProblemParts}
use Rattle.solid_model.specs.Choices.{IsMatchingChoice}
use Rattle.solid_model.specs.Panels.{coordinates_of, IsGridOf}
use Rattle.solid_model.specs.Runs.{IsDrawing}

-- At most 65,536 solids match a drawing with the problem's grid: of the choices that match it no list without repeats is longer.
abbrev pub HasFewMatching : ProblemParts → Type 0
HasFewMatching p = (drawing : Segment → Style) → IsDrawing drawing → IsGridOf drawing p.grid → (choices : List (List Bool))
    → Each (λ choice. (length choice ≡ p.blocks.count) × IsMatchingChoice drawing (coordinates_of p.grid) p.blocks.numbers choice) choices
    → Ascends ◌≢◌ choices → length choices ≤ most_listed
