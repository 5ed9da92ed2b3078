-- What further views and sections ask of solids and of choices, told by their runs.
use Rattle.std.specs.Prelude.{Bool, List}
use Rattle.solid_model.specs.declared.cell.Cell.{Cell}
use Rattle.solid_model.specs.Blocks.{ProblemParts}
use Rattle.solid_model.specs.Cells.{is_full}
use Rattle.solid_model.specs.Choices.{cells_of_choice}
use Rattle.solid_model.specs.Grid.{IsUnionOf}
use Rattle.solid_model.specs.Line.{Line}
use Rattle.solid_model.specs.Panels.{coordinates_of}
use Rattle.dxf_entities.specs.declared.layer.Layer.{Layer}
use Rattle.lemmas.specs.Lists.{Each}
use Rattle.further_views.specs.Further.{AskedRuns, FurtherRuns, view_style}
use Rattle.six_views.specs.Fits.{Fits, ShowsLayer}

-- the solid shows these runs as their layer does
abbrev pub ShowsAsked : List Cell → AskedRuns → Type 0
ShowsAsked s v = ShowsLayer v.layer s (view_style v.runs)

-- the solid fits them: it shows each
abbrev pub FitsRuns : FurtherRuns → List Cell → Type 0
FitsRuns e s = Each (ShowsAsked s) e

-- a choice of a problem's blocks does, where each solid that it fills does
abbrev pub FitsChoice : ProblemParts → FurtherRuns → List Bool → Type 0
FitsChoice p e choice = (s : List Cell)
    → IsUnionOf (coordinates_of p.grid) (cells_of_choice p.blocks.numbers choice) (is_full s) → FitsRuns e s

-- the same by the lines of the layers
abbrev pub FitsLines : ProblemParts → (Layer → List Line) → List Bool → Type 0
FitsLines p further choice = (s : List Cell)
    → IsUnionOf (coordinates_of p.grid) (cells_of_choice p.blocks.numbers choice) (is_full s) → Fits further s

-- what a sieve goes by: a problem, and what its solids are to show
pub record SieveParts : Type 0 where
  pub problem : ProblemParts
  pub further : FurtherRuns
