-- What tests of layers are asked, and tell.
use Rattle.std.specs.Prelude.{◌↔◌, ◌+◌, ◌-◌, ◌<◌, Bool, ℕ, List, length, map, slice_index_or, IsTrue}
use Rattle.solid_model.specs.declared.cell.Cell.{Cell}
use Rattle.solid_model.specs.Blocks.{ProblemParts}
use Rattle.solid_model.specs.Cells.{is_full}
use Rattle.solid_model.specs.Choices.{cells_of_choice}
use Rattle.solid_model.specs.Grid.{IsUnionOf}
use Rattle.solid_model.specs.Panels.{coordinates_of}
use Rattle.solid_model.specs.Runs.{AreRuns, runs_along}
use Rattle.column_lanes.specs.Styles.{IsStyleByte}
use Rattle.lemmas.specs.Bits.{bits}
use Rattle.further_views.specs.Further.{AskedRuns, FurtherRuns}
use Rattle.six_views.specs.Further.{ShowsAsked}
use Rattle.fit_lanes.specs.Points.{places_before}

-- a layer of a problem's solids, and what it has to show
pub record LayerAsked : Type 0 where
  pub problem : ProblemParts
  pub asked : AskedRuns

-- the layers that are asked for
abbrev pub layers_asked : ProblemParts → FurtherRuns → List LayerAsked
layers_asked p e = map (λ v. record { problem = p; asked = v }) e

-- a choice fills this solid
abbrev pub Fills : LayerAsked → List Bool → List Cell → Type 0
Fills a choice s = IsUnionOf (coordinates_of a.problem.grid) (cells_of_choice a.problem.blocks.numbers choice) (is_full s)

-- the solid that a choice fills shows the layer
abbrev pub ShowsIn : LayerAsked → List Bool → Type 0
ShowsIn a choice = (s : List Cell) → Fills a choice s → ShowsAsked s a.asked

-- each solid that a choice fills shows the layer, or none does
abbrev pub TellsLayer : LayerAsked → List Bool → Bool → Type 0
TellsLayer a choice told = (s : List Cell) → Fills a choice s → (IsTrue told ↔ ShowsAsked s a.asked)

-- what it has to show is runs
abbrev pub AreRunsAsked : LayerAsked → Type 0
AreRunsAsked a = (upright : Bool) → AreRuns (runs_along upright a.asked.runs)

-- ---- computed

-- the bytes that columns draw, in rows of so many places
abbrev pub AreDrawn : List ℕ → ℕ → Bool → List ℕ → Type 0
AreDrawn columns stride upright bytes = (p : ℕ) → p < length bytes
    → IsStyleByte (slice_index_or bytes p 0) (bits (slice_index_or columns (p + stride) 0)) (bits (slice_index_or columns (p + stride - places_before stride upright) 0))
