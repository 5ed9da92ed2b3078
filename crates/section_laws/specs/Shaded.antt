-- Grid cells whose whole view shows what a section shows of others: cut at the plane, and filled behind each full one, so that
-- nothing is hidden any more.
use Rattle.std.specs.Prelude.{◌≡◌, ◌↔◌, ◌<◌, ◌≤◌, Bool, true, false, ℕ, List, slice_index_or, ℤ}
use Rattle.solid_model.specs.declared.cell.Axis.{Axis}
use Rattle.solid_model.specs.declared.frame.Direction.{Direction}
use Rattle.solid_model.specs.Frames.{cell_on, point_on}
use Rattle.solid_model.specs.Grid.{Coordinates, GridCell, gaps_along, grid_cell_place, is_in_gap}
use Rattle.solid_model.specs.GridPlaces.{place_in}
use Rattle.solid_model.specs.PerAxis.{numbered}

-- the first cells behind the plane lie in the gap of this number: the plane lies at its near end, or within it
abbrev pub IsCutGap : Direction → List ℤ → ℤ → ℕ → Type 0
IsCutGap d zs plane gap = is_in_gap zs gap (cell_on d (point_on d plane)) ≡ true

-- the list chooses just the grid cells of which this holds
abbrev pub ChoosesWhere : Coordinates → (GridCell → Type 0) → List Bool → Type 0
ChoosesWhere coordinates P chosen = (n : GridCell) → ((a : Axis) → n a < gaps_along coordinates a)
    → (slice_index_or chosen (grid_cell_place coordinates n) false ≡ true) ↔ P n

-- the gap m isn't farther along a direction than n
abbrev pub IsNoFarther : Bool → ℕ → ℕ → Type 0
IsNoFarther true m n = m ≤ n
IsNoFarther false m n = n ≤ m

-- in the row of a grid cell along the sight, from the gap `first` to its own, a cell is chosen
abbrev pub IsShaded : Direction → (Axis → ℕ) → ℕ → List Bool → GridCell → Type 0
IsShaded d sizes first chosen n = (m : ℕ) × IsNoFarther d.forward first m × IsNoFarther d.forward m (n d.axis)
    × (slice_index_or chosen (place_in sizes (numbered d.axis m n)) false ≡ true)

-- it lies in the gap, and is chosen
abbrev pub IsInSlab : Direction → (Axis → ℕ) → ℕ → List Bool → GridCell → Type 0
IsInSlab d sizes gap chosen n = (n d.axis ≡ gap) × (slice_index_or chosen (place_in sizes n) false ≡ true)

-- it belongs to the cut area, or to all that is left
abbrev pub IsLeftCell : Bool → Direction → (Axis → ℕ) → ℕ → List Bool → GridCell → Type 0
IsLeftCell true = IsInSlab
IsLeftCell false = IsShaded

-- the second list chooses what is shaded from this gap on, or what of the first one lies in it
abbrev pub AreShaded : Direction → Coordinates → ℕ → List Bool → List Bool → Type 0
AreShaded d coordinates first chosen = ChoosesWhere coordinates (IsShaded d (gaps_along coordinates) first chosen)

abbrev pub AreSlab : Direction → Coordinates → ℕ → List Bool → List Bool → Type 0
AreSlab d coordinates gap chosen = ChoosesWhere coordinates (IsInSlab d (gaps_along coordinates) gap chosen)

-- either of these
abbrev pub AreLeftCells : Bool → Direction → Coordinates → ℕ → List Bool → List Bool → Type 0
AreLeftCells area d coordinates gap chosen = ChoosesWhere coordinates (IsLeftCell area d (gaps_along coordinates) gap chosen)
