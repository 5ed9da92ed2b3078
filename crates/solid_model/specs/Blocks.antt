-- The blocks of a grid: grid cells that chains join which cross no virtual face.
use Rattle.std.specs.Prelude.{◌≡◌, ◌<◌, ℕ, List, Option, None, if◌then◌else◌}
use Rattle.solid_model.specs.declared.cell.Axis.{Axis}
use Rattle.solid_model.specs.declared.cell.Cell.{Cell}
use Rattle.solid_model.specs.declared.per_axis.PerAxis.{PerAxis}
use Rattle.lemmas.specs.Chains.{Reaches}
use Rattle.solid_model.specs.Limits.{most_blocks}
use Rattle.solid_model.specs.Panels.{GridParts}
use Rattle.solid_model.specs.PerAxis.{numbers_of}
use Rattle.solid_model.specs.WalledBoxes.{is_within, Passes, LeadsOut, number_at, AreEnclosed}
use Rattle.solid_model.specs.VirtualFaces.{IsVirtual}
use Rattle.solid_model.specs.GridBox.{grid_sizes}

-- a chain that crosses no virtual face joins two grid cells
abbrev pub Joined : GridParts → Cell → Cell → Type 0
Joined g = Reaches (Passes (IsVirtual g))

-- such a chain joins a grid cell with the outside of the box
abbrev pub IsOutside : GridParts → Cell → Type 0
IsOutside g = LeadsOut (grid_sizes g) (IsVirtual g)

-- The blocks of a grid, so many: each grid cell has the number of its block, or none where it is outside. They are numbered
-- from 0 by their first cells.
abbrev pub AreBlocksOf : GridParts → List (Option ℕ) → ℕ → Type 0
AreBlocksOf g = AreEnclosed (grid_sizes g) (IsVirtual g)

-- there are more of them than may be, and this is their number
abbrev pub HasTooManyBlocks : GridParts → ℕ → Type 0
HasTooManyBlocks g count = (numbers : List (Option ℕ)) × AreBlocksOf g numbers count × (most_blocks < count)

-- ---- blocks that are kept

-- the sizes of a grid, for each of its cells the number of its block or none, and how many blocks there are
pub record BlockNumbers : Type 0 where
  pub sizes : PerAxis
  pub numbers : List (Option ℕ)
  pub count : ℕ

-- the block of a cell; beyond the box there is none
abbrev pub block_at : BlockNumbers → Cell → Option ℕ
block_at b n = if is_within (numbers_of b.sizes) n then number_at (numbers_of b.sizes) b.numbers n else None

-- they are those of a grid
pub record IsBlocksOf (g : GridParts) (b : BlockNumbers) : Type 0 where
  pub sized : (a : Axis) → numbers_of b.sizes a ≡ grid_sizes g a
  pub blocks : AreBlocksOf g b.numbers b.count

-- a grid and its blocks
pub record ProblemParts : Type 0 where
  pub grid : GridParts
  pub blocks : BlockNumbers
