-- What the columns beside a line that is seen exclude.
use Rattle.std.specs.Prelude.{◌≡◌, ◌<◌, Bool, not, ℕ, ℤ, pos, Option, Some, None}
use Rattle.line_demands.specs.declared.seen.SeenLine.{SeenLine}
use Rattle.line_demands.specs.Doubted.{CanDrawWith}
use Rattle.line_demands.specs.Seen.{known_beside}
use Rattle.solid_model.specs.declared.line_id.LineId.{LineId}
use Rattle.solid_model.specs.declared.segment.Style.{Style}
use Rattle.solid_model.specs.Blocks.{ProblemParts, block_at}
use Rattle.solid_model.specs.Forcing.{LineExcludes, cell_beside}
use Rattle.solid_model.specs.Frames.{frame_of}
use Rattle.solid_model.specs.GridBox.{grid_sizes}

-- a cell excludes a value of its block, if it has one
abbrev pub CellExcludes : (ℤ → Option Bool) → (ℤ → Option Bool) → Style → ℕ → Option ℕ → ℕ → Bool → Type 0
CellExcludes known other style depth cell block value = (cell ≡ Some block) × (known (pos depth) ≡ None) × (CanDrawWith known other style depth value → ⊥)

-- the cell of a column beside a line at a depth excludes a value of its block,
abbrev pub ExcludesAt : ProblemParts → SeenLine → Bool → ℕ → ℕ → Bool → Type 0
ExcludesAt p s of_after depth = CellExcludes (known_beside s of_after) (known_beside s (not of_after)) s.style depth
    (block_at p.blocks (cell_beside p.grid s.line of_after (pos depth)))

-- or one of all of them
abbrev pub ExcludesBeside : ProblemParts → SeenLine → Bool → ℕ → Bool → Type 0
ExcludesBeside p s of_after block value = (depth : ℕ) × (depth < grid_sizes p.grid (frame_of s.line.view).away.axis) × ExcludesAt p s of_after depth block value

-- a line excludes a value of an undecided block
abbrev pub ExcludesOpen : ProblemParts → (ℕ → Option Bool) → LineId → ℕ → Bool → Type 0
ExcludesOpen p known l block value = (known block ≡ None) × LineExcludes p known l block value
