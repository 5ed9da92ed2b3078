-- The columns of cells that a view shows, and the lines that touch a block.
use Rattle.std.specs.Prelude.{◌==◌, ◌||◌, Bool, false, ℕ, ℤ, pos, ◌-ℤ◌, List, length, Option, Some, None}
use Rattle.std.specs.List.{list_any, filter, range_with_len}
use Rattle.solid_model.specs.declared.cell.Cell.{Cell}
use Rattle.solid_model.specs.declared.frame.View.{View}
use Rattle.solid_model.specs.declared.line_id.LineId.{LineId}
use Rattle.solid_model.specs.Blocks.{ProblemParts, block_at}
use Rattle.solid_model.specs.Demands.{box_cell_in, lines_of}
use Rattle.solid_model.specs.Frames.{frame_of}
use Rattle.solid_model.specs.WalledBoxes.{Sizes}
use Rattle.solid_model.specs.GridBox.{grid_sizes, axis_along, axis_across}

-- how many columns of cells a view shows in a row, and how many rows
abbrev pub view_width : Sizes → View → ℕ
view_width sizes v = sizes (axis_along v false)

abbrev pub view_height : Sizes → View → ℕ
view_height sizes v = sizes (axis_across v false)

-- the cell that the column at these places to the right and upwards shows at a depth
abbrev pub shown_cell : Sizes → View → ℕ → ℕ → ℤ → Cell
shown_cell sizes v right up k = box_cell_in sizes (frame_of v) false (pos right) (pos up) k

-- a cell's block, if it has one, has this number
abbrev pub is_of : ℕ → Option ℕ → Bool
is_of block None = false
is_of block (Some other) = other == block

-- the block of the cell that stands beside a line, at a place across it, at a depth
abbrev pub block_beside : ProblemParts → LineId → ℤ → ℕ → Option ℕ
block_beside p l j k = block_at p.blocks (box_cell_in (grid_sizes p.grid) (frame_of l.view) l.upright (pos l.cell) j (pos k))

-- a line touches a block where one of the two columns beside it has a cell of the block
abbrev pub touches : ProblemParts → ℕ → LineId → Bool
touches p b l = list_any (λ k. is_of b (block_beside p l (pos l.at) k) || is_of b (block_beside p l (pos l.at -ℤ pos 1) k))
    (range_with_len 0 (grid_sizes p.grid (frame_of l.view).away.axis))

-- the lines that do, in their order,
abbrev pub lines_touching : ProblemParts → ℕ → List LineId
lines_touching p b = filter (touches p b) (lines_of p.grid)

-- and how many they are
abbrev pub touching : ProblemParts → ℕ → ℕ
touching p b = length (lines_touching p b)
