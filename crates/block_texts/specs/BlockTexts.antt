-- The text that tells where the blocks of a grid are: how many there are, the grid's coordinates, and row by row of its cells
-- the block of each.
use Rattle.std.specs.Prelude.{ℕ, zero, suc, ◌*◌, List, [], ◌++◌, ℤ, Option, Some, None, take, drop, codes, decimal}
use Rattle.std.specs.List.{flat_map}
use Rattle.decimal_texts.specs.Decimals.{decimal_text}
use Rattle.solid_model.specs.declared.cell.Axis.TheVariants.{X, Y, Z}
use Rattle.solid_model.specs.Blocks.{ProblemParts}
use Rattle.solid_model.specs.GridBox.{grid_sizes}
use Rattle.solid_model.specs.Panels.{GridParts}

-- a coordinate with so many decimals, behind a blank
abbrev pub coordinate_word : ℕ → ℤ → List ℕ
coordinate_word decimals z = codes " " ++ decimal_text decimals z

-- the line of an axis: its letter, and its coordinates
abbrev pub axis_line : ℕ → List ℕ → List ℤ → List ℕ
axis_line decimals letter zs = letter ++ flat_map (coordinate_word decimals) zs ++ codes "\n"

-- the lines of a grid's axes
abbrev pub axes_text : ℕ → GridParts → List ℕ
axes_text decimals g = axis_line decimals (codes "x") g.xs ++ axis_line decimals (codes "y") g.ys ++ axis_line decimals (codes "z") g.zs

-- the block of a cell, behind a blank: its number, or - where it is in none
abbrev pub block_word : Option ℕ → List ℕ
block_word None = codes " -"
block_word (Some block) = codes " " ++ decimal block

-- the line of a row of cells along x
abbrev pub row_line : List (Option ℕ) → List ℕ
row_line row = codes "row" ++ flat_map block_word row ++ codes "\n"

-- the lines of so many rows, each of so many cells
abbrev pub row_lines : ℕ → ℕ → List (Option ℕ) → List ℕ
row_lines zero width numbers = []
row_lines (suc rows) width numbers = row_line (take width numbers) ++ row_lines rows width (drop width numbers)

-- the lines of all rows: by z, then y
abbrev pub rows_text : ProblemParts → List ℕ
rows_text p = row_lines (grid_sizes p.grid Z * grid_sizes p.grid Y) (grid_sizes p.grid X) p.blocks.numbers

-- the whole text, whose coordinates have so many decimals
abbrev pub blocks_text : ℕ → ProblemParts → List ℕ
blocks_text decimals p = codes "blocks " ++ decimal p.blocks.count ++ codes "\n"
    ++ axes_text decimals p.grid ++ rows_text p
