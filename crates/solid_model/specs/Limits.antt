-- The limits of a file, and of what is made of it.
use Rattle.std.specs.Prelude.{ℕ, ℤ, pos}

-- the most bytes of a file
abbrev pub most_file_bytes : ℕ
most_file_bytes = 16777216

-- the most bytes of a text whose pairs are read, so that each of its lines has a number
abbrev pub most_text_bytes : ℕ
most_text_bytes = 134217728

-- the most lines that are kept
abbrev pub most_lines : ℕ
most_lines = 100000

-- the greatest absolute value of a coordinate on the sheet
abbrev pub farthest_on_sheet : ℕ
farthest_on_sheet = 1000000000

-- the most decimals with which coordinates are read and written
abbrev pub most_decimals : ℕ
most_decimals = 6

-- the greatest coordinate of a drawing whose views begin at 0
abbrev pub farthest_in_view : ℤ
farthest_in_view = pos 2000000000

-- the most grid coordinates of an axis
abbrev pub most_grid_coordinates : ℕ
most_grid_coordinates = 64

-- the most blocks of a grid
abbrev pub most_blocks : ℕ
most_blocks = 4096

-- the greatest limit of the nodes of a search
abbrev pub most_node_limit : ℕ
most_node_limit = 4000000

-- the greatest limit of its solids
abbrev pub most_solid_limit : ℕ
most_solid_limit = 65536

-- the most choices of a page
abbrev pub most_page_choices : ℕ
most_page_choices = 256
