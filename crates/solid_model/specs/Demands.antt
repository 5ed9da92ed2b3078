-- What the lines of a grid demand of its blocks. Where a line is told of, the box of grid cells is counted by its own
-- coordinates, and its columns from the nearest grid cell on, which stands at depth 0. Columns go over all depths: before
-- the box and behind it all is empty, and known to be. The order of lines is that of a list (`lines_of`), so that the first
-- one that can't be met needs no second order.
use Rattle.std.specs.Prelude.{◌≡◌, Bool, true, false, ◌&&◌, ◌||◌, ℕ, suc, nat_lt, List, [], ◌∷◌, ◌++◌, map, slice_get, ℤ, pos, ◌-ℤ◌, Option, Some, None, IsTrue, if◌then◌else◌}
use Rattle.std.specs.List.{flat_map, list_any, list_all, range_with_len}
use Rattle.solid_model.specs.declared.cell.Cell.{Cell}
use Rattle.solid_model.specs.declared.frame.Direction.{Direction}
use Rattle.solid_model.specs.declared.frame.Frame.{Frame}
use Rattle.solid_model.specs.declared.frame.View.{View}
use Rattle.solid_model.specs.declared.frame.View.TheVariants.{Front, Top, Side}
use Rattle.solid_model.specs.declared.line_id.LineId.{LineId}
use Rattle.solid_model.specs.declared.segment.Style.{Style}
use Rattle.solid_model.specs.declared.segment.Style.TheVariants.{Blank, Dashed, Solid}
use Rattle.solid_model.specs.Blocks.{BlockNumbers, ProblemParts, block_at}
use Rattle.solid_model.specs.Columns.{ColumnsDraw}
use Rattle.lemmas.specs.Truth.{agree}
use Rattle.solid_model.specs.Frames.{frame_of, along, across, at_places}
use Rattle.lemmas.specs.Lists.{Member}
use Rattle.solid_model.specs.Panels.{GridParts}
use Rattle.solid_model.specs.WalledBoxes.{Sizes}
use Rattle.solid_model.specs.Wire.{is_drawn_view}
use Rattle.solid_model.specs.GridBox.{grid_sizes, axis_along, axis_across, grid_style}

-- ---- lines

-- the grid has the line, and its view isn't missing
abbrev pub has_line : GridParts → LineId → Bool
has_line g l = is_drawn_view g l.view && (nat_lt l.at (suc (grid_sizes g (axis_across l.view l.upright))) && nat_lt l.cell (grid_sizes g (axis_along l.view l.upright)))

-- its style
abbrev pub line_style : GridParts → LineId → Style
line_style g l = grid_style g l.view l.upright (pos l.at) (pos l.cell)

-- the level, or the upright, lines of a view at one position
abbrev pub lines_at : GridParts → View → Bool → ℕ → List LineId
lines_at g v upright at = map (λ cell. record { view = v; upright = upright; at = at; cell = cell }) (range_with_len 0 (grid_sizes g (axis_along v upright)))

-- all of them, by position, then by cell
abbrev pub lines_along : GridParts → View → Bool → List LineId
lines_along g v upright = flat_map (lines_at g v upright) (range_with_len 0 (suc (grid_sizes g (axis_across v upright))))

-- all lines of a view, the level ones first
abbrev pub lines_in : GridParts → View → List LineId
lines_in g v = if is_drawn_view g v then (lines_along g v false ++ lines_along g v true) else []

-- all lines of a grid, in their order
abbrev pub lines_of : GridParts → List LineId
lines_of g = lines_in g Front ++ (lines_in g Top ++ lines_in g Side)

-- ---- what is known of cells

-- What is known of something that is full or empty: which of the two, or nothing. What a prefix says of the block of a number
-- is its value there.
abbrev pub said_by : List Bool → ℕ → Option Bool
said_by prefix block = slice_get prefix block

-- what is known of what belongs to a block, or to none and so is empty
abbrev pub known_in : (ℕ → Option Bool) → Option ℕ → Option Bool
known_in known None = Some false
known_in known (Some block) = known block

-- what is known of a grid cell, where so much is known of the blocks; beyond the box each is empty
abbrev pub known_cell : BlockNumbers → (ℕ → Option Bool) → Cell → Option Bool
known_cell b known n = known_in known (block_at b n)

-- ---- columns

-- the coordinate that is so many cells from where a direction enters a row of a box
abbrev pub coordinate_on : ℕ → Direction → ℤ → ℤ
coordinate_on count d k = if d.forward then k else ((pos count -ℤ pos 1) -ℤ k)

-- the cell of a box that a view shows at these places along and across the lines of a kind, at a depth
abbrev pub box_cell_in : Sizes → Frame → Bool → ℤ → ℤ → ℤ → Cell
box_cell_in sizes f upright i j k = at_places
    (along f upright).axis (coordinate_on (sizes (along f upright).axis) (along f upright) i)
    (across f upright).axis (coordinate_on (sizes (across f upright).axis) (across f upright) j)
    f.away.axis (coordinate_on (sizes f.away.axis) f.away k)

-- what is known of the column that stands beside a line, at the place j across it: at each depth
abbrev pub known_column : GridParts → (Cell → Option Bool) → LineId → ℤ → ℤ → Option Bool
known_column g known l j k = known (box_cell_in (grid_sizes g) (frame_of l.view) l.upright (pos l.cell) j k)

-- of the column after it, which begins at the line's place,
abbrev pub known_after : GridParts → (Cell → Option Bool) → LineId → ℤ → Option Bool
known_after g known l = known_column g known l (pos l.at)

-- and of the one before it
abbrev pub known_before : GridParts → (Cell → Option Bool) → LineId → ℤ → Option Bool
known_before g known l = known_column g known l (pos l.at -ℤ pos 1)

-- a column agrees with what is known of it; the rest is free, cell by cell
abbrev pub AgreesWith : (ℤ → Option Bool) → (ℤ → Bool) → Type 0
AgreesWith known column = (k : ℤ) (value : Bool) → known k ≡ Some value → column k ≡ value

-- some pair of columns that agree with what is known of them draws the style
abbrev pub CanDraw : (ℤ → Option Bool) → (ℤ → Option Bool) → Style → Type 0
CanDraw known other style = (after before : ℤ → Bool) × AgreesWith known after × AgreesWith other before × ColumnsDraw after before style

-- ---- lines that can be met

-- Where so much is known of the blocks, a line can still be met: some pair of columns beside it that agrees with every decided
-- cell draws its style.
abbrev pub CanBeMet : ProblemParts → (ℕ → Option Bool) → LineId → Type 0
CanBeMet p known l = CanDraw (known_after p.grid (known_cell p.blocks known) l) (known_before p.grid (known_cell p.blocks known) l) (line_style p.grid l)

-- every line can still be met
abbrev pub AllMet : ProblemParts → (ℕ → Option Bool) → Type 0
AllMet p known = (l : LineId) → IsTrue (has_line p.grid l) → CanBeMet p known l

-- the line is the first of these lines that can't be met
pub record IsFirstBrokenOf (p : ProblemParts) (known : ℕ → Option Bool) (lines : List LineId) (l : LineId) : Type 0 where
  pub earlier : List LineId
  pub later : List LineId
  pub place : lines ≡ earlier ++ l ∷ later
  pub met : (m : LineId) → Member earlier m → CanBeMet p known m
  pub broken : CanBeMet p known l → ⊥

-- and of all lines
abbrev pub IsFirstBroken : ProblemParts → (ℕ → Option Bool) → LineId → Type 0
IsFirstBroken p known = IsFirstBrokenOf p known (lines_of p.grid)

-- ---- the same, computed

-- what is known of the two cells beside a line at one depth
pub record CellsBeside : Type 0 where
  pub after : Option Bool
  pub before : Option Bool

-- what is known allows a value
abbrev pub can_be : Bool → Option Bool → Bool
can_be value None = true
can_be value (Some known) = agree known value

-- both cells can have the value
abbrev pub can_both_be : Bool → CellsBeside → Bool
can_both_be value c = can_be value c.after && can_be value c.before

-- they can be equal
abbrev pub can_agree : CellsBeside → Bool
can_agree c = can_both_be true c || can_both_be false c

-- they can be different
abbrev pub can_differ : CellsBeside → Bool
can_differ c = (can_be true c.after && can_be false c.before) || (can_be false c.after && can_be true c.before)

-- The cells beside a line, from the nearest depth on, can be such that they draw a style. Blank: they agree everywhere. Dashed:
-- at the first depth at which one is full both are, and they differ behind it. Solid: at the first depth at which one is full
-- they differ.
abbrev pub can_draw : Style → List CellsBeside → Bool
can_draw Blank cells = list_all can_agree cells
can_draw Dashed [] = false
can_draw Dashed (c ∷ cells) = (can_both_be true c && list_any can_differ cells) || (can_both_be false c && can_draw Dashed cells)
can_draw Solid [] = false
can_draw Solid (c ∷ cells) = can_differ c || (can_both_be false c && can_draw Solid cells)

-- what is known of the cells beside a line, at each depth of the box
abbrev pub cells_beside : GridParts → (Cell → Option Bool) → LineId → List CellsBeside
cells_beside g known l = map (λ k. record { after = known_after g known l (pos k); before = known_before g known l (pos k) })
    (range_with_len 0 (grid_sizes g (frame_of l.view).away.axis))

-- a line can still be met
abbrev pub can_be_met : ProblemParts → (ℕ → Option Bool) → LineId → Bool
can_be_met p known l = can_draw (line_style p.grid l) (cells_beside p.grid (known_cell p.blocks known) l)
