-- The columns of a box's cells in the three views, numbered: by view, by place upwards, then to the right; and one more, beyond
-- the box.
use Rattle.std.specs.Prelude.{◌≡◌, ◌⊎◌, ◌↔◌, ◌<◌, ◌≤◌, ◌+◌, ◌*◌, Bool, false, ℕ, ℤ, pos, ◌-ℤ◌, List, length, take, map, slice_index_or, All, Option, Some, if◌then◌else◌}
use Rattle.line_demands.specs.declared.known.KnownColumn.{KnownColumn}
use Rattle.line_demands.specs.declared.lines.Beside.{Beside}
use Rattle.line_demands.specs.declared.spans.Span.{Span}
use Rattle.line_demands.specs.Touching.{is_of, view_width, view_height, shown_cell, lines_touching}
use Rattle.solid_model.specs.declared.decision.Decision.{Decision}
use Rattle.solid_model.specs.Decisions.{decided_by, AreDecisions}
use Rattle.line_demands.specs.Lines.{AreMarked}
use Rattle.line_demands.specs.Spans.{is_on, known_there, AreWithin}
use Rattle.solid_model.specs.declared.frame.View.{View}
use Rattle.solid_model.specs.declared.frame.View.TheVariants.{Front, Top, Side}
use Rattle.solid_model.specs.declared.line_id.LineId.{LineId}
use Rattle.solid_model.specs.Blocks.{ProblemParts, block_at}
use Rattle.solid_model.specs.Demands.{known_cell, line_style, lines_of, CanBeMet}
use Rattle.solid_model.specs.WalledBoxes.{Sizes, is_below}
use Rattle.solid_model.specs.GridBox.{grid_sizes, axis_along, axis_across}
use Rattle.lemmas.specs.Counts.{times_listed}

-- how many columns stand before those of a view
abbrev pub columns_before : Sizes → View → ℕ
columns_before sizes Front = 0
columns_before sizes Top = view_height sizes Front * view_width sizes Front
columns_before sizes Side = view_height sizes Front * view_width sizes Front + view_height sizes Top * view_width sizes Top

-- how many there are, which is the number of the one beyond
abbrev pub column_count : Sizes → ℕ
column_count sizes = columns_before sizes Side + view_height sizes Side * view_width sizes Side

-- the number of a column
abbrev pub column_number : Sizes → View → ℕ → ℕ → ℕ
column_number sizes v right up = columns_before sizes v + (up * view_width sizes v + right)

-- the columns say what is known of the grid's cells
pub record AreKnownColumns (p : ProblemParts) (known : ℕ → Option Bool) (columns : List KnownColumn) : Type 0 where
  pub count : length columns ≡ column_count (grid_sizes p.grid) + 1
  pub within : AreWithin columns
  pub each : (v : View) (right up k : ℕ) → right < view_width (grid_sizes p.grid) v → up < view_height (grid_sizes p.grid) v
      → known_there columns (column_number (grid_sizes p.grid) v right up) k ≡ known_cell p.blocks known (shown_cell (grid_sizes p.grid) v right up (pos k))
  pub beyond : (k : ℕ) → known_there columns (column_count (grid_sizes p.grid)) k ≡ Some false

-- the cells of each block, by columns
pub record AreSpans (p : ProblemParts) (spans : List (List Span)) : Type 0 where
  pub count : length spans ≡ p.blocks.count
  pub inside : All (λ ss. All (λ s. s.column < column_count (grid_sizes p.grid)) ss) spans
  pub each : (b : ℕ) (d : List Span) (v : View) (right up k : ℕ) → b < p.blocks.count
      → right < view_width (grid_sizes p.grid) v → up < view_height (grid_sizes p.grid) v
      → is_on (slice_index_or spans b d) (column_number (grid_sizes p.grid) v right up) k ≡ is_of b (block_at p.blocks (shown_cell (grid_sizes p.grid) v right up (pos k)))

-- the number of the column beside a line that stands at a place across it, or of the one beyond where there is none
abbrev pub IsColumnOf : Sizes → LineId → ℤ → ℕ → Type 0
IsColumnOf sizes l j c = ((at : ℕ) × (j ≡ pos at) × (at < sizes (axis_across l.view l.upright))
    × (c ≡ column_number sizes l.view (if l.upright then at else l.cell) (if l.upright then l.cell else at)))
    ⊎ ((is_below (sizes (axis_across l.view l.upright)) j ≡ false) × (c ≡ column_count sizes))

-- what is kept of a line is its style and the columns beside it
pub record IsBeside (p : ProblemParts) (b : Beside) : Type 0 where
  pub cell : b.line.cell < grid_sizes p.grid (axis_along b.line.view b.line.upright)
  pub style : b.style ≡ line_style p.grid b.line
  pub inside : (b.after < column_count (grid_sizes p.grid) + 1) × (b.before < column_count (grid_sizes p.grid) + 1)
  pub after : IsColumnOf (grid_sizes p.grid) b.line (pos b.line.at) b.after
  pub before : IsColumnOf (grid_sizes p.grid) b.line (pos b.line.at -ℤ pos 1) b.before

-- all lines, in their order
pub record AreSides (p : ProblemParts) (sides : List Beside) : Type 0 where
  pub listed : map (λ b. b.line) sides ≡ lines_of p.grid
  pub each : All (IsBeside p) sides

-- a line is listed with a block where a column beside it has a cell of the block, in the order of all lines
pub record AreTouched (p : ProblemParts) (sides : List Beside) (spans : List (List Span)) (touched : List (List ℕ)) : Type 0 where
  pub count : length touched ≡ length spans
  pub there : All (λ ls. All (λ i. i < length sides) ls) touched
  pub each : (b i : ℕ) (s : List Span) (ls : List ℕ) (d : Beside) → b < length spans → i < length sides
      → times_listed i (slice_index_or touched b ls) ≡ 0
      → (k : ℕ) → (is_on (slice_index_or spans b s) (slice_index_or sides i d).after k ≡ false) × (is_on (slice_index_or spans b s) (slice_index_or sides i d).before k ≡ false)
  pub exact : (b : ℕ) (ls : List ℕ) (d : Beside) → b < length spans → map (λ i. (slice_index_or sides i d).line) (slice_index_or touched b ls) ≡ lines_touching p b

-- The lines that can't be met under the first decisions, for each number of them, are the first so many of those that are
-- listed.
pub record IsTrail (p : ProblemParts) (sides : List Beside) (decisions : List Decision) (heights broken : List ℕ) : Type 0 where
  pub count : length heights ≡ length decisions
  pub ordered : (m n : ℕ) → m ≤ n → slice_index_or heights m (length broken) ≤ slice_index_or heights n (length broken)
  pub each : (n i : ℕ) (d : Beside) → n ≤ length decisions → i < length sides
      → (times_listed i (take (slice_index_or heights n (length broken)) broken) ≡ 0) ↔ CanBeMet p (decided_by (take n decisions)) (slice_index_or sides i d).line

-- what doesn't change while blocks are decided
pub record IsPlanOf (p : ProblemParts) (spans : List (List Span)) (touched : List (List ℕ)) (sides : List Beside) : Type 0 where
  pub cells : AreSpans p spans
  pub lines : AreSides p sides
  pub few : length sides ≤ 24192
  pub beside : AreTouched p sides spans touched

-- what changes: what is known of the columns, and which lines can't be met
pub record IsStateOf (p : ProblemParts) (sides : List Beside) (decisions : List Decision) (columns : List KnownColumn) (met : List Bool) (heights broken : List ℕ) : Type 0 where
  pub known : AreKnownColumns p (decided_by decisions) columns
  pub count : length met ≡ length sides
  pub marked : AreMarked met broken
  pub trail : IsTrail p sides decisions heights broken

-- all of it, and there is room for a decision on each block and for each line
pub record IsKeptBy (p : ProblemParts) (decisions : List Decision) (spans : List (List Span)) (touched : List (List ℕ)) (sides : List Beside)
    (columns : List KnownColumn) (met : List Bool) (heights broken : List ℕ) (room high wide : ℕ) : Type 0 where
  pub decided : AreDecisions p.blocks.count decisions
  pub roomy : p.blocks.count ≤ room
  pub roomy_heights : p.blocks.count ≤ high
  pub roomy_lines : length met ≤ wide
  pub plan : IsPlanOf p spans touched sides
  pub state : IsStateOf p sides decisions columns met heights broken

-- for each block what is decided of it
pub record AreValues (blocks : ℕ) (decisions : List Decision) (values : List (Option Bool)) : Type 0 where
  pub count : length values ≡ blocks
  pub each : (b : ℕ) (d : Option Bool) → b < blocks → slice_index_or values b d ≡ decided_by decisions b
