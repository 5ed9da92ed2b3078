-- How the columns of a box are numbered, and what is gathered of one.
use Rattle.std.specs.Prelude.{◌≡◌, ◌↔◌, ◌<◌, ◌≤◌, ◌+◌, ◌-◌, ◌/◌, ◌%◌, ◌==◌, ◌&&◌, ◌||◌, Bool, true, false, ℕ, pos, List, [], ◌++◌, length, map, slice_index_or, All, Option, Some, None, nat_lt, is_some, if◌then◌else◌}
use Rattle.std.specs.List.{filter, range_with_len}
use Rattle.line_demands.specs.declared.gather.ColumnPlace.{ColumnPlace}
use Rattle.solid_model.specs.declared.segment.Style.TheVariants.{Blank}
use Rattle.line_demands.specs.declared.lines.Beside.{Beside}
use Rattle.line_demands.specs.declared.spans.Span.{Span}
use Rattle.line_demands.specs.Touching.{is_of, view_width, shown_cell}
use Rattle.line_demands.specs.Spans.{is_on, known_there, AreWithin, AreAdded}
use Rattle.solid_model.specs.Decisions.{decided_by}
use Rattle.solid_model.specs.Demands.{known_in}
use Rattle.line_demands.specs.Plans.{IsAddedOnce, with_hit, is_listed}
use Rattle.line_demands.specs.declared.known.KnownColumn.{KnownColumn}
use Rattle.solid_model.specs.Frames.{frame_of}
use Rattle.line_demands.specs.KeptColumns.{columns_before, IsBeside}
use Rattle.solid_model.specs.declared.frame.View.{View}
use Rattle.solid_model.specs.declared.frame.View.TheVariants.{Front, Top, Side}
use Rattle.solid_model.specs.declared.line_id.LineId.{LineId}
use Rattle.lemmas.specs.Bits.{is_set}
use Rattle.lemmas.specs.Counts.{times_listed}
use Rattle.solid_model.specs.Blocks.{ProblemParts, block_at}
use Rattle.solid_model.specs.WalledBoxes.{Sizes}
use Rattle.solid_model.specs.GridBox.{grid_sizes}

-- where a column of a view stands, by its place among them
abbrev pub place_in_view : Sizes → View → ℕ → ColumnPlace
place_in_view sizes v n = record { view = v; right = n % view_width sizes v; up = n / view_width sizes v }

-- where the column of a number stands
abbrev pub place_numbered : Sizes → ℕ → ColumnPlace
place_numbered sizes n =
    if nat_lt n (columns_before sizes Top) then place_in_view sizes Front n
    else (if nat_lt n (columns_before sizes Side) then place_in_view sizes Top (n - columns_before sizes Top)
    else place_in_view sizes Side (n - columns_before sizes Side))

-- the block of the cell at a depth of a column that stands there
abbrev pub block_of_place : ProblemParts → ColumnPlace → ℕ → Option ℕ
block_of_place p at k = block_at p.blocks (shown_cell (grid_sizes p.grid) at.view at.right at.up (pos k))

-- one cell more of a block, or of none
abbrev pub AreAddedTo : Option ℕ → ℕ → ℕ → List (List Span) → List (List Span) → Type 0
AreAddedTo None number depth old new = new ≡ old
AreAddedTo (Some b) number depth old new = (length new ≡ length old) × ((c : ℕ) (d : List Span) → c < length old → (c ≡ b → ⊥) → slice_index_or new c d ≡ slice_index_or old c d)
    × ((d : List Span) → AreAdded number depth (slice_index_or old b d) (slice_index_or new b d))

-- the block of a cell, if it has one, is added to a list
abbrev pub IsListed : Option ℕ → List ℕ → List ℕ → Type 0
IsListed None old new = new ≡ old
IsListed (Some b) old new = IsAddedOnce b old new

-- What is gathered of a column of a number that stands there, down to a depth: its cells that belong to blocks, in the lists of
-- those blocks, and which blocks these are.
pub record IsGatheredTo (p : ProblemParts) (at : ColumnPlace) (number n : ℕ) (old spans : List (List Span)) (on : List ℕ) (may : ℕ) : Type 0 where
  pub count : length spans ≡ length old
  pub cells : (k : ℕ) → is_set may k ≡ (nat_lt k n && is_some (block_of_place p at k))
  pub each : (b : ℕ) (d : List Span) (c k : ℕ) → b < length old → is_on (slice_index_or spans b d) c k
      ≡ (is_on (slice_index_or old b d) c k || ((number == c) && (nat_lt k n && is_of b (block_of_place p at k))))
  pub inside : (m : ℕ) → All (λ ss. All (λ s. s.column < m) ss) old → number < m → All (λ ss. All (λ s. s.column < m) ss) spans
  pub which : (b : ℕ) → (times_listed b on ≡ 0) ↔ ((k : ℕ) → k < n → is_of b (block_of_place p at k) ≡ false)

-- All of the column of that number. None of its cells is decided.
pub record IsGatheredAt (p : ProblemParts) (at : ColumnPlace) (number : ℕ) (old spans : List (List Span)) (on : List ℕ) (column : KnownColumn) : Type 0 where
  pub full : column.full ≡ 0
  pub all : IsGatheredTo p at number (grid_sizes p.grid (frame_of at.view).away.axis) old spans on column.may

abbrev pub IsGathered : ProblemParts → ℕ → List (List Span) → List (List Span) → List ℕ → KnownColumn → Type 0
IsGathered p number old spans on column = IsGatheredAt p (place_numbered (grid_sizes p.grid) number) number old spans on column

-- the block of the cell at a depth of the column of a number
abbrev pub block_of_column : ProblemParts → ℕ → ℕ → Option ℕ
block_of_column p c k = block_of_place p (place_numbered (grid_sizes p.grid) c) k

-- All of the first columns.
pub record AreGatheredTo (p : ProblemParts) (n : ℕ) (spans : List (List Span)) (columns : List KnownColumn) (on : List (List ℕ)) : Type 0 where
  pub count : length spans ≡ p.blocks.count
  pub count_columns : length columns ≡ n
  pub count_on : length on ≡ n
  pub within : AreWithin columns
  pub known : (c k : ℕ) → c < n → known_there columns c k ≡ known_in (decided_by []) (block_of_column p c k)
  pub each : (b : ℕ) (d : List Span) (c k : ℕ) → b < p.blocks.count → is_on (slice_index_or spans b d) c k ≡ (nat_lt c n && is_of b (block_of_column p c k))
  pub inside : (m : ℕ) → n ≤ m → All (λ ss. All (λ s. s.column < m) ss) spans
  pub which : (c b : ℕ) (ls : List ℕ) → c < n → (times_listed b (slice_index_or on c ls) ≡ 0) ↔ ((k : ℕ) → is_of b (block_of_column p c k) ≡ false)

-- A line is listed with some blocks, and nothing else is.
pub record AreTouchedBy (line : ℕ) (blocks : List ℕ) (old new : List (List ℕ)) : Type 0 where
  pub count : length new ≡ length old
  pub each : (b n : ℕ) (ls : List ℕ) → b < length old
      → (times_listed n (slice_index_or new b ls) ≡ 0) ↔ ((times_listed n (slice_index_or old b ls) ≡ 0) × ((line == n) ≡ true → times_listed b blocks ≡ 0))
  pub lists : (b : ℕ) (ls base : List ℕ) (hit : Bool) → b < length old → All (λ x. x < line) base → slice_index_or old b ls ≡ with_hit base hit line
      → slice_index_or new b ls ≡ with_hit base (hit || is_listed b blocks) line

abbrev pub no_side : Beside
no_side = record { line = record { view = Front; upright = false; at = 0; cell = 0 }; after = 0; before = 0; style = Blank }

-- a column beside a line has cells of a block
abbrev pub hits : List Beside → List (List ℕ) → ℕ → ℕ → Bool
hits sides on b i = is_listed b (slice_index_or on (slice_index_or sides i no_side).after []) || is_listed b (slice_index_or on (slice_index_or sides i no_side).before [])

-- The first lines are listed with the blocks of the columns beside them.
pub record AreTouchedTo (sides : List Beside) (on : List (List ℕ)) (blocks n : ℕ) (touched : List (List ℕ)) : Type 0 where
  pub count : length touched ≡ blocks
  pub each : (b i : ℕ) (ls xs : List ℕ) (d : Beside) → b < blocks → i < n → i < length sides
      → (times_listed i (slice_index_or touched b ls) ≡ 0)
      ↔ ((times_listed b (slice_index_or on (slice_index_or sides i d).after xs) ≡ 0) × (times_listed b (slice_index_or on (slice_index_or sides i d).before xs) ≡ 0))
  pub later : (b i : ℕ) (ls : List ℕ) → b < blocks → n ≤ i → times_listed i (slice_index_or touched b ls) ≡ 0
  pub lists : (b : ℕ) (ls : List ℕ) → b < blocks → slice_index_or touched b ls ≡ filter (hits sides on b) (range_with_len 0 n)

-- so many lists with nothing in them
abbrev pub AllEmpty : {A : Type 0} → ℕ → List (List A) → Type 0
AllEmpty count lists = (length lists ≡ count) × All (λ xs. xs ≡ []) lists

-- these lines more, so many at most
pub record AreMoreSides (p : ProblemParts) (lines : List LineId) (most : ℕ) (old new : List Beside) : Type 0 where
  pub listed : map (λ b. b.line) new ≡ map (λ b. b.line) old ++ lines
  pub each : All (IsBeside p) old → All (IsBeside p) new
  pub few : length new ≤ length old + most
