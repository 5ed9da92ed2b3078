-- Lines that can't be met, by number.
use Rattle.std.specs.Prelude.{◌≡◌, ◌↔◌, ◌<◌, ◌≤◌, ◌+◌, ◌%◌, Bool, false, ℕ, Option, Some, None, nat_lt, List, length, take, All, slice_index_or, if◌then◌else◌}
use Rattle.std.specs.List.{sum_by}
use Rattle.solid_model.specs.Known.{known_bits}
use Rattle.line_demands.specs.declared.known.KnownColumn.{KnownColumn}
use Rattle.line_demands.specs.declared.lines.Beside.{Beside}
use Rattle.line_demands.specs.Doubted.{AreFree}
use Rattle.line_demands.specs.Spans.{column_there}
use Rattle.lemmas.specs.Bits.{is_set}
use Rattle.lemmas.specs.Counts.{one_if, times_listed}
use Rattle.solid_model.specs.Demands.{CanDraw}

-- The marks of lines say which can be met; each other line is listed once.
pub record AreMarked (met : List Bool) (broken : List ℕ) : Type 0 where
  pub once : (i : ℕ) → i < length met → times_listed i broken + one_if (slice_index_or met i false) ≡ 1
  pub below : All (λ i. i < length met) broken
  pub counted : length broken + sum_by one_if met ≡ length met

-- some columns that agree with what is known of those beside a line draw its style
abbrev pub IsMetBy : List KnownColumn → Beside → Type 0
IsMetBy columns b = CanDraw (known_bits (column_there columns b.after).full (column_there columns b.after).may)
    (known_bits (column_there columns b.before).full (column_there columns b.before).may) b.style

-- each undecided cell of the columns beside a line can have either value
abbrev pub AreFreeBeside : List KnownColumn → Beside → Type 0
AreFreeBeside columns b = AreFree (known_bits (column_there columns b.after).full (column_there columns b.after).may)
    (known_bits (column_there columns b.before).full (column_there columns b.before).may) b.style

-- the columns beside each line are some of so many
abbrev pub AreBeside : ℕ → List Beside → Type 0
AreBeside count sides = All (λ b. (b.after < count) × (b.before < count)) sides

-- a list begins with another one
pub record BeginsWith (first whole : List ℕ) : Type 0 where
  pub same : take (length first) whole ≡ first
  pub longer : length first ≤ length whole

-- Of the lines that weren't broken, those are broken now that were tried and can't be met.
pub record AreTried (columns : List KnownColumn) (sides : List Beside) (lines old new : List ℕ) : Type 0 where
  pub begins : BeginsWith old new
  pub each : (i : ℕ) (d : Beside) → i < length sides
      → (times_listed i new ≡ 0) ↔ ((times_listed i old ≡ 0) × (0 < times_listed i lines → IsMetBy columns (slice_index_or sides i d)))

-- of the lines at the first places each that isn't broken leaves the cells beside it free, but for those whose bit is set: places that
-- are 64 apart share one
abbrev pub AreFreeAmong : List KnownColumn → List Beside → List ℕ → ℕ → List ℕ → ℕ → Type 0
AreFreeAmong columns sides lines count broken doubts = (place e : ℕ) (d : Beside) → place < count → is_set doubts (place % 64) ≡ false
    → times_listed (slice_index_or lines place e) broken ≡ 0 → AreFreeBeside columns (slice_index_or sides (slice_index_or lines place e) d)

-- it is one of them, and each that is less isn't
pub record IsLeastNumber (numbers : List ℕ) (x : ℕ) : Type 0 where
  pub there : 0 < times_listed x numbers
  pub least : (i : ℕ) → i < x → times_listed i numbers ≡ 0

abbrev pub IsLeast : List ℕ → Option ℕ → Type 0
IsLeast numbers None = (i : ℕ) → times_listed i numbers ≡ 0
IsLeast numbers (Some x) = IsLeastNumber numbers x

-- the lesser of two numbers, of which the first may be none
abbrev pub lesser_of : Option ℕ → ℕ → ℕ
lesser_of None n = n
lesser_of (Some x) n = if nat_lt n x then n else x

-- of the first lines those are listed that can't be met, and none of the others
pub record AreBrokenTo (columns : List KnownColumn) (sides : List Beside) (n : ℕ) (broken : List ℕ) : Type 0 where
  pub before : (i : ℕ) (d : Beside) → i < n → i < length sides → (times_listed i broken ≡ 0) ↔ IsMetBy columns (slice_index_or sides i d)
  pub after : (i : ℕ) → n ≤ i → times_listed i broken ≡ 0
