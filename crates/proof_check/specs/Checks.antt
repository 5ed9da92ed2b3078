-- The check of a log, line by line, as lines are read. What is owed is told in `Refusals`, without a reading.
use Rattle.std.specs.Prelude.{◌≡◌, ◌≢◌, ◌⊎◌, Bool, ℕ, suc, ◌+◌, ◌≤◌, List, [], ◌∷◌, ◌++◌, length, map, Option, Some, None, IsTrue}
use Rattle.lemmas.specs.Lists.{Each}
use Rattle.solid_model.specs.Blocks.{ProblemParts}
use Rattle.dxf_groups.specs.TextLines.{text_lines}
use Rattle.completeness_logs.specs.declared.entry.LogEntry.{LogEntry}
use Rattle.completeness_logs.specs.Logs.{KnownBlocks, IsRightEntry, after_entry, listed_at, AreTreesUnder, listed_along, nothing_known, listed_by}
use Rattle.completeness_logs.specs.LogTexts.{most_listed, opening_line}
use Rattle.proof_check.specs.declared.fault.LogKind.{LogKind}
use Rattle.proof_check.specs.declared.fault.LogKind.TheVariants.{BadLine, Short}
use Rattle.proof_check.specs.LogLines.{LogReading, log_reading}
use Rattle.proof_check.specs.Refusals.{IsWrongCount, IsWrongEntry}

-- ---- what is wrong, as lines are read

-- what is wrong where the last line should stand, with this number
abbrev pub IsWrongEnd : ℕ → ℕ → List (List ℕ) → Option ℕ → LogKind → ℕ → Type 0
IsWrongEnd listed number ls None kind line = (kind ≡ BadLine) × (line ≡ number)
IsWrongEnd listed number ls (Some n) kind line = IsWrongCount listed number ls n kind line

-- of the lines that are left, of which the first has this number, this one is the first that is refused, and that is why
abbrev pub IsRefusedFrom : ProblemParts → LogReading → List KnownBlocks → ℕ → ℕ → List (List ℕ) → LogKind → ℕ → Type 0
IsRefusedFrom p r [] listed number [] kind line = (kind ≡ Short) × (line ≡ number)
IsRefusedFrom p r [] listed number (l ∷ ls) kind line = IsWrongEnd listed number ls (r.end l) kind line
IsRefusedFrom p r (known ∷ rest) listed number [] kind line = (kind ≡ Short) × (line ≡ number)
IsRefusedFrom p r (known ∷ rest) listed number (l ∷ ls) kind line =
    ((r.entry l ≡ None) × (kind ≡ BadLine) × (line ≡ number))
    ⊎ ((e : LogEntry) × (r.entry l ≡ Some e) × (((line ≡ number) × IsWrongEntry p known listed e kind)
    ⊎ (IsRightEntry p known e × (listed + listed_by e ≤ most_listed)
    × IsRefusedFrom p r (after_entry e known rest) (listed + listed_by e) (suc number) ls kind line)))

-- of these lines this is the first that is refused, and that is why
abbrev pub AreReadRefused : ProblemParts → List (List ℕ) → LogKind → ℕ → Type 0
AreReadRefused p [] kind line = (kind ≡ Short) × (line ≡ 1)
AreReadRefused p (l ∷ ls) kind line = ((l ≢ opening_line p.blocks.count) × (kind ≡ BadLine) × (line ≡ 1))
    ⊎ ((l ≡ opening_line p.blocks.count) × IsRefusedFrom p log_reading (nothing_known ∷ []) 0 2 ls kind line)

-- of the lines of a text
abbrev pub IsReadRefused : ProblemParts → List ℕ → LogKind → ℕ → Type 0
IsReadRefused p text = AreReadRefused p (text_lines text)

-- ---- what is right

-- the lines that are left are those of a log
abbrev pub IsRestOfLog : ProblemParts → LogReading → List KnownBlocks → ℕ → List (List ℕ) → Type 0
IsRestOfLog p r [] listed [] = ⊥
IsRestOfLog p r [] listed (l ∷ ls) = (r.end l ≡ Some listed) × (ls ≡ [])
IsRestOfLog p r (known ∷ rest) listed [] = ⊥
IsRestOfLog p r (known ∷ rest) listed (l ∷ ls) = (e : LogEntry) × (r.entry l ≡ Some e) × IsRightEntry p known e × (listed + listed_by e ≤ most_listed)
    × IsRestOfLog p r (after_entry e known rest) (listed + listed_by e) ls

-- the choices that a line lists
abbrev pub found_at : ProblemParts → KnownBlocks → Option LogEntry → List (List Bool)
found_at p known None = []
found_at p known (Some e) = listed_at p known e

-- the states under which trees are to come behind it
abbrev pub states_after : KnownBlocks → List KnownBlocks → Option LogEntry → List KnownBlocks
states_after known rest None = []
states_after known rest (Some e) = after_entry e known rest

-- the choices that the lines list
abbrev pub found_along : ProblemParts → LogReading → List KnownBlocks → List (List ℕ) → List (List Bool)
found_along p r [] ls = []
found_along p r (known ∷ rest) [] = []
found_along p r (known ∷ rest) (l ∷ ls) = found_at p known (r.entry l) ++ found_along p r (states_after known rest (r.entry l)) ls

-- ---- words for the proofs

-- what a reading reads back: the lines of short entries, and of last lines, and no others
pub record Reads (r : LogReading) (short : LogEntry → Bool) (entry_line : LogEntry → List ℕ) (closing_line : ℕ → List ℕ) : Type 0 where
  pub entry : (e : LogEntry) → IsTrue (short e) → r.entry (entry_line e) ≡ Some e
  pub end : (n : ℕ) → n ≤ most_listed → r.end (closing_line n) ≡ Some n
  pub only_entry : (line : List ℕ) (e : LogEntry) → r.entry line ≡ Some e → IsTrue (short e) × (line ≡ entry_line e)
  pub only_end : (line : List ℕ) (n : ℕ) → r.end line ≡ Some n → line ≡ closing_line n

-- the lines of a log behind its first one
abbrev pub log_lines : (LogEntry → List ℕ) → (ℕ → List ℕ) → List LogEntry → ℕ → List (List ℕ)
log_lines entry_line closing_line entries n = map entry_line entries ++ closing_line n ∷ []

-- the lines that are left are those of trees under these states, and the last one
pub record AreLogLines (p : ProblemParts) (short : LogEntry → Bool) (entry_line : LogEntry → List ℕ) (closing_line : ℕ → List ℕ)
    (states : List KnownBlocks) (listed : ℕ) (lines : List (List ℕ)) : Type 0 where
  pub steps : List LogEntry
  pub each : Each (λ e. IsTrue (short e)) steps
  pub follow : AreTreesUnder p states steps
  pub few : listed + length (listed_along p states steps) ≤ most_listed
  pub are : lines ≡ log_lines entry_line closing_line steps (listed + length (listed_along p states steps))
