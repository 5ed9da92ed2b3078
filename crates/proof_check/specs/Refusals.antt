-- Why a text is no log of a problem, and which of its lines is the first that is refused.
use Rattle.std.specs.Prelude.{◌≡◌, ◌≢◌, ◌⊎◌, ℕ, suc, ◌+◌, ◌≤◌, List, [], ◌∷◌, IsTrue}
use Rattle.solid_model.specs.Blocks.{ProblemParts}
use Rattle.dxf_groups.specs.TextLines.{text_lines}
use Rattle.text_lines.specs.Numbers.{has_ten_digits}
use Rattle.completeness_logs.specs.declared.entry.LogEntry.{LogEntry}
use Rattle.completeness_logs.specs.declared.entry.LogEntry.TheVariants.{Fail, Whole, Force, Split}
use Rattle.completeness_logs.specs.Logs.{KnownBlocks, IsUndecided, ShowsFail, ShowsForce, ShowsSolid, IsRightEntry, after_entry, nothing_known, listed_by}
use Rattle.completeness_logs.specs.LogTexts.{closing_line, entry_line, is_short_entry, most_listed, opening_line}
use Rattle.proof_check.specs.declared.fault.LogKind.{LogKind}
use Rattle.proof_check.specs.declared.fault.LogKind.TheVariants.{BadLine, BadBlock, Unproved, Unsolid, TooMany, BadCount, Short, Long}
use Rattle.proof_check.specs.declared.fault.LogRefused.{LogRefused}
use Rattle.proof_check.specs.declared.fault.LogRefused.TheVariants.{Fault, Memory}

-- a line says this entry, whose numbers have at most ten digits
abbrev pub SaysEntry : List ℕ → LogEntry → Type 0
SaysEntry line e = IsTrue (is_short_entry e) × (line ≡ entry_line e)

-- a line is a last one and tells this number, which has at most ten digits
abbrev pub SaysEnd : List ℕ → ℕ → Type 0
SaysEnd line n = IsTrue (has_ten_digits n) × (line ≡ closing_line n)

-- What is wrong with an entry, where so many solids are listed before it: its block isn't there or is decided; its line isn't
-- there, or doesn't show what is claimed; at a solid a block is undecided or a line can't be met, or it is one too many.
abbrev pub IsWrongEntry : ProblemParts → KnownBlocks → ℕ → LogEntry → LogKind → Type 0
IsWrongEntry p known listed (Fail place) kind = (kind ≡ Unproved) × (ShowsFail p known place → ⊥)
IsWrongEntry p known listed Whole kind = ((kind ≡ Unsolid) × (ShowsSolid p known → ⊥)) ⊎ ((kind ≡ TooMany) × ShowsSolid p known × (most_listed ≤ listed))
IsWrongEntry p known listed (Force block full place) kind = ((kind ≡ BadBlock) × (IsUndecided p known block → ⊥))
    ⊎ ((kind ≡ Unproved) × IsUndecided p known block × (ShowsForce p known block full place → ⊥))
IsWrongEntry p known listed (Split block) kind = (kind ≡ BadBlock) × (IsUndecided p known block → ⊥)

-- What is wrong with a last line of this number, which tells n solids, or with the lines that follow it: so many aren't listed; or
-- there is a line, and the first of them is wrong.
abbrev pub IsWrongCount : ℕ → ℕ → List (List ℕ) → ℕ → LogKind → ℕ → Type 0
IsWrongCount listed number ls n kind line = ((kind ≡ BadCount) × (n ≢ listed) × (line ≡ number))
    ⊎ ((kind ≡ Long) × (n ≡ listed) × (ls ≢ []) × (line ≡ suc number))

-- Of the lines that are left, of which the first has this number, while trees are to come under these states and so many solids
-- are listed, this one is the first that is refused, and that is why: it isn't there, it has no form that may stand there, or what
-- it says is wrong.
abbrev pub IsFirstRefused : ProblemParts → List KnownBlocks → ℕ → ℕ → List (List ℕ) → LogKind → ℕ → Type 0
IsFirstRefused p [] listed number [] kind line = (kind ≡ Short) × (line ≡ number)
IsFirstRefused p [] listed number (l ∷ ls) kind line =
    (((n : ℕ) → SaysEnd l n → ⊥) × (kind ≡ BadLine) × (line ≡ number))
    ⊎ ((n : ℕ) × SaysEnd l n × IsWrongCount listed number ls n kind line)
IsFirstRefused p (known ∷ others) listed number [] kind line = (kind ≡ Short) × (line ≡ number)
IsFirstRefused p (known ∷ others) listed number (l ∷ ls) kind line =
    (((e : LogEntry) → SaysEntry l e → ⊥) × (kind ≡ BadLine) × (line ≡ number))
    ⊎ ((e : LogEntry) × SaysEntry l e × (((line ≡ number) × IsWrongEntry p known listed e kind)
    ⊎ (IsRightEntry p known e × (listed + listed_by e ≤ most_listed)
    × IsFirstRefused p (after_entry e known others) (listed + listed_by e) (suc number) ls kind line)))

-- the same of all lines, of which the first is that of the problem's blocks
abbrev pub AreRefused : ProblemParts → List (List ℕ) → LogKind → ℕ → Type 0
AreRefused p [] kind line = (kind ≡ Short) × (line ≡ 1)
AreRefused p (l ∷ ls) kind line = ((l ≢ opening_line p.blocks.count) × (kind ≡ BadLine) × (line ≡ 1))
    ⊎ ((l ≡ opening_line p.blocks.count) × IsFirstRefused p (nothing_known ∷ []) 0 2 ls kind line)

-- and of those of a text
abbrev pub IsLogRefused : ProblemParts → List ℕ → LogKind → ℕ → Type 0
IsLogRefused p text = AreRefused p (text_lines text)

-- a refusal by a fault tells its kind and its line
abbrev pub TellsRefusal : (LogKind → ℕ → Type 0) → LogRefused → Type 0
TellsRefusal is (Fault f) = is f.kind f.line
TellsRefusal is Memory = Unit {0}
