-- Completeness logs: trees of decisions. What is known of the blocks is a value for some of them.
use Rattle.std.specs.Prelude.{◌≡◌, ◌≢◌, Bool, true, false, not, ℕ, ◌<◌, List, [], ◌∷◌, ◌++◌, map, Option, Some, None, IsTrue}
use Rattle.std.specs.List.{range_with_len}
use Rattle.solid_model.specs.declared.line_id.LineId.{LineId}
use Rattle.solid_model.specs.Blocks.{ProblemParts}
use Rattle.solid_model.specs.Demands.{has_line, AllMet, CanBeMet}
use Rattle.solid_model.specs.Forcing.{known_with, LineExcludes}
use Rattle.completeness_logs.specs.declared.entry.LinePlace.{LinePlace}
use Rattle.completeness_logs.specs.declared.entry.LogEntry.{LogEntry}
use Rattle.completeness_logs.specs.declared.entry.LogEntry.TheVariants.{Fail, Whole, Force, Split}

-- what is known of the blocks
abbrev pub KnownBlocks : Type 0
KnownBlocks = ℕ → Option Bool

-- nothing is
abbrev pub nothing_known : KnownBlocks
nothing_known block = None

-- a block more is full, or empty
abbrev pub with_block : KnownBlocks → ℕ → Bool → KnownBlocks
with_block known block full = known_with known (record { block = block; full = full })

-- the line of a grid at a place, if the grid has it
abbrev pub line_placed : LinePlace → LineId
line_placed place = record { view = place.view; upright = place.upright; at = place.at; cell = place.cell }

-- ---- what is claimed

-- the block is there, and undecided
abbrev pub IsUndecided : ProblemParts → KnownBlocks → ℕ → Type 0
IsUndecided p known block = (block < p.blocks.count) × (known block ≡ None)

-- the line is there, and can't be met
abbrev pub ShowsFail : ProblemParts → KnownBlocks → LinePlace → Type 0
ShowsFail p known place = IsTrue (has_line p.grid (line_placed place)) × (CanBeMet p known (line_placed place) → ⊥)

-- the line is there, and excludes that the block has the other value
abbrev pub ShowsForce : ProblemParts → KnownBlocks → ℕ → Bool → LinePlace → Type 0
ShowsForce p known block full place =
    IsTrue (has_line p.grid (line_placed place)) × LineExcludes p known (line_placed place) block (not full)

-- every block is decided, and every line can be met
abbrev pub ShowsSolid : ProblemParts → KnownBlocks → Type 0
ShowsSolid p known = ((block : ℕ) → block < p.blocks.count → known block ≢ None) × AllMet p known

-- ---- trees

-- A tree ends where a line fails, or with a solid. It goes on with a block that is forced, or with both values of a block: first
-- where it is full, then where it is empty.
pub data LogTree : Type 0 where
  fails : LinePlace → LogTree
  whole : LogTree
  forces : ℕ → Bool → LinePlace → LogTree → LogTree
  splits : ℕ → LogTree → LogTree → LogTree

-- what a tree claims is so, where so much is known
abbrev pub IsTreeUnder : ProblemParts → KnownBlocks → LogTree → Type 0
IsTreeUnder p known (fails place) = ShowsFail p known place
IsTreeUnder p known whole = ShowsSolid p known
IsTreeUnder p known (forces block full place t) =
    IsUndecided p known block × ShowsForce p known block full place × IsTreeUnder p (with_block known block full) t
IsTreeUnder p known (splits block t u) =
    IsUndecided p known block × IsTreeUnder p (with_block known block true) t × IsTreeUnder p (with_block known block false) u

-- the entries of a tree, one a line
abbrev pub tree_entries : LogTree → List LogEntry
tree_entries (fails place) = Fail place ∷ []
tree_entries whole = Whole ∷ []
tree_entries (forces block full place t) = Force block full place ∷ tree_entries t
tree_entries (splits block t u) = Split block ∷ tree_entries t ++ tree_entries u

-- ---- what is listed

-- a block is known to be full
abbrev pub known_full : Option Bool → Bool
known_full None = false
known_full (Some full) = full

-- the choice of all blocks that is known where each of them is decided
abbrev pub choice_known : ProblemParts → KnownBlocks → List Bool
choice_known p known = map (λ block. known_full (known block)) (range_with_len 0 p.blocks.count)

-- the choices that a tree lists: those that are known at its solids
abbrev pub listed_choices : ProblemParts → KnownBlocks → LogTree → List (List Bool)
listed_choices p known (fails place) = []
listed_choices p known whole = choice_known p known ∷ []
listed_choices p known (forces block full place t) = listed_choices p (with_block known block full) t
listed_choices p known (splits block t u) =
    listed_choices p (with_block known block true) t ++ listed_choices p (with_block known block false) u

-- ---- the same, entry by entry
-- Where a tree is still to come under each of several states of what is known, one after another, the first one is open.

-- what an entry claims is so
abbrev pub IsRightEntry : ProblemParts → KnownBlocks → LogEntry → Type 0
IsRightEntry p known (Fail place) = ShowsFail p known place
IsRightEntry p known Whole = ShowsSolid p known
IsRightEntry p known (Force block full place) = IsUndecided p known block × ShowsForce p known block full place
IsRightEntry p known (Split block) = IsUndecided p known block

-- what is to come after an entry under the first state
abbrev pub after_entry : LogEntry → KnownBlocks → List KnownBlocks → List KnownBlocks
after_entry (Fail place) known others = others
after_entry Whole known others = others
after_entry (Force block full place) known others = with_block known block full ∷ others
after_entry (Split block) known others = with_block known block true ∷ with_block known block false ∷ others

-- the choices that it lists
abbrev pub listed_at : ProblemParts → KnownBlocks → LogEntry → List (List Bool)
listed_at p known (Fail place) = []
listed_at p known Whole = choice_known p known ∷ []
listed_at p known (Force block full place) = []
listed_at p known (Split block) = []

-- how many solids an entry lists
abbrev pub listed_by : LogEntry → ℕ
listed_by (Fail place) = 0
listed_by Whole = 1
listed_by (Force block full place) = 0
listed_by (Split block) = 0

-- these entries are those of a tree under each of the states, and all they claim is so
abbrev pub AreTreesUnder : ProblemParts → List KnownBlocks → List LogEntry → Type 0
AreTreesUnder p [] [] = Unit {0}
AreTreesUnder p [] (e ∷ entries) = ⊥
AreTreesUnder p (known ∷ others) [] = ⊥
AreTreesUnder p (known ∷ others) (e ∷ entries) = IsRightEntry p known e × AreTreesUnder p (after_entry e known others) entries

-- the choices that they list
abbrev pub listed_along : ProblemParts → List KnownBlocks → List LogEntry → List (List Bool)
listed_along p [] entries = []
listed_along p (known ∷ others) [] = []
listed_along p (known ∷ others) (e ∷ entries) = listed_at p known e ++ listed_along p (after_entry e known others) entries
