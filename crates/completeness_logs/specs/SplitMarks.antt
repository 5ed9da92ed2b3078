-- What is still to come of a log's tree, told by the decisions that stand and the places of those whose other side is to come.
use Rattle.std.specs.Prelude.{Bool, true, false, ℕ, ◌<◌, List, [], ◌∷◌, length, take, get_or}
use Rattle.solid_model.specs.declared.decision.Decision.{Decision}
use Rattle.solid_model.specs.Decisions.{decided_by}
use Rattle.completeness_logs.specs.Logs.{KnownBlocks, with_block}

-- a decision that stands where there is none
abbrev pub no_decision : Decision
no_decision = record { block = 0; full = false }

-- the empty side of the split at a place
abbrev pub empty_side : List Decision → ℕ → KnownBlocks
empty_side decisions mark = with_block (decided_by (take mark decisions)) (get_or decisions mark no_decision).block false

-- these are places of decisions, the last one first
abbrev pub AreSplitMarks : List Decision → List ℕ → Type 0
AreSplitMarks decisions [] = Unit {0}
AreSplitMarks decisions (mark ∷ marks) = (mark < length decisions) × AreSplitMarks (take mark decisions) marks

-- the empty sides that are to come
abbrev pub sides_to_come : List Decision → List ℕ → List KnownBlocks
sides_to_come decisions [] = []
sides_to_come decisions (mark ∷ marks) = empty_side decisions mark ∷ sides_to_come (take mark decisions) marks

-- what is to come where the decisions' own tree is, too; or where all has come
abbrev pub all_to_come : Bool → List Decision → List ℕ → List KnownBlocks
all_to_come true decisions marks = decided_by decisions ∷ sides_to_come decisions marks
all_to_come false decisions marks = []
