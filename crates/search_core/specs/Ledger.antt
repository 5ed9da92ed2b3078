-- The ledger of a desk.
use Rattle.std.specs.Prelude.{◌≡◌, ◌<◌, ◌≤◌, ◌+◌, Bool, ℕ, List, [], ◌∷◌, ◌++◌, length, take, drop, slice_index_or, Option, None, if◌then◌else◌}
use Rattle.solid_model.specs.declared.ended.EndKind.{EndKind}
use Rattle.solid_model.specs.Blocks.{ProblemParts}
use Rattle.solid_model.specs.Forcing.{is_live}
use Rattle.lemmas.specs.Lists.{Member, Each}
use Rattle.lemmas.specs.Counts.{times_listed, times_among}
use Rattle.solid_model.specs.Search.{SearchLimits}
use Rattle.search_core.specs.declared.ledger.Ledger.{Ledger}
use Rattle.search_core.specs.declared.note.Note.{Note}
use Rattle.search_core.specs.Core.{Event, IsCoreRun, core_start}
use Rattle.search_core.specs.Desk.{DeskParts, desk_state}
use Rattle.search_core.specs.Notes.{told, AreShared}
use Rattle.prefix_tree.specs.Places.{prefix_at, StandsAt, AreDistinct}
use Rattle.search_core.specs.Frontier.{count_of, count_without, first_or, passed}

-- stored prefixes; the places that were put into the frontier, and how often each stands there; notes; and the choices found
pub record LedgerParts : Type 0 where
  pub stored : List (List Bool)
  pub put : List ℕ
  pub counts : List ℕ
  pub notes : List Note
  pub found : List (List Bool)

-- the same of a ledger
abbrev pub ledger_of : Ledger → LedgerParts
ledger_of b = record {
  stored = b.prefixes;
  put = b.frontier.put;
  counts = b.frontier.counts;
  notes = b.notes.items;
  found = b.found.items;
}

-- the place of the first piece of a ledger after a report of a piece, with a rest at these places
abbrev pub next_first : Ledger → ℕ → List ℕ → ℕ
next_first b piece rest = first_or (first_or b.first.place rest) (passed (count_without b.frontier.counts piece) b.frontier.ahead)

-- the prefix that is kept whole is at its place, and is the first of those ahead, if there are any; and these are stored
pub record KnowsFirst (b : Ledger) : Type 0 where
  pub stands : StandsAt b.prefixes b.first.prefix b.first.place
  pub is : first_or b.first.place b.frontier.ahead ≡ b.first.place
  pub ahead : Each (λ k. k < length b.prefixes) b.frontier.ahead

-- the history that a ledger tells; the place that was put first is that of the empty prefix
abbrev pub history_of : LedgerParts → List Event
history_of b = told b.stored b.notes b.found (drop 1 b.put)

-- A ledger is in order: its places are those of stored prefixes, no two of which are equal; the empty prefix was put first; and
-- the notes share what was found and what was put.
pub record IsLedger (b : LedgerParts) : Type 0 where
  pub distinct : AreDistinct b.stored
  pub begun : 0 < length b.put
  pub root : prefix_at b.stored (slice_index_or b.put 0 0) ≡ []
  pub put : Each (λ k. k < length b.stored) b.put
  pub pieces : Each (λ (x : Note). x.piece < length b.stored) b.notes
  pub shared : AreShared b.notes b.found (drop 1 b.put)

-- A ledger in which nothing is noted: the empty prefix was put first. It is in the frontier where it is live.
pub record IsBegun (b : LedgerParts) (live : Bool) : Type 0 where
  pub root : ℕ
  pub stands : StandsAt b.stored [] root
  pub distinct : AreDistinct b.stored
  pub put : b.put ≡ root ∷ []
  pub counts : (k : ℕ) → count_of b.counts k ≡ (if live then times_listed k (root ∷ []) else 0)
  pub notes : b.notes ≡ []
  pub found : b.found ≡ []

-- before a report: the same ledger, with more prefixes stored
pub record HasGrown (b after : LedgerParts) : Type 0 where
  pub grown : (more : List (List Bool)) × (after.stored ≡ b.stored ++ more)
  pub distinct : AreDistinct after.stored
  pub put : after.put ≡ b.put
  pub counts : (k : ℕ) → count_of after.counts k ≡ count_of b.counts k
  pub notes : after.notes ≡ b.notes
  pub found : after.found ≡ b.found

-- after a report: its piece is taken out, its rest is put, its choices are found, and it is noted
pub record HasPosted (b after : LedgerParts) (piece opened : ℕ) (choices : List (List Bool)) (places : List ℕ) : Type 0 where
  pub stored : after.stored ≡ b.stored
  pub put : after.put ≡ b.put ++ places
  pub counts : (k : ℕ) → count_of after.counts k ≡ count_without b.counts piece k + times_listed k places
  pub notes : after.notes ≡ b.notes ++ record { piece = piece; opened = opened; found = length choices; rest = length places } ∷ []
  pub found : after.found ≡ b.found ++ choices

-- counts keep a frontier: its prefixes are stored, and each stored prefix is counted as often as it stands there
pub record KeepsFrontier (stored : List (List Bool)) (counts : List ℕ) (frontier : List (List Bool)) : Type 0 where
  pub kept : Each (Member stored) frontier
  pub counted : (k : ℕ) → k < length stored → count_of counts k ≡ times_among (prefix_at stored k) frontier
  pub unstored : (k : ℕ) → length stored ≤ k → count_of counts k ≡ 0

-- the desk that a ledger tells of
abbrev pub desk_of : ProblemParts → SearchLimits → List Event → DeskParts
desk_of p limits history = record {
  problem = p;
  limits = limits;
  history = history;
  frontier = (desk_state p limits history).frontier;
  found = (desk_state p limits history).found;
  opened = (desk_state p limits history).opened;
  end = (desk_state p limits history).end;
}

-- The ledger of a desk is in order, its history is a run, and what the desk keeps stands as the history leaves it. Before its
-- end both limits are kept.
pub record IsLedgerOf (p : ProblemParts) (limits : SearchLimits) (b : LedgerParts) (count : ℕ) (kind : Option EndKind) : Type 0 where
  pub ledger : IsLedger b
  pub run : IsCoreRun (is_live p) p.blocks.count limits (core_start (is_live p)) (history_of b)
  pub frontier : KeepsFrontier b.stored b.counts (desk_state p limits (history_of b)).frontier
  pub found : (desk_state p limits (history_of b)).found ≡ take limits.solids b.found
  pub opened : count ≡ (desk_state p limits (history_of b)).opened
  pub end : kind ≡ (desk_state p limits (history_of b)).end
  pub few_found : kind ≡ None → length b.found ≤ limits.solids
  pub few_opened : kind ≡ None → count ≤ limits.nodes
