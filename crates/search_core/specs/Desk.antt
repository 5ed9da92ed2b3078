-- The desk of a search: the core as a value that keeps its history. Its frontier stands in any order: the core adds a rest
-- at the end and takes a piece out where it stands, while the desk counts by place, which has no order of its own.
use Rattle.std.specs.Prelude.{◌≡◌, ◌≤◌, ◌+◌, Bool, ℕ, List, [], ◌∷◌, ◌++◌, take, Option, None, IsPermutation}
use Rattle.std.specs.List.{flat_map}
use Rattle.solid_model.specs.declared.ended.EndKind.{EndKind}
use Rattle.solid_model.specs.Blocks.{ProblemParts}
use Rattle.solid_model.specs.Forcing.{is_live}
use Rattle.lemmas.specs.Lists.{Member}
use Rattle.lemmas.specs.Counts.{times_among}
use Rattle.solid_model.specs.Reports.{Report}
use Rattle.solid_model.specs.Search.{SearchLimits}
use Rattle.search_core.specs.Core.{Core, Event, IsCoreRun, core_start, after_events}

-- a desk: for which problem and limits, what has happened, and how the search stands
pub record DeskParts : Type 0 where
  pub problem : ProblemParts
  pub limits : SearchLimits
  pub history : List Event
  pub frontier : List (List Bool)
  pub found : List (List Bool)
  pub opened : ℕ
  pub end : Option EndKind

-- the state that a history leads to
abbrev pub desk_state : ProblemParts → SearchLimits → List Event → Core
desk_state p limits history = after_events limits (core_start (is_live p)) history

-- Every event of the history came in a state that took it, and the search stands as the history leaves it. The order of the
-- frontier is free.
pub record IsDesk (d : DeskParts) : Type 0 where
  pub run : IsCoreRun (is_live d.problem) d.problem.blocks.count d.limits (core_start (is_live d.problem)) d.history
  pub frontier : IsPermutation d.frontier (desk_state d.problem d.limits d.history).frontier
  pub found : d.found ≡ (desk_state d.problem d.limits d.history).found
  pub opened : d.opened ≡ (desk_state d.problem d.limits d.history).opened
  pub end : d.end ≡ (desk_state d.problem d.limits d.history).end

-- all pieces that were put into the frontier, one after another: the empty one, and each report's rest
abbrev pub pieces_put : List Event → List (List Bool)
pieces_put history = [] ∷ flat_map (λ e. e.rest) history

-- A piece is the first of the frontier: it stands there, and all that does was put there no earlier.
pub record IsFirstPiece (d : DeskParts) (piece : List Bool) : Type 0 where
  pub stands : Member d.frontier piece
  pub earlier : List (List Bool)
  pub later : List (List Bool)
  pub put : pieces_put d.history ≡ earlier ++ piece ∷ later
  pub left : (p : List Bool) → times_among p d.frontier ≤ times_among p (piece ∷ later)

-- ---- reports

-- the event of a report
abbrev pub event_of : Report → Event
event_of r = record { piece = r.piece; opened = r.opened; found = r.found; rest = r.rest }

-- a desk takes a report of its problem, before its end, of a piece of its frontier
pub record Takes (d : DeskParts) (r : Report) : Type 0 where
  pub same : r.problem ≡ d.problem
  pub going : d.end ≡ None
  pub in_frontier : Member d.frontier r.piece

-- after a report its event stands behind the history: its choices are found too, as far as the limit of solids has room, and so
-- many more prefixes are opened
pub record IsTaken (before : DeskParts) (r : Report) (after : DeskParts) : Type 0 where
  pub problem : after.problem ≡ before.problem
  pub limits : after.limits ≡ before.limits
  pub history : after.history ≡ before.history ++ event_of r ∷ []
  pub found : after.found ≡ take before.limits.solids (before.found ++ r.found)
  pub opened : after.opened ≡ before.opened + r.opened
