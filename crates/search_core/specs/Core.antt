-- The core of a search that several may work at: which prefixes are still to be expanded, which choices were found, and how
-- many prefixes were opened. It is told as a list of events, whoever makes them, over any test live. An event takes its
-- piece out of the frontier once. The frontier is a list, and a prefix could stand in it twice, since an allowed report is
-- asked for sums alone: then each copy has to be expanded by an event of its own, and the sums stay right with nothing asked
-- of the frontier.
use Rattle.std.specs.Prelude.{◌≡◌, Bool, ℕ, ◌+◌, nat_lt, List, [], ◌∷◌, ◌++◌, length, take, Option, Some, None, if◌then◌else◌}
use Rattle.solid_model.specs.declared.ended.EndKind.{EndKind}
use Rattle.solid_model.specs.declared.ended.EndKind.TheVariants.{Whole, CutNodes, CutSolids}
use Rattle.lemmas.specs.Truth.{same_values}
use Rattle.lemmas.specs.Lists.{Member}
use Rattle.solid_model.specs.Search.{SearchLimits}
use Rattle.solid_model.specs.Tree.{PrefixTest, IsAllowed}

-- prefixes without the first one that is this
abbrev pub without : List Bool → List (List Bool) → List (List Bool)
without p [] = []
without p (q ∷ qs) = if same_values p q then qs else q ∷ without p qs

-- the state of a search
pub record Core : Type 0 where
  pub frontier : List (List Bool)
  pub found : List (List Bool)
  pub opened : ℕ
  pub end : Option EndKind

-- an event: what is reported of a piece
pub record Event : Type 0 where
  pub piece : List Bool
  pub opened : ℕ
  pub found : List (List Bool)
  pub rest : List (List Bool)

-- the start: the empty prefix is to be expanded, if it is live
abbrev pub core_start : PrefixTest → Core
core_start live = if live [] then record { frontier = [] ∷ []; found = []; opened = 0; end = None }
    else record { frontier = []; found = []; opened = 0; end = Some Whole }

-- a report is an event of a state that has no end, where it is allowed and its piece is still to be expanded
pub record IsEvent (live : PrefixTest) (n : ℕ) (c : Core) (e : Event) : Type 0 where
  pub going : c.end ≡ None
  pub in_frontier : Member c.frontier e.piece
  pub allowed : IsAllowed live n e.piece e.opened e.found e.rest

-- the search is whole where nothing is left to be expanded
abbrev pub end_at : List (List Bool) → Option EndKind
end_at [] = Some Whole
end_at (p ∷ ps) = None

-- How it stands after an event, where so many choices were found, whether there is room for them or not: the limit of solids is
-- passed; or else that of nodes; or else nothing is left to be expanded.
abbrev pub end_after : SearchLimits → ℕ → ℕ → List (List Bool) → Option EndKind
end_after limits found opened frontier = if nat_lt limits.solids found then Some CutSolids
    else (if nat_lt limits.nodes opened then Some CutNodes else end_at frontier)

-- the state after an event: its piece is taken out of the frontier once, its rest is added at the end, its choices are found as
-- far as the limit of solids has room
abbrev pub after_event : SearchLimits → Core → Event → Core
after_event limits c e = record {
  frontier = without e.piece c.frontier ++ e.rest;
  found = take limits.solids (c.found ++ e.found);
  opened = c.opened + e.opened;
  end = end_after limits (length c.found + length e.found) (c.opened + e.opened) (without e.piece c.frontier ++ e.rest);
}

-- the state after events, one after another
abbrev pub after_events : SearchLimits → Core → List Event → Core
after_events limits c [] = c
after_events limits c (e ∷ es) = after_events limits (after_event limits c e) es

-- each is an event of the state in which it comes
abbrev pub IsCoreRun : PrefixTest → ℕ → SearchLimits → Core → List Event → Type 0
IsCoreRun live n limits c [] = Unit {0}
IsCoreRun live n limits c (e ∷ es) = IsEvent live n c e × IsCoreRun live n limits (after_event limits c e) es
