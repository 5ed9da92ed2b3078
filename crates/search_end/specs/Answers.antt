-- The answer of a search at which several may have worked: what is listed, and the desk that is handed back.
use Rattle.std.specs.Prelude.{◌≡◌, ◌⊎◌, ◌≤◌, ◌-◌, ◌++◌, take, Bool, List, Some, not, filter, length}
use Rattle.std.specs.List.{list_any}
use Rattle.solid_model.specs.Blocks.{ProblemParts}
use Rattle.lemmas.specs.Lists.{Member, Each}
use Rattle.solid_model.specs.Search.{SearchLimits}
use Rattle.solid_model.specs.SearchEnds.{SearchEnd}
use Rattle.solid_model.specs.Solutions.{AreSolutions}
use Rattle.lemmas.specs.Truth.{same_values}
use Rattle.search_core.specs.Desk.{DeskParts, IsDesk}

-- The desk of an answer: it is of this problem and within these limits, stands as its history leaves it, and its end and the
-- number that it opened are the answer's. Each choice that it found is listed, or as many are listed as the limit of solids.
pub record IsAnswer (p : ProblemParts) (limits : SearchLimits) (e : SearchEnd) (d : DeskParts) : Type 0 where
  pub problem : d.problem ≡ p
  pub within : d.limits ≡ limits
  pub kept : IsDesk d
  pub end : d.end ≡ Some e.kind
  pub opened : d.opened ≡ e.opened
  pub listed : Each (Member e.solids) d.found ⊎ (length e.solids ≡ limits.solids)

-- the choice is none of those that were handed out
abbrev pub is_new : List (List Bool) → List Bool → Bool
is_new handed choice = not (list_any (same_values choice) handed)

-- those that were found and not handed out
abbrev pub new_ones : List (List Bool) → List (List Bool) → List (List Bool)
new_ones handed found = filter (is_new handed) found

-- a list that begins with solutions that were handed out, as many as the limit of solids has room for, and goes on with those
-- that were found besides, as far as there is room
pub record IsAnswerList (p : ProblemParts) (limits : SearchLimits) (found list : List (List Bool)) : Type 0 where
  pub handed : List (List Bool)
  pub solutions : AreSolutions p handed
  pub few : length handed ≤ limits.solids
  pub is : list ≡ handed ++ take (limits.solids - length handed) (new_ones handed found)
