-- The end of a search that may have been stopped before.
use Rattle.std.specs.Prelude.{◌≡◌, ◌⊎◌, ◌≤◌, ◌-◌, ◌++◌, Bool, List, None, length, take, IsPermutation}
use Rattle.solid_model.specs.Blocks.{ProblemParts}
use Rattle.solid_model.specs.Choices.{ChoicePrecedes}
use Rattle.solid_model.specs.Forcing.{is_live}
use Rattle.lemmas.specs.Lists.{Member, Each, Ascends}
use Rattle.solid_model.specs.Search.{SearchLimits}
use Rattle.solid_model.specs.SearchEnds.{EndsSearch}
use Rattle.solid_model.specs.Solutions.{AreSolutions}
use Rattle.search_core.specs.Desk.{DeskParts, IsDesk}
use Rattle.search_end.specs.declared.ending.SearchEnd.{SearchEnd}
use Rattle.search_end.specs.declared.ending.SearchEnd.TheVariants.{Ended, Stopped}
use Rattle.search_end.specs.Answers.{IsAnswer, new_ones}

-- A search that was stopped: its desk is of this problem and within these limits, stands as its history leaves it, and has no
-- end. Different solutions are listed, in the stated order: each choice that the desk found, or as many as the limit of solids.
pub record IsStopped (p : ProblemParts) (limits : SearchLimits) (d : DeskParts) (solids : List (List Bool)) : Type 0 where
  pub problem : d.problem ≡ p
  pub within : d.limits ≡ limits
  pub kept : IsDesk d
  pub going : d.end ≡ None
  pub solutions : AreSolutions p solids
  pub ordered : Ascends ChoicePrecedes solids
  pub few : length solids ≤ limits.solids
  pub listed : Each (Member solids) d.found ⊎ (length solids ≡ limits.solids)

-- the end of a search of this problem within these limits
abbrev pub IsEndOf : ProblemParts → SearchLimits → SearchEnd → Type 0
IsEndOf p limits (Ended ended desk) = EndsSearch (is_live p) p.blocks.count limits ended × IsAnswer p limits ended desk
IsEndOf p limits (Stopped desk solids) = IsStopped p limits desk solids.items

abbrev pub WasStopped : SearchEnd → Type 0
WasStopped (Ended ended desk) = ⊥
WasStopped (Stopped desk solids) = Unit {0}

-- the solids that are listed
abbrev pub end_solids : SearchEnd → List (List Bool)
end_solids (Ended ended desk) = ended.solids
end_solids (Stopped desk solids) = solids.items

-- and what the desk found
abbrev pub end_found : SearchEnd → List (List Bool)
end_found (Ended ended desk) = desk.found
end_found (Stopped desk solids) = desk.found

-- these are listed, and then what the desk found besides, as far as the limit of solids has room, in some order
abbrev pub ListsAll : SearchLimits → List (List Bool) → SearchEnd → Type 0
ListsAll limits handed e = IsPermutation (handed ++ take (limits.solids - length handed) (new_ones handed (end_found e))) (end_solids e)

-- all that the desk found is listed, and nothing else, in some order
abbrev pub ListsFound : SearchEnd → Type 0
ListsFound e = IsPermutation (end_found e) (end_solids e)
