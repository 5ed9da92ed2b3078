-- What a search conserves: no live prefix and no choice is lost, and none counts twice.
use Rattle.std.specs.Prelude.{◌≡◌, ◌≢◌, ◌≤◌, ◌<◌, ◌+◌, Bool, ℕ, List, [], ◌++◌, length, map, sum, Option, Some, None, IsPermutation, IsTrue}
use Rattle.std.specs.List.{flat_map}
use Rattle.solid_model.specs.declared.ended.EndKind.{EndKind}
use Rattle.solid_model.specs.declared.ended.EndKind.TheVariants.{Whole, CutNodes, CutSolids}
use Rattle.lemmas.specs.Lists.{Member, Each, Ascends}
use Rattle.solid_model.specs.Search.{SearchLimits}
use Rattle.solid_model.specs.Tree.{PrefixTest, live_count, live_below}
use Rattle.search_core.specs.Core.{Core}

-- all live prefixes are those that were opened and those that begin with one of the frontier; all choices are those that were
-- found and those below the frontier
pub record IsWholeTree (live : PrefixTest) (n : ℕ) (c : Core) : Type 0 where
  pub counted : live_count live n [] ≡ c.opened + sum (map (live_count live n) c.frontier)
  pub shared : IsPermutation (live_below live n []) (c.found ++ flat_map (live_below live n) c.frontier)

-- What holds at an end, or before it. Before it, at a cut at nodes and at a whole search the tree is kept; a whole search has
-- found all and opened all; at a cut its limit is passed.
abbrev pub EndsRightly : PrefixTest → ℕ → SearchLimits → Core → Option EndKind → Type 0
EndsRightly live n limits c None = IsWholeTree live n c × (c.opened ≤ limits.nodes)
EndsRightly live n limits c (Some Whole) = IsWholeTree live n c × (c.opened ≡ live_count live n [])
    × IsPermutation (live_below live n []) c.found × (c.opened ≤ limits.nodes)
EndsRightly live n limits c (Some CutNodes) = IsWholeTree live n c × (limits.nodes < c.opened)
EndsRightly live n limits c (Some CutSolids) = (length c.found ≡ limits.solids) × (limits.solids < length (live_below live n []))

-- something is left to be expanded where the search goes on, and nothing where it is whole
abbrev pub LeavesRightly : List (List Bool) → Option EndKind → Type 0
LeavesRightly frontier None = frontier ≢ []
LeavesRightly frontier (Some Whole) = frontier ≡ []
LeavesRightly frontier (Some CutNodes) = Unit {0}
LeavesRightly frontier (Some CutSolids) = Unit {0}

-- what every state keeps: how it ends; what is left, and that each of it is live; what is found has no repeat, is live and of full
-- length, and is within the limit; no more prefixes are opened than are live
pub record IsConserved (live : PrefixTest) (n : ℕ) (limits : SearchLimits) (c : Core) : Type 0 where
  pub ends : EndsRightly live n limits c c.end
  pub left : LeavesRightly c.frontier c.end
  pub frontier : Each (λ prefix. IsTrue (live prefix)) c.frontier
  pub once : Ascends ◌≢◌ c.found
  pub listed : Each (Member (live_below live n [])) c.found
  pub few : length c.found ≤ limits.solids
  pub opened : c.opened ≤ live_count live n []
