-- How a search ends, and within which limits.
use Rattle.std.specs.Prelude.{◌≡◌, Bool, ℕ, ◌<◌, ◌≤◌, List, [], length}
use Rattle.solid_model.specs.declared.ended.EndKind.{EndKind}
use Rattle.solid_model.specs.declared.ended.EndKind.TheVariants.{Whole, CutNodes, CutSolids}
use Rattle.solid_model.specs.Choices.{ChoicePrecedes}
use Rattle.solid_model.specs.Limits.{most_node_limit, most_solid_limit}
use Rattle.lemmas.specs.Lists.{Member, Each, Ascends}
use Rattle.solid_model.specs.Tree.{PrefixTest, live_count, live_below}
use Rattle.solid_model.specs.Search.{SearchLimits}

-- limits that may be asked for
pub record AreLimits (limits : SearchLimits) : Type 0 where
  pub some_nodes : 1 ≤ limits.nodes
  pub few_nodes : limits.nodes ≤ most_node_limit
  pub some_solids : 1 ≤ limits.solids
  pub few_solids : limits.solids ≤ most_solid_limit

-- the end of a search: its kind, how many live prefixes were opened, and the choices that were found
pub record SearchEnd : Type 0 where
  pub kind : EndKind
  pub opened : ℕ
  pub solids : List (List Bool)

-- these choices are some of the live ones of n blocks, each once, in the stated order
pub record AreSomeOf (live : PrefixTest) (n : ℕ) (choices : List (List Bool)) : Type 0 where
  pub listed : Each (Member (live_below live n [])) choices
  pub ordered : Ascends ChoicePrecedes choices

-- Whole: both limits are kept, and the solids are all. Cut at nodes, or at solids: that limit is passed, and the solids are
-- some, at a cut at solids as many as the limit has. No more live prefixes are opened than there are.
abbrev pub EndsAs : PrefixTest → ℕ → SearchLimits → EndKind → ℕ → List (List Bool) → Type 0
EndsAs live n limits Whole opened solids = (live_count live n [] ≤ limits.nodes) × (length (live_below live n []) ≤ limits.solids)
    × (opened ≡ live_count live n []) × (solids ≡ live_below live n [])
EndsAs live n limits CutNodes opened solids = (limits.nodes < opened) × (opened ≤ live_count live n [])
    × AreSomeOf live n solids × (length solids ≤ limits.solids)
EndsAs live n limits CutSolids opened solids = (limits.solids < length (live_below live n [])) × (opened ≤ live_count live n [])
    × AreSomeOf live n solids × (length solids ≡ limits.solids)

-- the end of a search of all prefixes of n blocks within limits
abbrev pub EndsSearch : PrefixTest → ℕ → SearchLimits → SearchEnd → Type 0
EndsSearch live n limits e = EndsAs live n limits e.kind e.opened e.solids
