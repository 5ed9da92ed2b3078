-- A small search, to check the words on the core by hand: of two blocks not both may be empty. Six prefixes are live: the empty
-- one, full, full full, full empty, empty, and empty full. Three of them are of full length.
use Rattle.std.specs.Prelude.{false, [], ◌∷◌, Some, None}
use Rattle.solid_model.specs.declared.ended.EndKind.TheVariants.{Whole, CutNodes, CutSolids}
use Rattle.solid_model.specs.Search.{SearchLimits}
use Rattle.solid_model.specs.SmallTree.{nothing_said, both_full, only_first_full, first_empty, only_second_full}
use Rattle.solid_model.specs.Tree.{PrefixTest}
use Rattle.search_core.specs.Core.{Core, Event}

-- ---- events

-- first three are opened: the empty prefix, full, and full full, which is a choice
abbrev pub first_event : Event
first_event = record { piece = nothing_said; opened = 3; found = both_full ∷ []; rest = only_first_full ∷ first_empty ∷ [] }

-- then the later of the two that are left is done: empty, and empty full
abbrev pub second_event : Event
second_event = record { piece = first_empty; opened = 2; found = only_second_full ∷ []; rest = [] }

-- or of it only empty is opened, and empty full is left
abbrev pub short_event : Event
short_event = record { piece = first_empty; opened = 1; found = []; rest = only_second_full ∷ [] }

-- and then the earlier one
abbrev pub third_event : Event
third_event = record { piece = only_first_full; opened = 1; found = only_first_full ∷ []; rest = [] }

-- ---- states, where there is room for all

abbrev pub roomy : SearchLimits
roomy = record { nodes = 6; solids = 3 }

abbrev pub at_start : Core
at_start = record { frontier = nothing_said ∷ []; found = []; opened = 0; end = None }

abbrev pub after_first : Core
after_first = record { frontier = only_first_full ∷ first_empty ∷ []; found = both_full ∷ []; opened = 3; end = None }

abbrev pub after_second : Core
after_second = record { frontier = only_first_full ∷ []; found = both_full ∷ only_second_full ∷ []; opened = 5; end = None }

-- a rest comes behind what was left already
abbrev pub after_short : Core
after_short = record { frontier = only_first_full ∷ only_second_full ∷ []; found = both_full ∷ []; opened = 4; end = None }

abbrev pub after_third : Core
after_third = record { frontier = []; found = both_full ∷ only_second_full ∷ only_first_full ∷ []; opened = 6; end = Some Whole }

-- ---- cuts at the second event

-- the first event keeps within four nodes, the second doesn't
abbrev pub few_nodes : SearchLimits
few_nodes = record { nodes = 4; solids = 3 }

-- the first event finds one solid, the second one more
abbrev pub few_solids : SearchLimits
few_solids = record { nodes = 6; solids = 1 }

-- the second passes both limits; that of solids comes first
abbrev pub few_of_both : SearchLimits
few_of_both = record { nodes = 4; solids = 1 }

-- at a cut at nodes what it found is kept
abbrev pub cut_at_nodes : Core
cut_at_nodes = record { frontier = only_first_full ∷ []; found = both_full ∷ only_second_full ∷ []; opened = 5; end = Some CutNodes }

-- at a cut at solids only what the limit has room for
abbrev pub cut_at_solids : Core
cut_at_solids = record { frontier = only_first_full ∷ []; found = both_full ∷ []; opened = 5; end = Some CutSolids }

-- ---- nothing is live

abbrev pub nothing_live : PrefixTest
nothing_live prefix = false

abbrev pub whole_at_start : Core
whole_at_start = record { frontier = []; found = []; opened = 0; end = Some Whole }
