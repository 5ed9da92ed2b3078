-- A small tree, to check the words on trees of prefixes by hand: of two blocks not both may be empty.
use Rattle.std.specs.Prelude.{Bool, true, false, List, [], ◌∷◌}
use Rattle.solid_model.specs.Tree.{PrefixTest}

-- the test that refuses whatever begins with two empty blocks
abbrev pub not_both_empty : PrefixTest
not_both_empty (false ∷ false ∷ _) = false
not_both_empty _ = true

-- the prefixes of two blocks
abbrev pub nothing_said : List Bool
nothing_said = []

abbrev pub first_full : List Bool
first_full = true ∷ []

abbrev pub both_full : List Bool
both_full = true ∷ true ∷ []

abbrev pub only_first_full : List Bool
only_first_full = true ∷ false ∷ []

abbrev pub first_empty : List Bool
first_empty = false ∷ []

abbrev pub only_second_full : List Bool
only_second_full = false ∷ true ∷ []
