-- A small succession, written out by hand.
use Rattle.std.specs.Prelude.{Bool, true, false, ℕ, zero, suc, List, [], ◌∷◌}

-- Of the nodes 0 to 5 all but 3 are inside,
abbrev pub small_inside : ℕ → Bool
small_inside (suc (suc (suc zero))) = false
small_inside a = true

-- and 0 is followed by 4, 4 by 2 and 2 by 0, 1 by itself, and 5 by itself.
abbrev pub small_next : ℕ → ℕ
small_next zero = 4
small_next (suc (suc zero)) = 0
small_next (suc (suc (suc (suc zero)))) = 2
small_next a = a

-- its rounds
abbrev pub small_rounds : List (List ℕ)
small_rounds = (0 ∷ 4 ∷ 2 ∷ []) ∷ (1 ∷ []) ∷ (5 ∷ []) ∷ []
