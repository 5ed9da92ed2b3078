-- How many blocks are undecided.
use Rattle.std.specs.Prelude.{Bool, ℕ, zero, suc, ◌+◌, Option, Some, None}

abbrev pub one_if_none : Option Bool → ℕ
one_if_none None = 1
one_if_none (Some full) = 0

-- how many of the first blocks are undecided
abbrev pub undecided : (ℕ → Option Bool) → ℕ → ℕ
undecided known zero = 0
undecided known (suc n) = one_if_none (known n) + undecided known n
