-- How much of a log is to come at most: why its writing ends.
use Rattle.std.specs.Prelude.{ℕ, zero, suc, ◌+◌, List, [], ◌∷◌}
use Rattle.solid_model.specs.Blocks.{ProblemParts}
use Rattle.column_laws.specs.Undecided.{undecided}
use Rattle.completeness_logs.specs.Logs.{KnownBlocks}

-- a power of three
abbrev pub triple : ℕ → ℕ
triple zero = 1
triple (suc n) = triple n + triple n + triple n

-- each state counts three to the number of its undecided blocks: so much as two with one block less, and one more
abbrev pub weight : ProblemParts → List KnownBlocks → ℕ
weight p [] = 0
weight p (known ∷ others) = triple (undecided known p.blocks.count) + weight p others
