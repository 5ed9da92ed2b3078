-- The cubes so far, and where the next one begins.
use Rattle.std.proofs.Common.{◌≡◌, ◌++◌, ◌+◌, ◌*◌, ◌≤◌, ℕ}
use Rattle.drawing_maker.specs.Made.{later_cubes, made_cubes}
use Rattle.drawing_maker.proofs.cubes.made_cubes.Given as goal

abbrev pub invariant-loop-made : goal.invariant-loop-made
invariant-loop-made l = ((more : ℕ) → more + l._made ≡ 13 → l.cubes.items ++ later_cubes more l.generator l.alone l.origin ≡ made_cubes l.n)
    × (l.origin ≤ 46 * (l._made + 1))
