-- The numbers of a grid cell, and its place in a list of all cells, are small.
use Rattle.std.proofs.Common.{◌≡◌, ℕ, ◌+◌, ◌*◌, ◌≤◌, sym, subst, arith}
use Rattle.std.proofs.Math.Nat.{mul-le-mul}
use Rattle.solid_model.specs.declared.cell.Axis.{Axis}
use Rattle.solid_model.specs.declared.cell.Axis.TheVariants.{X, Y, Z}
use Rattle.solid_model.specs.Grid.{GridCell}
use Rattle.solid_model.specs.PerAxis.{by_axis, numbered}

-- with a small number along an axis in place of another, all are small
few_numbered : (most : ℕ) (a : Axis) (k : ℕ) (n : GridCell) → k ≤ most → ((b : Axis) → n b ≤ most) → (b : Axis) → numbered a k n b ≤ most
few_numbered most X k n l few X = l
few_numbered most X k n l few Y = few Y
few_numbered most X k n l few Z = few Z
few_numbered most Y k n l few X = few X
few_numbered most Y k n l few Y = l
few_numbered most Y k n l few Z = few Z
few_numbered most Z k n l few X = few X
few_numbered most Z k n l few Y = few Y
few_numbered most Z k n l few Z = l

pub few_more : (most : ℕ) (a : Axis) (k : ℕ) (n m : GridCell) → m ≡ numbered a k n → k ≤ most → ((b : Axis) → n b ≤ most) → (b : Axis) → m b ≤ most
few_more most a k n m e l few b = subst (λ (x : GridCell). x b ≤ most) (sym e) (few_numbered most a k n l few b)

pub few_first : (most : ℕ) (b : Axis) → by_axis 0 0 0 b ≤ most
few_first most X = omega arith
few_first most Y = omega arith
few_first most Z = omega arith

-- so its layers and rows are few
pub layers_few : (z height : ℕ) → z ≤ 64 → height ≤ 64 → z * height ≤ 4096
layers_few z height l m = mul-le-mul {n₂ = 64} {m₂ = 64} l m

pub rows_few : (z height y width : ℕ) → z ≤ 64 → height ≤ 64 → y ≤ 64 → width ≤ 64 → (z * height + y) * width ≤ 266240
rows_few z height y width k l m n = let rows = layers_few z height k l in mul-le-mul {n₂ = 4160} {m₂ = 64} (omega arith) n
