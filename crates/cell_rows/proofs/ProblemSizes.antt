-- The sizes of a problem's grid are those of its blocks.
use Rattle.std.proofs.Common.{◌≡◌, ◌∙◌, sym}
use Rattle.solid_model.specs.declared.cell.Axis.{Axis}
use Rattle.solid_model.specs.declared.cell.Axis.TheVariants.{X, Y, Z}
use Rattle.solid_model.specs.declared.per_axis.PerAxis.{PerAxis}
use Rattle.solid_model.specs.Blocks.{ProblemParts, IsBlocksOf}
use Rattle.solid_model.specs.GridBox.{grid_sizes}
use Rattle.solid_model.specs.Panels.{GridParts}
use Rattle.solid_model.specs.PerAxis.{numbers_of}

-- numbers are one where they are the same along each axis
one_by_axes : (n m : PerAxis) → ((a : Axis) → numbers_of n a ≡ numbers_of m a) → n ≡ m
one_by_axes n m e = λ i. record { x = e X i; y = e Y i; z = e Z i }

pub sizes_of_blocks : (p : ProblemParts) (g : GridParts) (sizes : PerAxis) → IsBlocksOf p.grid p.blocks → g ≡ p.grid
    → numbers_of sizes ≡ grid_sizes g → sizes ≡ p.blocks.sizes
sizes_of_blocks p g sizes kept same sized =
    one_by_axes sizes p.blocks.sizes (λ a. (λ i. sized i a) ∙ (λ i. grid_sizes (same i) a) ∙ sym (kept.sized a))
