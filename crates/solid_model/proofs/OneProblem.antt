-- Problems of one grid are the same: a grid has one numbering of its blocks.
use Rattle.std.proofs.Common.{◌≡◌, sym, ◌∙◌, ap, subst}
use Rattle.solid_model.specs.declared.cell.Axis.{Axis}
use Rattle.solid_model.specs.declared.cell.Axis.TheVariants.{X, Y, Z}
use Rattle.solid_model.specs.declared.per_axis.PerAxis.{PerAxis}
use Rattle.solid_model.specs.Blocks.{BlockNumbers, IsBlocksOf, ProblemParts}
use Rattle.solid_model.specs.GridBox.{grid_sizes}
use Rattle.solid_model.specs.Panels.{GridParts}
use Rattle.solid_model.specs.PerAxis.{numbers_of}
use Rattle.solid_model.specs.VirtualFaces.{IsVirtual}
use Rattle.solid_model.proofs.OneNumbering.{one_numbering}

-- numbers that are the same along each axis are the same
same_numbers : (n m : PerAxis) → ((a : Axis) → numbers_of n a ≡ numbers_of m a) → n ≡ m
same_numbers n m each =
    ap (λ x. record { x = x; y = n.y; z = n.z }) (each X)
    ∙ ap (λ y. record { x = m.x; y = y; z = n.z }) (each Y)
    ∙ ap (λ z. record { x = m.x; y = m.y; z = z }) (each Z)

-- the blocks of a grid are numbered in one way
same_blocks : (g : GridParts) (b c : BlockNumbers) → IsBlocksOf g b → IsBlocksOf g c → b ≡ c
same_blocks g b c are are_too =
    let one = one_numbering (grid_sizes g) (IsVirtual g) b.numbers c.numbers b.count c.count are.blocks are_too.blocks in
    ap (λ s. record { sizes = s; numbers = b.numbers; count = b.count }) (same_numbers b.sizes c.sizes (λ a. are.sized a ∙ sym (are_too.sized a)))
    ∙ ap (λ n. record { sizes = c.sizes; numbers = n; count = b.count }) one.0
    ∙ ap (λ k. record { sizes = c.sizes; numbers = c.numbers; count = k }) one.1

-- so of two problems with the same grid all is the same
pub same_problems : (p q : ProblemParts) → IsBlocksOf p.grid p.blocks → IsBlocksOf q.grid q.blocks → p.grid ≡ q.grid → p ≡ q
same_problems p q are are_too e =
    ap (λ g. record { grid = g; blocks = p.blocks }) e
    ∙ ap (λ b. record { grid = q.grid; blocks = b }) (same_blocks q.grid p.blocks q.blocks (subst (λ g. IsBlocksOf g p.blocks) e are) are_too)
