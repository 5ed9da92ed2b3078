-- Before the first plane there are no cells.
use Rattle.std.proofs.Common.{◌≡◌, ℕ, pos, ◌-ℤ◌, sym, subst, arith}
use Rattle.cell_rows.specs.Layers.{AreLayer}
use Rattle.cell_rows.proofs.LayerCells.{no_layer_before}
use Rattle.cell_rows.proofs.rows.CellRows.layer_before.Goals as goal

pub returns-in-None : goal.returns-in-None
returns-in-None c =
    let first : 0 ≡ c.args.at = omega (arith, c.in-None.ensures) in
    subst (λ (n : ℕ). AreLayer c.args.self.now c.args.out (pos n -ℤ pos 1) c.of.result) first
    (subst (AreLayer c.args.self.now c.args.out (pos 0 -ℤ pos 1)) (sym c.of.ensures)
    (no_layer_before c.args.self.now c.args.out c.rows.result.now))
