-- Ways out of a box along a line: down or up an axis, past cells of a kind before which no wall stands.
use Rattle.std.proofs.Common.{inl, inr, ℕ, zero, suc, ℤ, pos, negsuc, ◌+ℤ◌, ◌-ℤ◌, ◌≤ℤ◌, ◌<ℤ◌, refl, sym, arith}
use Rattle.std.proofs.lemmas.Bool.{false_from_ne_true}
use Rattle.std.proofs.lemmas.Int.{ints}
use Rattle.solid_model.specs.declared.cell.Axis.{Axis}
use Rattle.solid_model.specs.declared.cell.Cell.{Cell}
use Rattle.solid_model.specs.Cells.{coordinate, cell_before, cell_after}
use Rattle.solid_model.specs.WalledBoxes.{Sizes, Walls, Passes, LeadsOut}
use Rattle.solid_model.proofs.BoxCells.{below-bounds, within-below}
use Rattle.lemmas.proofs.Chains.{reaches-itself, reaches-step_then}
use Rattle.solid_model.proofs.InGrid.{before_after, placed_at}

-- some number is greater
pub some_greater : (z : ℤ) → (k : ℕ) × (z <ℤ pos k)
some_greater (pos k) = (suc k, omega (arith, ints))
some_greater (negsuc k) = (0, omega (arith, ints))

module _ (sizes : Sizes) (wall : Walls) (b : Axis) (P : Cell → Type 0) where
  pub out_down : ((n : Cell) → P n → wall b n → ⊥) → ((n : Cell) → P n → P (cell_before b n))
      → (k : ℕ) (n : Cell) → coordinate b n <ℤ pos k → P n → LeadsOut sizes wall n
  out_down none kept zero n l h = (
    n,
    reaches-itself (Passes wall) n,
    false_from_ne_true _ (λ within.
        let r = below-bounds (sizes b) (coordinate b n) (within-below sizes n within b) in omega (arith, ints, r.0)),
  )
  out_down none kept (suc k) n l h =
      let at = placed_at b (coordinate b n -ℤ pos 1) n in
      let rest = out_down none kept k (cell_before b n) (omega (arith, ints, at)) (kept n h) in
      (rest.0, reaches-step_then (Passes wall) n (cell_before b n) rest.0 (b, inl (refl, none n h)) rest.1, rest.2)

  pub out_up : ((n : Cell) → P n → wall b (cell_after b n) → ⊥) → ((n : Cell) → P n → P (cell_after b n))
      → (k : ℕ) (n : Cell) → pos (sizes b) ≤ℤ (coordinate b n +ℤ pos k) → P n → LeadsOut sizes wall n
  out_up none kept zero n l h = (
    n,
    reaches-itself (Passes wall) n,
    false_from_ne_true _ (λ within.
        let r = below-bounds (sizes b) (coordinate b n) (within-below sizes n within b) in omega (arith, ints, r.1)),
  )
  out_up none kept (suc k) n l h =
      let at = placed_at b (coordinate b n +ℤ pos 1) n in
      let rest = out_up none kept k (cell_after b n) (omega (arith, ints, at)) (kept n h) in
      (rest.0, reaches-step_then (Passes wall) n (cell_after b n) rest.0 (b, inr (sym (before_after b n), none n h)) rest.1, rest.2)
