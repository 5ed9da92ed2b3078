-- Outside a box all is one: none of its own walls stands between two cells out there.
use Rattle.std.proofs.Common.{◌≡◌, ◌⊎◌, inl, inr, false, ◌&&◌, ◌||◌, ℕ, zero, suc, ℤ, pos, negsuc, ◌-ℤ◌, ◌≤ℤ◌, refl, sym, ◌∙◌, ap, subst, arith}
use Rattle.std.proofs.lemmas.Bool.{both_ways, and_cases, and_left, and_right, or_from}
use Rattle.std.proofs.lemmas.Int.{ints, by_lt_z}
use Rattle.solid_model.specs.declared.cell.Axis.{Axis}
use Rattle.solid_model.specs.declared.cell.Axis.TheVariants.{X, Y, Z}
use Rattle.solid_model.specs.declared.cell.Cell.{Cell}
use Rattle.solid_model.specs.Cells.{placed, cell_before}
use Rattle.lemmas.specs.Chains.{Reaches}
use Rattle.solid_model.specs.WalledBoxes.{Sizes, is_below, is_within, Walls, Passes}
use Rattle.lemmas.proofs.Chains.{reaches-then_step, reaches-onward}
use Rattle.solid_model.proofs.InGrid.{before_placed}
use Rattle.lemmas.proofs.Integers.{natural}
use Rattle.solid_model.proofs.Passages.{passages-back}
use Rattle.flood.specs.Ring.{OwnWalls}

-- the ring's first cell
abbrev pub first_corner : Cell
first_corner = record { x = negsuc 0; y = negsuc 0; z = negsuc 0 }

module _ (sizes : Sizes) (wall : Walls) where
  -- a chain that crosses none of the box's walls
  abbrev OwnReaches : Cell → Cell → Type 0
  OwnReaches = Reaches (Passes (OwnWalls sizes wall))

  -- none of the box's walls stands between two cells outside
  pub no_wall_outside : (a : Axis) (n : Cell) → is_within sizes n ≡ false → is_within sizes (cell_before a n) ≡ false → OwnWalls sizes wall a n → ⊥
  no_wall_outside a n out before h =
      let here = is_within sizes n in let back = is_within sizes (cell_before a n) in
      both_ways (here || back) (or_from here back out before) h.0

  module _ (a : Axis) (n : Cell) (out : (z : ℤ) → is_within sizes (placed a z n) ≡ false) where
    -- a row of cells that stands outside is joined, downwards
    down_row : (k : ℕ) (z : ℤ) → OwnReaches (placed a z n) (placed a (z -ℤ pos k) n)
    down_row zero z = let e : z ≡ z -ℤ pos 0 = omega (arith, ints) in (zero, ap (λ w. placed a w n) e)
    down_row (suc k) z =
        let last : ℤ = z -ℤ pos k in
        let e : z -ℤ pos (suc k) ≡ last -ℤ pos 1 = omega (arith, ints) in
        let before = before_placed a last n in
        let open_way = no_wall_outside a (placed a last n) (out last) (ap (is_within sizes) before ∙ out (last -ℤ pos 1)) in
        reaches-then_step (Passes (OwnWalls sizes wall)) (placed a z n) (placed a last n) (placed a (z -ℤ pos (suc k)) n) (down_row k z)
        (a, inl (ap (λ w. placed a w n) e ∙ sym before, open_way))

    -- so far down as need be
    downwards : (from to : ℤ) → to ≤ℤ from → OwnReaches (placed a from n) (placed a to n)
    downwards from to l =
        let far = natural (from -ℤ to) (omega (arith, ints)) in
        let e : from -ℤ pos far.0 ≡ to = omega (arith, ints, far.1) in
        subst (λ w. OwnReaches (placed a from n) (placed a w n)) e (down_row far.0 from)

    -- and either way
    along_row : (from to : ℤ) → OwnReaches (placed a from n) (placed a to n)
    along_row from to = by_lt_z from to
        (λ l. passages-back (OwnWalls sizes wall) (placed a to n) (placed a from n) (downwards to from (omega (arith, ints))))
        (λ l. downwards from to l)

  -- a cell outside is joined with the ring's first one
  pub outside-first_corner : (n : Cell) → is_within sizes n ≡ false → Reaches (Passes (OwnWalls sizes wall)) n first_corner
  outside-first_corner n out = by (and_cases (is_below (sizes X) n.x) (is_below (sizes Y) n.y && is_below (sizes Z) n.z) out)
    where
      onward : (a b c : Cell) → OwnReaches a b → OwnReaches b c → OwnReaches a c
      onward = reaches-onward (Passes (OwnWalls sizes wall))

      -- from a cell before the box along x
      from_before : (m : Cell) → m.x ≡ negsuc 0 → OwnReaches m first_corner
      from_before m before =
          let start : m ≡ placed X (negsuc 0) m = λ t. placed X (before t) m in
          let level : Cell = record { x = negsuc 0; y = negsuc 0; z = m.z } in
          subst (λ c. OwnReaches c first_corner) (sym start)
          (onward (placed X (negsuc 0) m) level first_corner
          (along_row Y (placed X (negsuc 0) m) (λ z. refl) m.y (negsuc 0)) (along_row Z level (λ z. refl) m.z (negsuc 0)))

      by : (is_below (sizes X) n.x ≡ false) ⊎ ((is_below (sizes Y) n.y && is_below (sizes Z) n.z) ≡ false) → OwnReaches n first_corner
      by (inl x_out) =
          let level : Cell = placed Y (negsuc 0) n in
          let out_still = λ (z : ℤ). and_left (is_below (sizes X) n.x) (is_below (sizes Y) z && is_below (sizes Z) n.z) x_out in
          let start : OwnReaches n level = along_row Y n out_still n.y (negsuc 0) in
          let aside = along_row X level (λ z. and_right (is_below (sizes X) z) false refl) n.x (negsuc 0) in
          onward n level first_corner start
          (onward level (placed X (negsuc 0) level) first_corner aside (from_before (placed X (negsuc 0) level) refl))
      by (inr rest) =
          let aside = along_row X n (λ z. and_right (is_below (sizes X) z) (is_below (sizes Y) n.y && is_below (sizes Z) n.z) rest) n.x (negsuc 0) in
          onward n (placed X (negsuc 0) n) first_corner aside (from_before (placed X (negsuc 0) n) refl)

  -- all cells outside are joined
  pub outside-joined : (n m : Cell) → is_within sizes n ≡ false → is_within sizes m ≡ false → Reaches (Passes (OwnWalls sizes wall)) n m
  outside-joined n m n_out m_out = reaches-onward (Passes (OwnWalls sizes wall)) n first_corner m
      (outside-first_corner n n_out) (passages-back (OwnWalls sizes wall) m first_corner (outside-first_corner m m_out))
