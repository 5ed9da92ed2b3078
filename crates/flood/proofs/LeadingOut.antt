-- What leads out of a box rests on the box's own walls, and so does what chains join within it.
use Rattle.std.proofs.Common.{◌≡◌, ◌↔◌, inl, inr, Bool, true, false, ◌||◌, ℕ, zero, suc, IsTrue, refl, sym, ◌∙◌, ap, subst}
use Rattle.std.proofs.lemmas.Bool.{or_left, or_right, true_from_ne_false}
use Rattle.solid_model.specs.declared.cell.Axis.{Axis}
use Rattle.solid_model.specs.declared.cell.Cell.{Cell}
use Rattle.solid_model.specs.Cells.{cell_before}
use Rattle.lemmas.specs.Chains.{Chain, Reaches}
use Rattle.solid_model.specs.WalledBoxes.{Sizes, is_within, Walls, Passes, LeadsOut}
use Rattle.lemmas.proofs.Chains.{reaches-itself, reaches-step, reaches-step_then, reaches-map, reaches-map_within}
use Rattle.solid_model.proofs.Passages.{passes-past_fewer}
use Rattle.flood.specs.Ring.{OwnWalls}

-- a cell outside leads out at once
pub outside-leads_out : (sizes : Sizes) (wall : Walls) (n : Cell) → is_within sizes n ≡ false → LeadsOut sizes wall n
outside-leads_out sizes wall n out = (n, reaches-itself (Passes wall) n, out)

-- so a cell that doesn't lead out is in the box
pub enclosed-within : (sizes : Sizes) (wall : Walls) (n : Cell) → (LeadsOut sizes wall n → ⊥) → IsTrue (is_within sizes n)
enclosed-within sizes wall n none = true_from_ne_false (is_within sizes n) (λ out. none (outside-leads_out sizes wall n out))

-- from a cell that leads out, a step back leads out too
pub step-leads_out : (sizes : Sizes) (wall : Walls) (n m : Cell) → Passes wall n m → LeadsOut sizes wall m → LeadsOut sizes wall n
step-leads_out sizes wall n m step (end, chain, out) = (end, reaches-step_then (Passes wall) n m end step chain, out)

-- where each wall of w that the box has is one of v
module _ (sizes : Sizes) (v w : Walls)
    (fewer : (a : Axis) (n : Cell) → IsTrue (is_within sizes n || is_within sizes (cell_before a n)) → w a n → v a n) where
  -- a step from a cell of the box that passes v passes w
  passes-from_within : (n m : Cell) → IsTrue (is_within sizes n) → Passes v n m → Passes w n m
  passes-from_within n m within (a, inl (e, no_wall)) =
      (a, inl (e, λ h. no_wall (fewer a n (or_left (is_within sizes n) (is_within sizes (cell_before a n)) within) h)))
  passes-from_within n m within (a, inr (e, no_wall)) =
      let before = sym (ap (is_within sizes) e) ∙ within in
      (a, inr (e, λ h. no_wall (fewer a m (or_right (is_within sizes m) (is_within sizes (cell_before a m)) before) h)))

  -- a chain that passes v to a cell that leads out past w, from its end on
  from_end : (k : ℕ) (n m : Cell) → Chain (Passes v) k n m → LeadsOut sizes w m → LeadsOut sizes w n
  from_end zero n m same leads = subst (LeadsOut sizes w) (sym same) leads
  from_end (suc k) n m (c, chain, step) leads = from_end k n c chain (by (is_within sizes c) refl)
    where
      by : (t : Bool) → is_within sizes c ≡ t → LeadsOut sizes w c
      by true within = step-leads_out sizes w c m (passes-from_within c m within step) leads
      by false out = outside-leads_out sizes w c out

  -- what leads out past v leads out past w
  pub leads_out-past_fewer : (n : Cell) → LeadsOut sizes v n → LeadsOut sizes w n
  leads_out-past_fewer n (m, (k, chain), out) = from_end k n m chain (outside-leads_out sizes w m out)

module _ (sizes : Sizes) (wall : Walls) where
  -- what leads out is what leads out past the box's own walls
  pub leads_out_iff_own : (n : Cell) → LeadsOut sizes wall n ↔ LeadsOut sizes (OwnWalls sizes wall) n
  leads_out_iff_own n = (
    leads_out-past_fewer sizes wall (OwnWalls sizes wall) (λ a m beside h. h.1) n,
    leads_out-past_fewer sizes (OwnWalls sizes wall) wall (λ a m beside h. (beside, h)) n,
  )

  -- a chain passes where there are fewer walls
  pub passages-own : (n m : Cell) → Reaches (Passes wall) n m → Reaches (Passes (OwnWalls sizes wall)) n m
  passages-own = reaches-map (Passes wall) (Passes (OwnWalls sizes wall)) (λ n. n)
      (λ n m step. reaches-step (Passes (OwnWalls sizes wall)) n m
      (passes-past_fewer wall (OwnWalls sizes wall) (λ a o own. own.1) n m step))

  -- a chain past the box's own walls from a cell that doesn't lead out stays in the box, where it meets no others
  pub own-passages : (n m : Cell) → (LeadsOut sizes wall n → ⊥) → Reaches (Passes (OwnWalls sizes wall)) n m → Reaches (Passes wall) n m
  own-passages = reaches-map_within (Passes (OwnWalls sizes wall)) (Passes wall) (λ n. n) (λ n. LeadsOut sizes wall n → ⊥)
      (λ n m none step leads. none ((leads_out_iff_own n).1 (step-leads_out sizes (OwnWalls sizes wall) n m step ((leads_out_iff_own m).0 leads))))
      (λ n m none step. reaches-step (Passes wall) n m
      (passes-from_within sizes (OwnWalls sizes wall) wall (λ a c beside h. (beside, h)) n m (enclosed-within sizes wall n none) step))

  -- so chains from such a cell are chains past the box's own walls
  pub passages_iff_own : (n m : Cell) → (LeadsOut sizes wall n → ⊥) → Reaches (Passes wall) n m ↔ Reaches (Passes (OwnWalls sizes wall)) n m
  passages_iff_own n m none = (passages-own n m, own-passages n m none)
