-- 0 is a grid coordinate of each axis of a drawing, since each view that is shown begins there; so each axis has at least one.
use Rattle.std.proofs.Common.{◌≡◌, ◌≢◌, ◌⊎◌, inl, inr, ⊎_elim, Bool, true, false, ◌<◌, List, [], ◌∷◌, length, ℤ, pos, ◌-ℤ◌, refl, sym, ap, subst, ◌∙◌, arith}
use Rattle.std.proofs.lemmas.Int.{ints}
use Rattle.solid_model.specs.declared.cell.Axis.{Axis}
use Rattle.solid_model.specs.declared.frame.View.{View}
use Rattle.solid_model.specs.declared.segment.Segment.{Segment}
use Rattle.solid_model.specs.declared.segment.Style.{Style}
use Rattle.solid_model.specs.declared.segment.Style.TheVariants.{Blank}
use Rattle.solid_model.specs.Grid.{IsDrawnAcross, ChangesAt, IsGridCoordinate, AreGridCoordinates}
use Rattle.solid_model.specs.Moved.{Shows}
use Rattle.solid_model.specs.Runs.{IsDrawing}
use Rattle.solid_model.specs.Segments.{segment_at}
use Rattle.solid_model.proofs.InGrid.{blank_or_drawn}
use Rattle.solid_model.proofs.SomeGrid.{drawn_near}

module _ (drawing : Segment → Style) (is : IsDrawing drawing) where
  -- nothing is drawn just before 0
  none_before : (v : View) (upright : Bool) (line : ℤ) → drawing (segment_at v upright (pos 0 -ℤ pos 1) line) ≡ Blank
  none_before v upright line = ⊎_elim (λ blank. blank)
      (λ drawn. let near = drawn_near drawing is v upright (pos 0 -ℤ pos 1) line drawn in absurd (omega (arith, ints, near.from)))
      (blank_or_drawn (drawing (segment_at v upright (pos 0 -ℤ pos 1) line)))

  -- what a view shows at 0 it shows on the line there or along a line from there on, since nothing stands before 0
  shows_zero : (v : View) (upright : Bool) → Shows drawing v → IsDrawnAcross drawing v upright (pos 0) ⊎ ChangesAt drawing v upright (pos 0)
  shows_zero v false shows = let h = (is.begins v shows).at_left in at h.0 h.1 h.2 h.3 h.0.upright refl
    where
      at : (g : Segment) → g.view ≡ v → drawing g ≢ Blank → g.right ≡ pos 0 → (u : Bool) → g.upright ≡ u
          → IsDrawnAcross drawing v false (pos 0) ⊎ ChangesAt drawing v false (pos 0)
      at g of drawn begins true kind =
          let same : g ≡ segment_at v true g.up (pos 0) = λ i. record { view = of i; upright = kind i; right = begins i; up = g.up } in
          inl (g.up, subst (λ s. drawing s ≢ Blank) same drawn)
      at g of drawn begins false kind =
          let same : g ≡ segment_at v false (pos 0) g.up = λ i. record { view = of i; upright = kind i; right = begins i; up = g.up } in
          inr (g.up, λ steady. drawn (ap drawing same ∙ sym steady ∙ none_before v false g.up))
  shows_zero v true shows = let h = (is.begins v shows).at_bottom in at h.0 h.1 h.2 h.3 h.0.upright refl
    where
      at : (g : Segment) → g.view ≡ v → drawing g ≢ Blank → g.up ≡ pos 0 → (u : Bool) → g.upright ≡ u
          → IsDrawnAcross drawing v true (pos 0) ⊎ ChangesAt drawing v true (pos 0)
      at g of drawn begins false kind =
          let same : g ≡ segment_at v false g.right (pos 0) = λ i. record { view = of i; upright = kind i; right = g.right; up = begins i } in
          inl (g.right, subst (λ s. drawing s ≢ Blank) same drawn)
      at g of drawn begins true kind =
          let same : g ≡ segment_at v true (pos 0) g.right = λ i. record { view = of i; upright = kind i; right = g.right; up = begins i } in
          inr (g.right, λ steady. drawn (ap drawing same ∙ sym steady ∙ none_before v true g.right))

  -- 0 is a grid coordinate of each axis
  pub zero_coordinate : (a : Axis) → IsGridCoordinate drawing a (pos 0)
  zero_coordinate a = let at = is.sees a in (at.0, at.1, at.2, shows_zero at.0 at.1 at.3)

  -- so there is at least one
  pub some_coordinate : (a : Axis) (zs : List ℤ) → AreGridCoordinates drawing a zs → 0 < length zs
  some_coordinate a [] are = absurd ((are.exact (pos 0)).1 (zero_coordinate a))
  some_coordinate a (z ∷ zs) are = omega arith
