-- The grid coordinates of a drawing lie from 0 to 2,000,000,000, so a count of them fits in 32 bits.
use Rattle.std.proofs.Common.{◌≤◌, List, [], ◌∷◌, length, ℤ, pos, ◌+ℤ◌, ◌≤ℤ◌, ◌<ℤ◌, arith}
use Rattle.std.proofs.lemmas.Int.{ints}
use Rattle.solid_model.specs.declared.cell.Axis.{Axis}
use Rattle.solid_model.specs.declared.segment.Segment.{Segment}
use Rattle.solid_model.specs.declared.segment.Style.{Style}
use Rattle.solid_model.specs.Grid.{AreGridCoordinates}
use Rattle.solid_model.specs.Limits.{farthest_in_view}
use Rattle.lemmas.specs.Lists.{Each, Ascends}
use Rattle.solid_model.specs.Runs.{IsDrawing}
use Rattle.lemmas.proofs.Lists.{each-from, each-weaker, each-both}
use Rattle.solid_model.proofs.SomeGrid.{coordinate_near}

-- ---- how many ascend between two bounds

-- integers that ascend from a bound to another are no more than those between them
few_between : (low high : ℤ) (zs : List ℤ) → Ascends ◌<ℤ◌ zs → Each (λ z. (low ≤ℤ z) × (z ≤ℤ high)) zs → low ≤ℤ (high +ℤ pos 1)
    → (low +ℤ pos (length zs)) ≤ℤ (high +ℤ pos 1)
few_between low high [] ascends within some = omega (arith, ints)
few_between low high (z ∷ zs) ascends within some =
    let later = each-weaker (λ y. (z <ℤ y) × ((low ≤ℤ y) × (y ≤ℤ high))) (λ y. ((z +ℤ pos 1) ≤ℤ y) × (y ≤ℤ high)) zs
    (λ y h. (omega (arith, ints, h.0), h.1.1)) (each-both (λ y. z <ℤ y) (λ y. (low ≤ℤ y) × (y ≤ℤ high)) zs ascends.0 within.1) in
    let rest = few_between (z +ℤ pos 1) high zs ascends.1 later (omega (arith, ints, within.0)) in
    omega (arith, ints, within.0, rest)

module _ (drawing : Segment → Style) (is : IsDrawing drawing) where
  -- they lie between two bounds, so a count of them fits
  pub count_near : (a : Axis) (zs : List ℤ) → AreGridCoordinates drawing a zs → length zs ≤ 2000000001
  count_near a zs are =
      let few = few_between (pos 0) farthest_in_view zs are.ordered
      (each-from (λ z. (pos 0 ≤ℤ z) × (z ≤ℤ farthest_in_view)) zs (λ z k. coordinate_near drawing is a z ((are.exact z).0 k))) (omega (arith, ints)) in
      omega (arith, ints, few)
