-- The next place from the end is put behind the others, with the other sign.
use Rattle.std.proofs.Common.{◌≡◌, ◌+◌, ◌-◌, List, [], ◌∷◌, ◌++◌, length, drop, slice_index_or, w64, to_z, of_z, ℤ, pos, neg_ℤ, ◌-ℤ◌, ◌≤ℤ◌, ap, ap₂, sym, subst, ◌∙◌, arith}
use Rattle.std.proofs.lemmas.Int.{ints, to_z-of_z}
use Rattle.std.proofs.lemmas.List.{drop_more}
use Rattle.lemmas.proofs.ListPlaces.{member-at}
use Rattle.redraw.proofs.DrawnRuns.{AreNear, grid_near}
use Rattle.six_views.specs.Turned.{mirrored_places}
use Rattle.six_views.proofs.seen.mirrored_places.Goals as goal

-- a near number is the same in code
in_code : (z : ℤ) → (pos 0 ≤ℤ z) × (z ≤ℤ pos 2000000000) → to_z w64 (of_z w64 z) ≡ z
in_code z near = to_z-of_z w64 z (let low = near.0 in let high = near.1 in omega (arith, ints))

-- so is one with the other sign
mirrored_in_code : (z : ℤ) → (pos 0 ≤ℤ z) × (z ≤ℤ pos 2000000000) → to_z w64 (of_z w64 (pos 0 -ℤ to_z w64 (of_z w64 z))) ≡ neg_ℤ z
mirrored_in_code z near =
    let low = near.0 in let high = near.1 in
    let negative : pos 0 -ℤ z ≡ neg_ℤ z = omega (arith, ints) in
    ap (λ y. to_z w64 (of_z w64 (pos 0 -ℤ y))) (in_code z near) ∙ ap (λ y. to_z w64 (of_z w64 y)) negative
    ∙ to_z-of_z w64 (neg_ℤ z) (omega (arith, ints))

pub overflow_sub-coordinates-in-loop-done-2 : goal.overflow_sub-coordinates-in-loop-done-2
overflow_sub-coordinates-in-loop-done-2 c =
    let zs = c.coordinates-coordinates.result.now in
    let k = length zs - 1 - c.loop-done.done in
    let near = subst AreNear (sym c.coordinates-coordinates.ensures.same) (grid_near c.args.grid.now c.coordinates-coordinates.ensures.kept c.args.axis)
    (slice_index_or zs k (pos 0)) (member-at zs k (pos 0) (omega arith)) in
    let low = near.0 in let high = near.1 in
    rw (in_code (slice_index_or zs k (pos 0)) near) (omega (arith, ints))

pub loop-done-preserved : goal.loop-done-preserved
loop-done-preserved c =
    let zs = c.coordinates-coordinates.result.now in
    let k = length zs - 1 - c.loop-done.done in
    let z = slice_index_or zs k (pos 0) in
    let near = subst AreNear (sym c.coordinates-coordinates.ensures.same) (grid_near c.args.grid.now c.coordinates-coordinates.ensures.kept c.args.axis)
    z (member-at zs k (pos 0) (omega arith)) in
    let first : length zs - (c.loop-done.done + 1) ≡ k = omega arith in
    let next : k + 1 ≡ length zs - c.loop-done.done = omega arith in
    let dropped : drop (length zs - (c.loop-done.done + 1)) zs ≡ z ∷ drop (length zs - c.loop-done.done) zs =
    ap (λ n. drop n zs) first ∙ drop_more zs k (pos 0) (omega arith) ∙ ap (λ n. z ∷ drop n zs) next in
    c.in_ok-push.ensures.items
    ∙ ap₂ (λ (xs : List ℤ) (y : ℤ). xs ++ y ∷ []) c.loop-done.invariant (mirrored_in_code z near)
    ∙ sym (ap mirrored_places dropped)
