-- Drawings moved to least coordinates 0.
use Rattle.std.proofs.Common.{◌≡◌, ◌≢◌, ℤ, pos, ◌+ℤ◌, ◌-ℤ◌, ◌≤ℤ◌, ap, sym, ◌∙◌, arith}
use Rattle.std.proofs.lemmas.Int.{ints}
use Rattle.solid_model.specs.declared.frame.View.{View}
use Rattle.solid_model.specs.declared.segment.Segment.{Segment}
use Rattle.solid_model.specs.declared.segment.Style.{Style}
use Rattle.solid_model.specs.declared.segment.Style.TheVariants.{Blank}
use Rattle.solid_model.specs.Moved.{StandsFrom, BeginsAt, moved, IsMovedToZero}
use Rattle.solid_model.specs.Segments.{farther}

-- a drawing, moved by where a view of it begins, is moved to least coordinates 0 there
pub moved_to_zero : (right up : View → ℤ) (drawing : Segment → Style) (v : View) → BeginsAt drawing v (right v) (up v)
    → IsMovedToZero drawing (moved right up drawing) v
moved_to_zero right up drawing v begins = (right v, up v, begins, λ g of t. drawing (farther (right (of t)) (up (of t)) g))

-- a drawing that begins at 0 needs no moving
pub moved_already : (drawing : Segment → Style) (v : View) → BeginsAt drawing v (pos 0) (pos 0) → IsMovedToZero drawing drawing v
moved_already drawing v begins = (pos 0, pos 0, begins, λ g of. ap drawing (sym (farther_none g)))
  where
    farther_none : (g : Segment) → farther (pos 0) (pos 0) g ≡ g
    farther_none g = let p : g.right +ℤ pos 0 ≡ g.right = omega (arith, ints) in let q : g.up +ℤ pos 0 ≡ g.up = omega (arith, ints) in
        λ t. record g { right = p t; up = q t }

-- the segment that stands so much nearer to the left and the bottom
abbrev nearer : ℤ → ℤ → Segment → Segment
nearer right up g = record g { right = g.right -ℤ right; up = g.up -ℤ up }

farther-nearer : (right up : ℤ) (g : Segment) → farther right up (nearer right up g) ≡ g
farther-nearer right up g =
    let p : (g.right -ℤ right) +ℤ right ≡ g.right = omega (arith, ints) in
    let q : (g.up -ℤ up) +ℤ up ≡ g.up = omega (arith, ints) in
    λ t. record g { right = p t; up = q t }

-- what stands from somewhere on, moved from there, stands from 0 on
pub moved_stands : (right up : ℤ) (drawing at_zero : Segment → Style) (v : View) → StandsFrom drawing v right up
    → ((g : Segment) → g.view ≡ v → at_zero g ≡ drawing (farther right up g)) → StandsFrom at_zero v (pos 0) (pos 0)
moved_stands right up drawing at_zero v stands same g of drawn =
    let from = stands (farther right up g) of (λ blank. drawn (same g of ∙ blank)) in
    (omega (arith, ints), omega (arith, ints))

-- a moved drawing begins at 0
pub moved_begins : (drawing at_zero : Segment → Style) (v : View) → IsMovedToZero drawing at_zero v → BeginsAt at_zero v (pos 0) (pos 0)
moved_begins drawing at_zero v (right, up, begins, same) = record {
  stands_from = moved_stands right up drawing at_zero v begins.stands_from same;
  at_left =
      let h = begins.at_left in
      (nearer right up h.0, h.1, still_drawn h.0 h.1 h.2, omega (arith, ints, h.3));
  at_bottom =
      let h = begins.at_bottom in
      (nearer right up h.0, h.1, still_drawn h.0 h.1 h.2, omega (arith, ints, h.3));
}
  where
    still_drawn : (g : Segment) → g.view ≡ v → drawing g ≢ Blank → at_zero (nearer right up g) ≢ Blank
    still_drawn g of drawn blank = drawn (sym (same (nearer right up g) of ∙ ap drawing (farther-nearer right up g)) ∙ blank)

-- a view of a drawing begins at one place
one_left : (drawing : Segment → Style) (v : View) (right up right_too up_too : ℤ) → BeginsAt drawing v right up → BeginsAt drawing v right_too up_too → right ≤ℤ right_too
one_left drawing v right up right_too up_too a b = let h = b.at_left in let from = a.stands_from h.0 h.1 h.2 in omega (arith, ints, h.3)

one_bottom : (drawing : Segment → Style) (v : View) (right up right_too up_too : ℤ) → BeginsAt drawing v right up → BeginsAt drawing v right_too up_too → up ≤ℤ up_too
one_bottom drawing v right up right_too up_too a b = let h = b.at_bottom in let from = a.stands_from h.0 h.1 h.2 in omega (arith, ints, h.3)

-- and is moved to 0 in one way
pub one_moved : (drawing at_zero other : Segment → Style) (v : View) → IsMovedToZero drawing at_zero v → IsMovedToZero drawing other v
    → (g : Segment) → g.view ≡ v → at_zero g ≡ other g
one_moved drawing at_zero other v (right, up, begins, same) (right_too, up_too, begins_too, same_too) g of =
    let p = one_left drawing v right up right_too up_too begins begins_too in
    let q = one_left drawing v right_too up_too right up begins_too begins in
    let r = one_bottom drawing v right up right_too up_too begins begins_too in
    let t = one_bottom drawing v right_too up_too right up begins_too begins in
    let same_right : right ≡ right_too = omega (arith, ints) in
    let same_up : up ≡ up_too = omega (arith, ints) in
    same g of ∙ (λ i. drawing (farther (same_right i) (same_up i) g)) ∙ sym (same_too g of)
