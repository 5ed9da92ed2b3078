-- The order of rectangles.
use Rattle.std.proofs.Common.{◌≡◌, ◌≢◌, ◌⊎◌, inl, inr, Bool, true, ◌&&◌, ◌||◌, nat_eq, nat_lt, ◌<◌, List, Decides, ◌<ℤ◌, int_lt, subst, arith}
use Rattle.std.specs.Ordering.{int_eq}
use Rattle.std.proofs.lemmas.Bool.Decides.{Decides-ltb, Decides-eqb, Decides-int_eq, Decides-and, Decides-or}
use Rattle.std.proofs.lemmas.Int.{ints}
use Rattle.solid_model.specs.declared.cell.Cell.{Cell}
use Rattle.solid_model.specs.Faces.{out_number}
use Rattle.lemmas.specs.Lists.{Ascends}
use Rattle.solid_model.specs.Orders.{is_before, ComesBefore}
use Rattle.solid_model.proofs.CellOrder.{Decides-int_lt, before_one_way}
use Rattle.lemmas.proofs.Lists.{each-at, same_ascending}
use Rattle.lemmas.proofs.WithoutRepeats.{ascends-weaker}
use Rattle.stl_out.specs.declared.rectangle.Rectangle.{Rectangle}
use Rattle.stl_out.specs.Rectangles.{AreRectanglesOf, is_boundary_rectangle, least_corner, is_rectangle_before, RectangleBefore}

-- the order by cases
abbrev pub LiesEarlier : Rectangle → Rectangle → Type 0
LiesEarlier r s = (out_number r.out < out_number s.out) ⊎ ((out_number r.out ≡ out_number s.out)
    × ((r.at <ℤ s.at) ⊎ ((r.at ≡ s.at) × ComesBefore (least_corner r) (least_corner s))))

Decides-before : (r s : Rectangle) → Decides (is_rectangle_before r s) (LiesEarlier r s)
Decides-before r s =
    let corners = is_before (least_corner r) (least_corner s) in
    Decides-or (nat_lt (out_number r.out) (out_number s.out)) (nat_eq (out_number r.out) (out_number s.out) && (int_lt r.at s.at || (int_eq r.at s.at && corners)))
    (Decides-ltb (out_number r.out) (out_number s.out))
    (Decides-and (nat_eq (out_number r.out) (out_number s.out)) (int_lt r.at s.at || (int_eq r.at s.at && corners))
    (Decides-eqb (out_number r.out) (out_number s.out))
    (Decides-or (int_lt r.at s.at) (int_eq r.at s.at && corners) (Decides-int_lt r.at s.at)
    (Decides-and (int_eq r.at s.at) corners (Decides-int_eq r.at s.at) (λ e. e, λ e. e))))

pub before-earlier : (r s : Rectangle) → RectangleBefore r s → LiesEarlier r s
before-earlier r s = (Decides-before r s).0

pub earlier-before : (r s : Rectangle) → LiesEarlier r s → RectangleBefore r s
earlier-before r s = (Decides-before r s).1

-- of two rectangles not each comes before the other
pub one_way : (r s : Rectangle) → RectangleBefore r s → RectangleBefore s r → ⊥
one_way r s h k = by (before-earlier r s h) (before-earlier s r k)
  where
    by : LiesEarlier r s → LiesEarlier s r → ⊥
    by (inl l) (inl m) = omega arith
    by (inl l) (inr m) = let e = m.0 in omega arith
    by (inr l) (inl m) = let e = l.0 in omega arith
    by (inr (e, inl l)) (inr (f, inl m)) = omega (arith, ints)
    by (inr (e, inl l)) (inr (f, inr (g, m))) = omega (arith, ints)
    by (inr (e, inr (g, l))) (inr (f, inl m)) = omega (arith, ints)
    by (inr (e, inr (g, l))) (inr (f, inr (h, m))) = before_one_way (least_corner r) (least_corner s) l m

-- so no rectangle is listed twice
pub rectangles_once : (full : Cell → Bool) (rs : List Rectangle) → AreRectanglesOf full rs → Ascends ◌≢◌ rs
rectangles_once full rs are =
    ascends-weaker RectangleBefore ◌≢◌ rs (λ r s l e. let twice = subst (λ t. RectangleBefore t s) e l in one_way s s twice twice) are.ordered

-- and a solid has one list of them
pub one_list : (full : Cell → Bool) (rs ss : List Rectangle) → AreRectanglesOf full rs → AreRectanglesOf full ss → rs ≡ ss
one_list full rs ss are are_too = same_ascending RectangleBefore one_way rs ss are.ordered are_too.ordered
    (λ r k. are_too.complete r (each-at (λ s. is_boundary_rectangle full s ≡ true) rs r are.each k))
    (λ r k. are.complete r (each-at (λ s. is_boundary_rectangle full s ≡ true) ss r are_too.each k))
