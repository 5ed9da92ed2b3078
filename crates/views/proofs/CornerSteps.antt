-- Where a view begins, found from line to line.
use Rattle.std.proofs.Common.{◌≡◌, ◌≢◌, ℕ, ◌+◌, ◌<◌, ◌≤◌, Bool, ◌&&◌, cond, Option, None, Some, IfSome, List, [], ◌∷◌, map, fold, length, get_or, drop, ℤ, ◌-ℤ◌, w64, SFits, to_z, of_z, sym, ap, ap₂, subst, ◌∙◌, arith}
use Rattle.std.specs.Int.{int_min}
use Rattle.std.proofs.lemmas.Int.{ints, to_z-of_z}
use Rattle.std.proofs.lemmas.List.{at_drop_more, at_drop_all}
use Rattle.solid_model.specs.declared.frame.View.{View}
use Rattle.solid_model.specs.Drawings.{same_view, has_length, covering_lines, extreme, least_right, least_up}
use Rattle.solid_model.specs.Line.{Line, IsNear}
use Rattle.solid_model.proofs.Sheets.{near_in_code}
use Rattle.views.specs.declared.corner.Corner.{Corner}
use Rattle.views.specs.Corners.{IsCornerOf, IsCornerOfLine, IsLeastOf}

-- ---- in code

-- the lesser of two near numbers, as the code finds it
pub least_in_code : (a b r : ℤ) → IsNear a → IsNear b → SFits w64 r
    → r ≡ int_min (to_z w64 (of_z w64 a)) (to_z w64 (of_z w64 b)) → to_z w64 (of_z w64 r) ≡ int_min a b
least_in_code a b r near_a near_b fits e =
    to_z-of_z w64 r fits ∙ e ∙ ap₂ int_min (near_in_code a near_a) (near_in_code b near_b)

-- the difference of two near numbers fits
pub less_fits : (a b : ℤ) → IsNear a → IsNear b → SFits w64 (to_z w64 (of_z w64 a) -ℤ to_z w64 (of_z w64 b))
less_fits a b near_a near_b = rw (near_in_code a near_a, near_in_code b near_b) (let h = near_a in let k = near_b in omega (arith, ints))

-- and is the same in code
pub less_in_code : (a b : ℤ) → IsNear a → IsNear b → to_z w64 (of_z w64 (to_z w64 (of_z w64 a) -ℤ to_z w64 (of_z w64 b))) ≡ a -ℤ b
less_in_code a b near_a near_b =
    to_z-of_z w64 (to_z w64 (of_z w64 a) -ℤ to_z w64 (of_z w64 b)) (less_fits a b near_a near_b) ∙ ap₂ ◌-ℤ◌ (near_in_code a near_a) (near_in_code b near_b)

-- ---- from line to line

-- a corner that the further lines bring to that of all lines of the view
pub record Brings (further : List Line) (v : View) (lines : List Line) (c : Corner) : Type 0 where
  shown : covering_lines v lines ≢ []
  right : fold int_min c.right (map (λ l. int_min l.x0 l.x1) further) ≡ least_right v lines
  up : fold int_min c.up (map (λ l. int_min l.y0 l.y1) further) ≡ least_up v lines

-- the corner of the view's first line
pub brings_first : (l : Line) (further : List Line) (v : View) (lines : List Line) (c : Corner) → l ∷ further ≡ covering_lines v lines → IsCornerOfLine l c → Brings further v lines c
brings_first l further v lines c e own = record {
  shown = λ none. cc;
  right = ap (λ z. fold int_min z (map (λ l. int_min l.x0 l.x1) further)) own.right ∙ ap (λ ms. extreme int_min (map (λ l. int_min l.x0 l.x1) ms)) e;
  up = ap (λ z. fold int_min z (map (λ l. int_min l.y0 l.y1) further)) own.up ∙ ap (λ ms. extreme int_min (map (λ l. int_min l.y0 l.y1) ms)) e;
}

-- a further line
pub brings_next : (l : Line) (further : List Line) (v : View) (lines : List Line) (a b c : Corner) → Brings (l ∷ further) v lines a → IsCornerOfLine l b → IsLeastOf a b c → Brings further v lines c
brings_next l further v lines a b c so_far own least = record {
  shown = so_far.shown;
  right = ap (λ z. fold int_min z (map (λ l. int_min l.x0 l.x1) further)) (least.right ∙ ap (int_min a.right) own.right) ∙ so_far.right;
  up = ap (λ z. fold int_min z (map (λ l. int_min l.y0 l.y1) further)) (least.up ∙ ap (int_min a.up) own.up) ∙ so_far.up;
}

-- the view's lines among those left, by whether the next line is one of them
pub lines_left : (v : View) (lines : List Line) (i : ℕ) (l : Line) (shows : Bool) → i < length lines → l ≡ get_or lines i l
    → (same_view v l.of && has_length l) ≡ shows
    → covering_lines v (drop i lines) ≡ cond shows (l ∷ covering_lines v (drop (i + 1) lines)) (covering_lines v (drop (i + 1) lines))
lines_left v lines i l shows within e test =
    let rest = drop (i + 1) lines in
    at_drop_more (covering_lines v) lines i l within
    ∙ ap (λ m. covering_lines v (m ∷ rest)) (sym e)
    ∙ ap (λ t. cond t (l ∷ covering_lines v rest) (covering_lines v rest)) test

-- when no lines are left, the corner is that of all
pub reached : (v : View) (lines : List Line) (i : ℕ) (o : Option Corner) → length lines ≤ i
    → IfSome o (Brings (covering_lines v (drop i lines)) v lines) → IfSome o (IsCornerOf v lines)
reached v lines i None past b = tt
reached v lines i (Some c) past b =
    let all = subst (λ further. Brings further v lines c) (at_drop_all (covering_lines v) lines i past) b in
    record { shown = all.shown; right = all.right; up = all.up }
