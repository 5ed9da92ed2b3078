-- Lines with other numbers show the same: a drawing doesn't look at the numbers of its lines.
use Rattle.std.proofs.Common.{◌≡◌, ℕ, ◌+◌, Bool, true, false, ◌&&◌, ◌||◌, cond, List, [], ◌∷◌, map, ℤ, IsTrue, if◌then◌else◌, refl, ap, sym, subst}
use Rattle.std.specs.Int.{int_min}
use Rattle.solid_model.specs.declared.frame.View.{View}
use Rattle.solid_model.specs.declared.segment.Segment.{Segment}
use Rattle.solid_model.specs.declared.segment.Style.{Style}
use Rattle.solid_model.specs.declared.segment.Style.TheVariants.{Blank, Dashed, Solid}
use Rattle.solid_model.specs.Drawings.{same_view, same_style, covers, is_covered, is_shown, has_length, covering_lines, extreme, least_right, least_up, sheet_style, drawing_of, IsShown}
use Rattle.solid_model.specs.Line.{Line}
use Rattle.solid_model.specs.Segments.{farther}
use Rattle.read_back.specs.ReadBack.{numbered_from}
use Rattle.read_back.proofs.LinesRead.{numbered}

-- a segment is covered where it was
covered_still : (style : Style) (n : ℕ) (ls : List Line) (g : Segment)
    → is_covered style (numbered_from n ls) g ≡ is_covered style ls g
covered_still style n [] g = refl
covered_still style n (l ∷ ls) g =
    ap (λ rest. (same_style style l.style && covers l g) || rest)
    (covered_still style (n + 18) ls g)

-- what is told of a view's lines without looking at their numbers is told of them still
told_still : (of_line : Line → ℤ) → ((n : ℕ) (l : Line) → of_line (numbered n l) ≡ of_line l)
    → (v : View) (n : ℕ) (ls : List Line)
    → map of_line (covering_lines v (numbered_from n ls)) ≡ map of_line (covering_lines v ls)
told_still of_line same v n [] = refl
told_still of_line same v n (l ∷ ls) =
    by (same_view v l.of && has_length l) (told_still of_line same v (n + 18) ls)
  where
    by : (counts : Bool)
        → map of_line (covering_lines v (numbered_from (n + 18) ls))
        ≡ map of_line (covering_lines v ls)
        → map of_line (cond counts (numbered n l ∷ covering_lines v (numbered_from (n + 18) ls))
        (covering_lines v (numbered_from (n + 18) ls)))
        ≡ map of_line (cond counts (l ∷ covering_lines v ls) (covering_lines v ls))
    by true rest = λ t. same n l t ∷ rest t
    by false rest = rest

-- the drawing is the same
pub drawing_still : (n : ℕ) (ls : List Line) (g : Segment)
    → drawing_of (numbered_from n ls) g ≡ drawing_of ls g
drawing_still n ls g =
    let right : least_right g.view (numbered_from n ls) ≡ least_right g.view ls =
    ap (extreme int_min) (told_still (λ l. int_min l.x0 l.x1) (λ m l. refl) g.view n ls) in
    let up : least_up g.view (numbered_from n ls) ≡ least_up g.view ls =
    ap (extreme int_min) (told_still (λ l. int_min l.y0 l.y1) (λ m l. refl) g.view n ls) in
    λ t. style_still (farther (right t) (up t) g) t
  where
    style_still : (h : Segment) → sheet_style (numbered_from n ls) h ≡ sheet_style ls h
    style_still h = λ t. if covered_still Solid n ls h t then Solid
        else (if covered_still Dashed n ls h t then Dashed else Blank)

-- and each view shows what it showed
pub shown_still : (n : ℕ) (ls : List Line) → IsShown false ls → IsShown false (numbered_from n ls)
shown_still n ls shown v none = shown v (λ g of is. none g of (subst IsTrue (sym (still g)) is))
  where
    still : (g : Segment) → is_shown (numbered_from n ls) g ≡ is_shown ls g
    still g = λ t. covered_still Solid n ls g t || covered_still Dashed n ls g t
