-- Where the lines of a sheet begin, and what they cover there.
use Rattle.std.proofs.Common.{◌≡◌, ◌≢◌, ◌⊎◌, inl, inr, ⊎_elim, Bool, true, false, not, ◌&&◌, ◌||◌, cond, List, [], ◌∷◌, map, ℤ, pos, ◌+ℤ◌, ◌≤ℤ◌, ◌<ℤ◌, int_lt, int_le, IsTrue, if◌then◌else◌, fold, int_eq, w64, to_z, of_z, refl, ap, sym, subst, ◌∙◌, arith}
use Rattle.std.specs.Int.{int_min, int_max}
use Rattle.std.proofs.lemmas.Bool.{false≢true, both_ways, and_parts, and_from, or_cases, or_left, or_right, not-true, not_from_false, false_from_ne_true, and_left, and_right}
use Rattle.std.proofs.lemmas.Bool.Decides.{Decides-int_eq}
use Rattle.std.proofs.lemmas.Int.{ints, to_z-of_z, clamps, by_lt_z, fold-int_min_bounds, fold-int_min_reached}
use Rattle.solid_model.specs.declared.frame.View.{View}
use Rattle.solid_model.specs.declared.frame.View.TheVariants.{Front, Top, Side}
use Rattle.solid_model.specs.declared.segment.Segment.{Segment}
use Rattle.solid_model.specs.declared.segment.Style.{Style}
use Rattle.solid_model.specs.declared.segment.Style.TheVariants.{Blank, Dashed, Solid}
use Rattle.solid_model.specs.Drawings.{same_view, same_style, is_between, covers, is_covered, has_length, covering_lines, extreme, least_right, least_up, is_shown, sheet_style, drawing_of, IsEmptyView}
use Rattle.solid_model.specs.Segments.{along_of, across_of, line_of, far_right, far_up, farther}
use Rattle.solid_model.specs.Line.{Line, IsKept, IsNear}
use Rattle.lemmas.specs.Lists.{Member, Each}
use Rattle.solid_model.specs.Moved.{StandsFrom, BeginsAt, IsMovedToZero}
use Rattle.lemmas.proofs.ListPlaces.{contains-member, all-each}
use Rattle.lemmas.proofs.Lists.{each-at, member-map, member-from_map, member-filter, member-from_filter}
use Rattle.solid_model.proofs.Moved.{moved_to_zero, moved_stands}

-- ---- in code

-- a near number is the same in code
pub near_in_code : (k : ℤ) → IsNear k → to_z w64 (of_z w64 k) ≡ k
near_in_code k near = to_z-of_z w64 k (omega (arith, ints))

-- ---- the least of a list

-- the least of a list is at most each member, and is a member
pub least_below : (zs : List ℤ) (z : ℤ) → Member zs z → extreme int_min zs ≤ℤ z
least_below [] z k = absurd k
least_below (a ∷ zs) z k =
    let bounds = fold-int_min_bounds a zs (fold int_min a zs) refl in
    each-at (λ x. fold int_min a zs ≤ℤ x) (a ∷ zs) z (bounds.0, all-each (λ x. fold int_min a zs ≤ℤ x) zs bounds.1) k

-- the least of a list that has a member is a member
pub least_member_of : (zs : List ℤ) (z : ℤ) → Member zs z → Member zs (extreme int_min zs)
least_member_of [] z k = absurd k
least_member_of (a ∷ zs) z k = ⊎_elim {C = Member (a ∷ zs) (fold int_min a zs)} (λ e. inl (sym e)) (λ c. inr (contains-member zs (fold int_min a zs) c))
    (fold-int_min_reached a zs (fold int_min a zs) refl)

-- ---- tests of views and styles

-- what the test takes for one view is one,
pub same_view-true : (a b : View) → same_view a b ≡ true → a ≡ b
same_view-true Front Front e = refl
same_view-true Front Top e = absurd (false≢true e)
same_view-true Front Side e = absurd (false≢true e)
same_view-true Top Top e = refl
same_view-true Top Front e = absurd (false≢true e)
same_view-true Top Side e = absurd (false≢true e)
same_view-true Side Side e = refl
same_view-true Side Front e = absurd (false≢true e)
same_view-true Side Top e = absurd (false≢true e)

-- and each view is itself
pub same_view-itself : (v : View) → same_view v v ≡ true
same_view-itself Front = refl
same_view-itself Top = refl
same_view-itself Side = refl

-- each style is itself,
pub same_style-itself : (style : Style) → same_style style style ≡ true
same_style-itself Blank = refl
same_style-itself Dashed = refl
same_style-itself Solid = refl

-- and what the test takes for one style is one
pub same_style-one : (a b : Style) → same_style a b ≡ true → a ≡ b
same_style-one Solid Solid e = refl
same_style-one Solid Dashed e = absurd (false≢true e)
same_style-one Solid Blank e = absurd (false≢true e)
same_style-one Dashed Dashed e = refl
same_style-one Dashed Solid e = absurd (false≢true e)
same_style-one Dashed Blank e = absurd (false≢true e)
same_style-one Blank Blank e = refl
same_style-one Blank Solid e = absurd (false≢true e)
same_style-one Blank Dashed e = absurd (false≢true e)

-- ---- a segment that a line covers

-- the tests of order pass
le_true : (a b : ℤ) → a ≤ℤ b → int_le a b ≡ true
le_true a b h = grind (arith, ints)

lt_true : (a b : ℤ) → a <ℤ b → int_lt a b ≡ true
lt_true a b h = grind (arith, ints)

-- a number that is at most another, and differs, is below it
below_from : (a b m : ℤ) → a ≢ b → m ≤ℤ b → m ≡ a → m <ℤ b
below_from a b m differ h e = by_lt_z m b (λ l. l) (λ l. absurd (differ (omega (arith, ints))))

-- between two numbers: not before the lesser, and before the greater
between : (a b z : ℤ) → is_between a b z ≡ true → (int_min a b ≤ℤ z) × ((z +ℤ pos 1) ≤ℤ int_max a b)
between a b z e = ⊎_elim {C = (int_min a b ≤ℤ z) × ((z +ℤ pos 1) ≤ℤ int_max a b)}
    (λ h. let p = and_parts (int_le a z) (int_lt z b) h in (omega (arith, ints, clamps, p.0, p.1), omega (arith, ints, clamps, p.0, p.1)))
    (λ h. let p = and_parts (int_le b z) (int_lt z a) h in (omega (arith, ints, clamps, p.0, p.1), omega (arith, ints, clamps, p.0, p.1)))
    (or_cases (int_le a z && int_lt z b) (int_le b z && int_lt z a) e)

-- the lesser of two numbers is one of them
min_is_one : (a b : ℤ) → (int_min a b ≡ a) ⊎ (int_min a b ≡ b)
min_is_one a b = cond_is (int_lt b a)
  where
    cond_is : (t : Bool) → (cond t b a ≡ a) ⊎ (cond t b a ≡ b)
    cond_is true = inr refl
    cond_is false = inl refl

-- the lesser of two different numbers lies between them
between_by : (a b m : ℤ) → a ≢ b → m ≤ℤ a → m ≤ℤ b → (m ≡ a) ⊎ (m ≡ b) → is_between a b m ≡ true
between_by a b m differ h k (inl e) = or_left (int_le a m && int_lt m b) (int_le b m && int_lt m a)
    (and_from (int_le a m) (int_lt m b) (le_true a m (omega (arith, ints))) (lt_true m b (below_from a b m differ k e)))
between_by a b m differ h k (inr e) = or_right (int_le a m && int_lt m b) (int_le b m && int_lt m a)
    (and_from (int_le b m) (int_lt m a) (le_true b m (omega (arith, ints))) (lt_true m a (below_from b a m (λ same. differ (sym same)) h e)))

between_from : (a b : ℤ) → a ≢ b → is_between a b (int_min a b) ≡ true
between_from a b differ = between_by a b (int_min a b) differ (omega (arith, ints, clamps)) (omega (arith, ints, clamps)) (min_is_one a b)

-- numbers that differ fail the test
int_eq-false : (a b : ℤ) → a ≢ b → int_eq a b ≡ false
int_eq-false a b differ = false_from_ne_true (int_eq a b) (λ e. differ ((Decides-int_eq a b).0 e))

-- numbers that another lies between differ
between_differ : (a b z : ℤ) → (int_min a b ≤ℤ z) × ((z +ℤ pos 1) ≤ℤ int_max a b) → int_eq a b ≡ false
between_differ a b z h = int_eq-false a b (λ same. omega (arith, ints, clamps))

-- a segment on a line lies between the line's ends, and the line has length
cover_bounds : (upright : Bool) (x0 y0 x1 y1 right up : ℤ)
    → int_eq (across_of upright x0 y0) (if upright then right else up) ≡ true
    → int_eq (across_of upright x1 y1) (if upright then right else up) ≡ true
    → is_between (along_of upright x0 y0) (along_of upright x1 y1) (if upright then up else right) ≡ true
    → (not (int_eq x0 x1 && int_eq y0 y1) ≡ true)
    × ((int_min x0 x1 ≤ℤ right) × ((if upright then right else (right +ℤ pos 1)) ≤ℤ int_max x0 x1))
    × ((int_min y0 y1 ≤ℤ up) × ((if upright then (up +ℤ pos 1) else up) ≤ℤ int_max y0 y1))
cover_bounds true x0 y0 x1 y1 right up p q r =
    let x0_is = (Decides-int_eq x0 right).0 p in
    let stretch = between y0 y1 up r in (
      not_from_false (int_eq x0 x1 && int_eq y0 y1) (and_right (int_eq x0 x1) (int_eq y0 y1) (between_differ y0 y1 up stretch)),
      (omega (arith, ints, clamps), omega (arith, ints, clamps)),
      stretch,
    )
cover_bounds false x0 y0 x1 y1 right up p q r =
    let y0_is = (Decides-int_eq y0 up).0 p in
    let stretch = between x0 x1 right r in (
      not_from_false (int_eq x0 x1 && int_eq y0 y1) (and_left (int_eq x0 x1) (int_eq y0 y1) (between_differ x0 x1 right stretch)),
      stretch,
      (omega (arith, ints, clamps), omega (arith, ints, clamps)),
    )

-- the segment lies between the line's ends, to the right and upwards
pub record LiesAlong (l : Line) (g : Segment) : Type 0 where
  pub left : int_min l.x0 l.x1 ≤ℤ g.right
  pub right : far_right g ≤ℤ int_max l.x0 l.x1
  pub bottom : int_min l.y0 l.y1 ≤ℤ g.up
  pub top : far_up g ≤ℤ int_max l.y0 l.y1

-- a line that covers a segment is one of its view's lines, and the segment lies between its ends
cover_along : (l : Line) (g : Segment) → covers l g ≡ true → ((same_view g.view l.of && has_length l) ≡ true) × LiesAlong l g
cover_along l g e =
    let p = and_parts (same_view l.of g.view) _ e in
    let q = and_parts (int_eq (across_of g.upright l.x0 l.y0) (line_of g)) _ p.1 in
    let r = and_parts (int_eq (across_of g.upright l.x1 l.y1) (line_of g)) _ q.1 in
    let b = cover_bounds g.upright l.x0 l.y0 l.x1 l.y1 g.right g.up q.0 r.0 r.1 in
    let of_view : same_view g.view l.of ≡ true = subst (λ v. same_view v l.of ≡ true) (same_view-true l.of g.view p.0) (same_view-itself l.of) in
    (and_from (same_view g.view l.of) (has_length l) of_view b.0, record { left = b.1.0; right = b.1.1; bottom = b.2.0; top = b.2.1 })

-- ---- what is drawn is covered by a line

-- some line of the list covers the segment
abbrev IsCoveredBy : List Line → Segment → Type 0
IsCoveredBy ls g = (l : Line) × Member ls l × (covers l g ≡ true)

covered_by : (style : Style) (ls : List Line) (g : Segment) → is_covered style ls g ≡ true → IsCoveredBy ls g
covered_by style [] g e = absurd (false≢true e)
covered_by style (l ∷ ls) g e = ⊎_elim {C = IsCoveredBy (l ∷ ls) g}
    (λ h. (l, inl refl, (and_parts (same_style style l.style) (covers l g) h).1))
    (λ h. let rest = covered_by style ls g h in (rest.0, inr rest.1, rest.2))
    (or_cases (same_style style l.style && covers l g) (is_covered style ls g) e)

covered_from : (style : Style) (ls : List Line) (l : Line) (g : Segment) → Member ls l → l.style ≡ style → covers l g ≡ true
    → is_covered style ls g ≡ true
covered_from style [] l g k e h = absurd k
covered_from style (m ∷ ls) l g (inl same) e h =
    let of_style : same_style style m.style ≡ true = subst (λ t. same_style style t ≡ true) (sym (ap (λ (n : Line). n.style) same ∙ e)) (same_style-itself style) in
    or_left (same_style style m.style && covers m g) (is_covered style ls g)
    (and_from (same_style style m.style) (covers m g) of_style (ap (λ n. covers n g) same ∙ h))
covered_from style (m ∷ ls) l g (inr k) e h =
    or_right (same_style style m.style && covers m g) (is_covered style ls g) (covered_from style ls l g k e h)

drawn_by : (ls : List Line) (g : Segment) → is_shown ls g ≡ true → IsCoveredBy ls g
drawn_by ls g e = ⊎_elim {C = IsCoveredBy ls g} (covered_by Solid ls g) (covered_by Dashed ls g)
    (or_cases (is_covered Solid ls g) (is_covered Dashed ls g) e)

drawn_from : (style : Style) (ls : List Line) (l : Line) (g : Segment) → Member ls l → l.style ≡ style → style ≢ Blank → covers l g ≡ true
    → is_shown ls g ≡ true
drawn_from Blank ls l g k e drawn h = absurd (drawn refl)
drawn_from Dashed ls l g k e drawn h = or_right (is_covered Solid ls g) (is_covered Dashed ls g) (covered_from Dashed ls l g k e h)
drawn_from Solid ls l g k e drawn h = or_left (is_covered Solid ls g) (is_covered Dashed ls g) (covered_from Solid ls l g k e h)

-- the line that covers a drawn segment, among the lines of its view
pub drawn_line : (ls : List Line) (g : Segment) → is_shown ls g ≡ true → (l : Line) × Member (covering_lines g.view ls) l × LiesAlong l g
drawn_line ls g e =
    let m = drawn_by ls g e in
    let b = cover_along m.0 g m.2 in
    (m.0, member-filter (λ l. same_view g.view l.of && has_length l) ls m.0 m.1 b.0, b.1)

-- nothing is drawn to the left of the least right coordinate, or below the least up coordinate
pub none_before : (ls : List Line) (g : Segment) → is_shown ls g ≡ true → (least_right g.view ls ≤ℤ g.right) × (least_up g.view ls ≤ℤ g.up)
none_before ls g e =
    let m = drawn_line ls g e in
    let left = least_below _ _ (member-map (λ l. int_min l.x0 l.x1) (covering_lines g.view ls) m.0 m.1) in
    let low = least_below _ _ (member-map (λ l. int_min l.y0 l.y1) (covering_lines g.view ls) m.0 m.1) in
    (omega (arith, ints), omega (arith, ints))

-- ---- the least coordinates are reached

-- the first segment of a straight line with length
abbrev first_segment : Line → Bool → Segment
first_segment l upright = record { view = l.of; upright = upright; right = int_min l.x0 l.x1; up = int_min l.y0 l.y1 }

-- a line with length has different ends
ends_differ : (l : Line) → has_length l ≡ true → l.x0 ≡ l.x1 → l.y0 ≡ l.y1 → ⊥
ends_differ l e p q = both_ways (int_eq l.x0 l.x1 && int_eq l.y0 l.y1) (not-true (int_eq l.x0 l.x1 && int_eq l.y0 l.y1) e)
    (and_from (int_eq l.x0 l.x1) (int_eq l.y0 l.y1) ((Decides-int_eq l.x0 l.x1).1 p) ((Decides-int_eq l.y0 l.y1).1 q))

-- ends that agree across and differ along pass the test at the lesser coordinates
first_stretch : (a0 a1 b0 b1 : ℤ) → a0 ≡ a1 → b0 ≢ b1
    → (int_eq a0 (int_min a0 a1) && (int_eq a1 (int_min a0 a1) && is_between b0 b1 (int_min b0 b1))) ≡ true
first_stretch a0 a1 b0 b1 same differ =
    and_from (int_eq a0 (int_min a0 a1)) _ ((Decides-int_eq a0 (int_min a0 a1)).1 (omega (arith, ints, clamps)))
    (and_from (int_eq a1 (int_min a0 a1)) (is_between b0 b1 (int_min b0 b1))
    ((Decides-int_eq a1 (int_min a0 a1)).1 (omega (arith, ints, clamps))) (between_from b0 b1 differ))

-- a straight line with length covers its first segment
covers_first : (l : Line) → (l.x0 ≡ l.x1) ⊎ (l.y0 ≡ l.y1) → has_length l ≡ true → (upright : Bool) × (covers l (first_segment l upright) ≡ true)
covers_first l straight e = ⊎_elim {C = (upright : Bool) × (covers l (first_segment l upright) ≡ true)}
    (λ h. (true, and_from (same_view l.of l.of) _ (same_view-itself l.of) (first_stretch l.x0 l.x1 l.y0 l.y1 h (ends_differ l e h))))
    (λ h. (false, and_from (same_view l.of l.of) _ (same_view-itself l.of) (first_stretch l.y0 l.y1 l.x0 l.x1 h (λ k. ends_differ l e k h))))
    straight

-- a drawn segment of the view, which begins where the line does
abbrev IsDrawnFirst : List Line → View → Line → Segment → Type 0
IsDrawnFirst ls v l h = (h.view ≡ v) × IsTrue (is_shown ls h) × (h.right ≡ int_min l.x0 l.x1) × (h.up ≡ int_min l.y0 l.y1)

-- each line of a view draws its first segment
first_drawn : (ls : List Line) → Each IsKept ls → (v : View) (l : Line) → Member (covering_lines v ls) l → (h : Segment) × IsDrawnFirst ls v l h
first_drawn ls kept v l k =
    let m = member-from_filter (λ (n : Line). same_view v n.of && has_length n) ls l k in
    let test = and_parts (same_view v l.of) (has_length l) m.1 in
    let keeps = each-at IsKept ls l kept m.0 in
    let first = covers_first l keeps.straight test.1 in (
      first_segment l first.0,
      (
        sym (same_view-true v l.of test.0),
        drawn_from l.style ls l (first_segment l first.0) m.0 refl keeps.drawn first.1,
        refl,
        refl,
      ),
    )

-- where a view has a drawn segment, one has the least of a coordinate that it takes from its line
least_drawn : (of_line : Line → ℤ) (of_segment : Segment → ℤ) (ls : List Line) → Each IsKept ls → (g : Segment) → is_shown ls g ≡ true
    → ((l : Line) (h : Segment) → IsDrawnFirst ls g.view l h → of_segment h ≡ of_line l)
    → (h : Segment) × (h.view ≡ g.view) × IsTrue (is_shown ls h) × (of_segment h ≡ extreme int_min (map of_line (covering_lines g.view ls)))
least_drawn of_line of_segment ls kept g e takes =
    let some = drawn_line ls g e in
    let reached = least_member_of (map of_line (covering_lines g.view ls)) (of_line some.0) (member-map of_line (covering_lines g.view ls) some.0 some.1) in
    let m = member-from_map of_line (covering_lines g.view ls) (extreme int_min (map of_line (covering_lines g.view ls))) reached in
    let first = first_drawn ls kept g.view m.0 m.1 in
    (first.0, first.1.0, first.1.1, takes m.0 first.0 first.1 ∙ m.2)

-- where a view has a drawn segment, one begins at the least right coordinate
pub right_reached : (ls : List Line) → Each IsKept ls → (g : Segment) → is_shown ls g ≡ true
    → (h : Segment) × (h.view ≡ g.view) × IsTrue (is_shown ls h) × (h.right ≡ least_right g.view ls)
right_reached ls kept g e = least_drawn (λ l. int_min l.x0 l.x1) (λ h. h.right) ls kept g e (λ l h first. first.2)

-- and one begins at the least up coordinate
pub up_reached : (ls : List Line) → Each IsKept ls → (g : Segment) → is_shown ls g ≡ true
    → (h : Segment) × (h.view ≡ g.view) × IsTrue (is_shown ls h) × (h.up ≡ least_up g.view ls)
up_reached ls kept g e = least_drawn (λ l. int_min l.y0 l.y1) (λ h. h.up) ls kept g e (λ l h first. first.3)

-- ---- views that show nothing

-- a view is empty where none of its lines has length
pub without_lines-empty : (ls : List Line) (v : View) → covering_lines v ls ≡ [] → IsEmptyView ls v
without_lines-empty ls v none g e shown =
    let m = drawn_line ls g shown in
    subst (λ ms. Member ms m.0) (ap (λ w. covering_lines w ls) e ∙ none) m.1

-- and only there, where the lines are kept
pub empty-without_lines : (ls : List Line) → Each IsKept ls → (v : View) → IsEmptyView ls v → covering_lines v ls ≡ []
empty-without_lines ls kept v empty = by (covering_lines v ls) refl
  where
    by : (ms : List Line) → covering_lines v ls ≡ ms → ms ≡ []
    by [] e = refl
    by (l ∷ ms) e =
        let first = first_drawn ls kept v l (subst (λ ns. Member ns l) (sym e) (inl refl)) in
        absurd (empty first.0 first.1.0 first.1.1)

-- a view that isn't empty has a line with length
pub some_line : (ls : List Line) (v : View) → (IsEmptyView ls v → ⊥) → covering_lines v ls ≢ []
some_line ls v shown none = shown (without_lines-empty ls v none)

-- ---- where what is drawn on the sheet begins

-- a segment that isn't blank is covered
pub covered_from_style : (solid dashed : Bool) → (if solid then Solid else (if dashed then Dashed else Blank)) ≢ Blank → (solid || dashed) ≡ true
covered_from_style true dashed h = refl
covered_from_style false true h = refl
covered_from_style false false h = absurd (h refl)

style_from_covered : (solid dashed : Bool) → (solid || dashed) ≡ true → (if solid then Solid else (if dashed then Dashed else Blank)) ≢ Blank
style_from_covered true dashed e = λ p. cc
style_from_covered false true e = λ p. cc
style_from_covered false false e = absurd (false≢true e)

-- nothing stands to the left of a view's least right coordinate or below its least up coordinate
pub sheet_stands_from : (ls : List Line) (v : View) → StandsFrom (sheet_style ls) v (least_right v ls) (least_up v ls)
sheet_stands_from ls v g of drawn =
    subst (λ w. (least_right w ls ≤ℤ g.right) × (least_up w ls ≤ℤ g.up)) of (none_before ls g (covered_from_style _ _ drawn))

-- a view that has a line with length shows something
shown_by_lines : (ls : List Line) → Each IsKept ls → (v : View) → covering_lines v ls ≢ [] → (g : Segment) × (g.view ≡ v) × IsTrue (is_shown ls g)
shown_by_lines ls kept v some = by (covering_lines v ls) refl
  where
    by : (ms : List Line) → covering_lines v ls ≡ ms → (g : Segment) × (g.view ≡ v) × IsTrue (is_shown ls g)
    by [] e = absurd (some e)
    by (l ∷ ms) e =
        let first = first_drawn ls kept v l (subst (λ ns. Member ns l) (sym e) (inl refl)) in
        (first.0, first.1.0, first.1.1)

-- and begins at its least coordinates
pub sheet_begins : (ls : List Line) → Each IsKept ls → (v : View) → covering_lines v ls ≢ [] → BeginsAt (sheet_style ls) v (least_right v ls) (least_up v ls)
sheet_begins ls kept v some =
    let g = shown_by_lines ls kept v some in
    let left = right_reached ls kept g.0 g.2 in
    let bottom = up_reached ls kept g.0 g.2 in
    record {
      stands_from = sheet_stands_from ls v;
      at_left = (left.0, left.1 ∙ g.1, style_from_covered _ _ left.2, left.3 ∙ ap (λ w. least_right w ls) g.1);
      at_bottom = (bottom.0, bottom.1 ∙ g.1, style_from_covered _ _ bottom.2, bottom.3 ∙ ap (λ w. least_up w ls) g.1);
    }

-- so the drawing of lines is what they show on the sheet, moved to least coordinates 0
pub lines_moved : (ls : List Line) → Each IsKept ls → (v : View) → covering_lines v ls ≢ [] → IsMovedToZero (sheet_style ls) (drawing_of ls) v
lines_moved ls kept v some = moved_to_zero (λ w. least_right w ls) (λ w. least_up w ls) (sheet_style ls) v (sheet_begins ls kept v some)

-- nothing of it stands below 0
pub drawing_stands_from : (ls : List Line) (v : View) → StandsFrom (drawing_of ls) v (pos 0) (pos 0)
drawing_stands_from ls v = moved_stands (least_right v ls) (least_up v ls) (sheet_style ls) (drawing_of ls) v (sheet_stands_from ls v)
    (λ g of t. sheet_style ls (farther (least_right (of t) ls) (least_up (of t) ls) g))
