-- The drawing of a list of lines: what a file's lines show, each view moved to least coordinates 0.
use Rattle.std.specs.Prelude.{◌≡◌, ◌≢◌, IsTrue, Bool, true, false, not, ◌&&◌, ◌||◌, List, [], ◌∷◌, map, ℤ, pos, int_lt, int_le, if◌then◌else◌}
use Rattle.std.specs.List.{filter, fold}
use Rattle.std.specs.Int.{int_min}
use Rattle.std.specs.Ordering.{int_eq}
use Rattle.solid_model.specs.declared.frame.View.{View}
use Rattle.solid_model.specs.declared.frame.View.TheVariants.{Front, Top, Side}
use Rattle.solid_model.specs.declared.segment.Segment.{Segment}
use Rattle.solid_model.specs.declared.segment.Style.{Style}
use Rattle.solid_model.specs.declared.segment.Style.TheVariants.{Blank, Dashed, Solid}
use Rattle.solid_model.specs.Line.{Line}
use Rattle.solid_model.specs.Moved.{moved}
use Rattle.solid_model.specs.Segments.{along_of, across_of, start_of, line_of}

-- two names of one view
abbrev pub same_view : View → View → Bool
same_view Front Front = true
same_view Top Top = true
same_view Side Side = true
same_view _ _ = false

-- two names of one style
abbrev pub same_style : Style → Style → Bool
same_style Blank Blank = true
same_style Dashed Dashed = true
same_style Solid Solid = true
same_style _ _ = false

-- z lies in the stretch between the ends a and b, in either order, the greater end left out
abbrev pub is_between : ℤ → ℤ → ℤ → Bool
is_between a b z = (int_le a z && int_lt z b) || (int_le b z && int_lt z a)

-- a line covers a segment: both its ends lie on the segment's line, and the segment lies between them
abbrev pub covers : Line → Segment → Bool
covers l g = same_view l.of g.view
    && (int_eq (across_of g.upright l.x0 l.y0) (line_of g)
    && (int_eq (across_of g.upright l.x1 l.y1) (line_of g)
    && is_between (along_of g.upright l.x0 l.y0) (along_of g.upright l.x1 l.y1) (start_of g)))

-- a line of that style covers the segment
abbrev pub is_covered : Style → List Line → Segment → Bool
is_covered style [] g = false
is_covered style (l ∷ ls) g = (same_style style l.style && covers l g) || is_covered style ls g

-- some line covers the segment
abbrev pub is_shown : List Line → Segment → Bool
is_shown ls g = is_covered Solid ls g || is_covered Dashed ls g

-- the style of a segment on the sheet: solid lines win over dashed ones
abbrev pub sheet_style : List Line → Segment → Style
sheet_style ls g = if is_covered Solid ls g then Solid else (if is_covered Dashed ls g then Dashed else Blank)

-- a line of no length covers nothing
abbrev pub has_length : Line → Bool
has_length l = not (int_eq l.x0 l.x1 && int_eq l.y0 l.y1)

-- the lines of a view that cover something
abbrev pub covering_lines : View → List Line → List Line
covering_lines v ls = filter (λ l. same_view v l.of && has_length l) ls

-- one member of a list, and 0 of an empty one: the least or the greatest, where `of_two` gives the lesser or the greater of two
abbrev pub extreme : (ℤ → ℤ → ℤ) → List ℤ → ℤ
extreme of_two [] = pos 0
extreme of_two (z ∷ zs) = fold of_two z zs

-- the least or the greatest right coordinate of a view's covering lines
abbrev pub extreme_right : (ℤ → ℤ → ℤ) → View → List Line → ℤ
extreme_right of_two v ls = extreme of_two (map (λ l. of_two l.x0 l.x1) (covering_lines v ls))

-- and up coordinate
abbrev pub extreme_up : (ℤ → ℤ → ℤ) → View → List Line → ℤ
extreme_up of_two v ls = extreme of_two (map (λ l. of_two l.y0 l.y1) (covering_lines v ls))

-- the least right coordinate of the segments that a view's lines cover
abbrev pub least_right : View → List Line → ℤ
least_right = extreme_right int_min

-- and the least up coordinate
abbrev pub least_up : View → List Line → ℤ
least_up = extreme_up int_min

-- the drawing of lines: what they show on the sheet, each view moved to least coordinates 0
abbrev pub drawing_of : List Line → Segment → Style
drawing_of ls = moved (λ v. least_right v ls) (λ v. least_up v ls) (sheet_style ls)

-- no segment of the view is covered
abbrev pub IsEmptyView : List Line → View → Type 0
IsEmptyView ls v = (g : Segment) → g.view ≡ v → IsTrue (is_shown ls g) → ⊥

-- Every view shows something; or, where one may be missing, of two different views one does.
abbrev pub IsShown : Bool → List Line → Type 0
IsShown false ls = (v : View) → IsEmptyView ls v → ⊥
IsShown true ls = (v w : View) → v ≢ w → IsEmptyView ls v → IsEmptyView ls w → ⊥

-- the first empty view in the order front, top, side
abbrev pub IsFirstEmptyView : List Line → View → Type 0
IsFirstEmptyView ls Front = IsEmptyView ls Front
IsFirstEmptyView ls Top = (IsEmptyView ls Front → ⊥) × IsEmptyView ls Top
IsFirstEmptyView ls Side = (IsEmptyView ls Front → ⊥) × (IsEmptyView ls Top → ⊥) × IsEmptyView ls Side

-- it is lacked: where one view may be missing, another one is empty too
abbrev pub LacksView : Bool → List Line → View → Type 0
LacksView false ls v = IsFirstEmptyView ls v
LacksView true ls v = IsFirstEmptyView ls v × (w : View) × (w ≢ v) × IsEmptyView ls w
