-- The edges of a matching solid are pseudo edges of the grid.
use Rattle.std.proofs.Common.{◌≡◌, ◌≢◌, ◌⊎◌, inl, inr, ⊎_elim, Bool, true, false, not, ◌||◌, ℕ, zero, suc, List, [], ◌∷◌, ◌++◌, ℤ, pos, ◌+ℤ◌, ◌≤ℤ◌, refl, sym, ap, subst, ◌∙◌, arith}
use Rattle.std.proofs.lemmas.Bool.{false≢true, and_from, or_left, or_right, not_from_false}
use Rattle.std.proofs.lemmas.Int.{ints}
use Rattle.solid_model.specs.declared.cell.Axis.{Axis}
use Rattle.solid_model.specs.declared.cell.Axis.TheVariants.{X, Y, Z}
use Rattle.solid_model.specs.declared.cell.Cell.{Cell}
use Rattle.solid_model.specs.declared.frame.View.{View}
use Rattle.solid_model.specs.declared.frame.View.TheVariants.{Front, Top, Side}
use Rattle.solid_model.specs.declared.segment.Segment.{Segment}
use Rattle.solid_model.specs.declared.segment.Style.{Style}
use Rattle.solid_model.specs.Cells.{coordinate, cell_before, cell_after}
use Rattle.solid_model.specs.Edges.{second_axis, third_axis, is_edge}
use Rattle.solid_model.specs.Frames.{frame_of}
use Rattle.solid_model.specs.Matching.{Matches}
use Rattle.solid_model.specs.Moved.{Shows}
use Rattle.solid_model.specs.DrawnStyle.{line_styles}
use Rattle.solid_model.specs.PerView.{of_view}
use Rattle.std.specs.List.{list_any, flat_map}
use Rattle.solid_model.specs.Segments.{segment_at}
use Rattle.solid_model.specs.declared.segment.Style.TheVariants.{Blank, Dashed, Solid}
use Rattle.solid_model.specs.Panels.{GridParts, IsGridOf, styles_along, starts_of, coordinates_of}
use Rattle.solid_model.specs.WalledBoxes.{same_axis}
use Rattle.solid_model.specs.Wire.{is_blank_style, is_drawn_view, is_drawn_from, is_end_of_drawn, is_on_drawn, is_pseudo_vertex, is_drawn_or_point, is_pseudo_edge}
use Rattle.solid_model.specs.GridBox.{grid_sizes, axis_along, axis_across, IsGridFullness}
use Rattle.solid_model.proofs.BoxCells.{below-bounds}
use Rattle.solid_model.proofs.GridEdges.{edge_drawn}
use Rattle.solid_model.proofs.GridFillings.{IsEdgeAt, turns_where_it_ends}
use Rattle.solid_model.proofs.GridFullness.{edge_along}
use Rattle.solid_model.proofs.InGrid.{placed_at, before_after}
use Rattle.solid_model.proofs.Views.{each_axis, views_are_frames}

-- ---- axes

-- what the test takes for one axis is one
pub same_axis-true : (a b : Axis) → same_axis a b ≡ true → a ≡ b
same_axis-true X X e = refl
same_axis-true Y Y e = refl
same_axis-true Z Z e = refl
same_axis-true _ _ e = absurd (false≢true e)

second_differs : (a : Axis) → a ≡ second_axis a → ⊥
second_differs X e = cc
second_differs Y e = cc
second_differs Z e = cc

third_differs : (a : Axis) → a ≡ third_axis a → ⊥
third_differs X e = cc
third_differs Y e = cc
third_differs Z e = cc

-- a view shows an axis, by its level or by its upright segments, or looks along it
shows_or_looks_along : (v : View) (a : Axis) → ((upright : Bool) × (axis_along v upright ≡ a)) ⊎ ((frame_of v).away.axis ≡ a)
shows_or_looks_along v = each_axis (λ a. ((upright : Bool) × (axis_along v upright ≡ a)) ⊎ ((frame_of v).away.axis ≡ a))
    (frame_of v).away.axis (frame_of v).right.axis (frame_of v).up.axis (views_are_frames v) (inr refl) (inl (false, refl)) (inl (true, refl))

-- ---- points on what is drawn

on_drawn : (g : GridParts) (v : View) (upright : Bool) (n : Cell) → is_end_of_drawn g v upright n ≡ true → is_on_drawn g n v ≡ true
on_drawn g v false n h = or_right (not (is_drawn_view g v)) _ (or_left (is_end_of_drawn g v false n) _ h)
on_drawn g v true n h = or_right (not (is_drawn_view g v)) _ (or_right (is_end_of_drawn g v false n) _ h)

-- a view that looks along an axis sees all points of a line along it as one
seen_as_one : (g : GridParts) (v : View) (a : Axis) → (frame_of v).away.axis ≡ a → (n : Cell) → is_on_drawn g (cell_after a n) v ≡ is_on_drawn g n v
seen_as_one g v a looks n = subst (λ x. is_on_drawn g (cell_after x n) v ≡ is_on_drawn g n v) looks (by v)
  where
    by : (w : View) → is_on_drawn g (cell_after (frame_of w).away.axis n) w ≡ is_on_drawn g n w
    by Front = refl
    by Top = refl
    by Side = refl

-- ---- a view that isn't missing

is_drawn : Style → Bool
is_drawn s = not (is_blank_style s)

drawn_style : (style : Style) → not (is_blank_style style) ≡ true → style ≢ Blank
drawn_style Blank e b = false≢true e
drawn_style Dashed e b = cc
drawn_style Solid e b = cc

or_cases : (a b : Bool) → (a || b) ≡ true → (a ≡ true) ⊎ (b ≡ true)
or_cases true b e = inl refl
or_cases false b e = inr e

any_append : (xs ys : List Style) → list_any (λ s. not (is_blank_style s)) (xs ++ ys) ≡ true
    → (list_any (λ s. not (is_blank_style s)) xs ≡ true) ⊎ (list_any (λ s. not (is_blank_style s)) ys ≡ true)
any_append [] ys e = inr e
any_append (x ∷ xs) ys e = ⊎_elim (λ h. inl (or_left (not (is_blank_style x)) _ h))
    (λ h. ⊎_elim (λ k. inl (or_right (not (is_blank_style x)) _ k)) inr (any_append xs ys h)) (or_cases (not (is_blank_style x)) _ e)

module _ (drawing : Segment → Style) (v : View) (upright : Bool) where
  on_line : (starts : List ℤ) (line : ℤ) → list_any (λ s. not (is_blank_style s)) (line_styles drawing v upright starts line) ≡ true → Shows drawing v
  on_line [] line e = absurd (false≢true e)
  on_line (z ∷ zs) line e = ⊎_elim (λ h. (segment_at v upright z line, at_view upright z line, drawn_style _ h)) (on_line zs line) (or_cases (not (is_blank_style (drawing (segment_at v upright z line)))) _ e)
    where
      at_view : (u : Bool) (a b : ℤ) → (segment_at v u a b).view ≡ v
      at_view true a b = refl
      at_view false a b = refl

  on_lines : (starts lines : List ℤ) → list_any (λ s. not (is_blank_style s)) (flat_map (line_styles drawing v upright starts) lines) ≡ true → Shows drawing v
  on_lines starts [] e = absurd (false≢true e)
  on_lines starts (l ∷ ls) e = ⊎_elim (on_line starts l) (on_lines starts ls) (any_append (line_styles drawing v upright starts l) _ e)

pub view_drawn : (drawing : Segment → Style) (g : GridParts) → IsGridOf drawing g → (v : View) → is_drawn_view g v ≡ true → Shows drawing v
view_drawn drawing g grid v e = ⊎_elim (at false) (at true) (or_cases (list_any (λ s. not (is_blank_style s)) (styles_along false (of_view v g.panels))) (list_any (λ s. not (is_blank_style s)) (styles_along true (of_view v g.panels))) e)
  where
    at : (upright : Bool) → list_any (λ s. not (is_blank_style s)) (styles_along upright (of_view v g.panels)) ≡ true → Shows drawing v
    at upright h = on_lines drawing v upright (starts_of (coordinates_of g (axis_along v upright))) (coordinates_of g (axis_across v upright)) (ap (list_any (λ s. not (is_blank_style s))) (sym (grid.styles v upright)) ∙ h)

module _ (drawing : Segment → Style) (g : GridParts) (grid : IsGridOf drawing g) (s : List Cell) (matches : Matches drawing s)
    (full : Cell → Bool) (counts : IsGridFullness g s full) where
  -- what is so in a view that the drawing shows, or where the view is missing, is so
  if_drawn : (v : View) (rest : Bool) → (Shows drawing v → (not (is_drawn_view g v) || rest) ≡ true) → (not (is_drawn_view g v) || rest) ≡ true
  if_drawn v rest then = by (is_drawn_view g v) refl
    where
      by : (t : Bool) → is_drawn_view g v ≡ t → (not (is_drawn_view g v) || rest) ≡ true
      by true e = then (view_drawn drawing g grid v e)
      by false e = or_left (not (is_drawn_view g v)) rest (not_from_false _ e)

  drawn : (v : View) (upright : Bool) (a : Axis) → axis_along v upright ≡ a → Shows drawing v
      → (n : Cell) → is_edge full a n ≡ true → is_drawn_from g v upright n ≡ true
  drawn v upright a shows there n edge = edge_drawn drawing g grid s matches full counts v upright n there (ap (λ x. is_edge full x n) shows ∙ edge)

  -- where an edge that the view shows as a segment begins or ends, something is drawn
  begins_on_drawn : (v : View) (upright : Bool) (a : Axis) → axis_along v upright ≡ a → Shows drawing v
      → (n : Cell) → is_edge full a n ≡ true → is_on_drawn g n v ≡ true
  begins_on_drawn v upright a shows there n edge = on_drawn g v upright n (or_left (is_drawn_from g v upright n) _ (drawn v upright a shows there n edge))

  ends_on_drawn : (v : View) (upright : Bool) (a : Axis) → axis_along v upright ≡ a → Shows drawing v
      → (n : Cell) → is_edge full a (cell_before a n) ≡ true → is_on_drawn g n v ≡ true
  ends_on_drawn v upright a shows there n edge = on_drawn g v upright n (or_right (is_drawn_from g v upright n) _
      (ap (λ x. is_drawn_from g v upright (cell_before x n)) shows ∙ drawn v upright a shows there (cell_before a n) edge))

  at_on_drawn : (v : View) (upright : Bool) (a : Axis) → axis_along v upright ≡ a → Shows drawing v → (n : Cell) → IsEdgeAt full a n → is_on_drawn g n v ≡ true
  at_on_drawn v upright a shows there n at =
      ⊎_elim {C = is_on_drawn g n v ≡ true} (begins_on_drawn v upright a shows there n) (ends_on_drawn v upright a shows there n) at

  -- a view that looks along an axis draws something where an edge across it begins or ends
  across_on_drawn : (v : View) → Shows drawing v → (a b : Axis) → (frame_of v).away.axis ≡ a → (a ≡ b → ⊥) → (n : Cell) → IsEdgeAt full b n → is_on_drawn g n v ≡ true
  across_on_drawn v there a b looks differ n at = ⊎_elim {C = is_on_drawn g n v ≡ true}
      (λ shows. at_on_drawn v shows.0 b shows.1 there n at) (λ looks_too. absurd (differ (sym looks ∙ looks_too))) (shows_or_looks_along v b)

  -- Edges that follow one another along the axis come to an end within the box, and there one across begins or ends. So a view that
  -- looks along them draws something at the point as which it sees them all.
  along_on_drawn : (v : View) → Shows drawing v → (a : Axis) → (frame_of v).away.axis ≡ a → (left : ℕ) (n : Cell) → pos (grid_sizes g a) ≤ℤ (coordinate a n +ℤ pos left)
      → is_edge full a n ≡ true → is_on_drawn g n v ≡ true
  along_on_drawn v there a looks zero n far edge =
      let within = below-bounds (grid_sizes g a) (coordinate a n) (edge_along drawing g grid s matches full counts a n edge) in
      absurd (omega (arith, ints, far, within.1))
  along_on_drawn v there a looks (suc left) n far edge = sym (seen_as_one g v a looks n) ∙ by (is_edge full a (cell_after a n)) refl
      (along_on_drawn v there a looks left (cell_after a n) (let at = placed_at a (coordinate a n +ℤ pos 1) n in omega (arith, ints, at, far)))
    where
      back : is_edge full a (cell_before a (cell_after a n)) ≡ true
      back = ap (is_edge full a) (before_after a n) ∙ edge

      by : (t : Bool) → is_edge full a (cell_after a n) ≡ t → (is_edge full a (cell_after a n) ≡ true → is_on_drawn g (cell_after a n) v ≡ true)
          → is_on_drawn g (cell_after a n) v ≡ true
      by true e later = later e
      by false e later = ⊎_elim {C = is_on_drawn g (cell_after a n) v ≡ true}
          (across_on_drawn v there a (second_axis a) looks (second_differs a) (cell_after a n))
          (across_on_drawn v there a (third_axis a) looks (third_differs a) (cell_after a n))
          (turns_where_it_ends full a (cell_after a n) back e)

  -- ---- both ends

  first_there : (a : Axis) (n : Cell) → is_edge full a n ≡ true → (v : View) → Shows drawing v → is_on_drawn g n v ≡ true
  first_there a n edge v there = ⊎_elim {C = is_on_drawn g n v ≡ true} (λ shows. begins_on_drawn v shows.0 a shows.1 there n edge)
      (λ looks. let within = below-bounds (grid_sizes g a) (coordinate a n) (edge_along drawing g grid s matches full counts a n edge) in
      along_on_drawn v there a looks (grid_sizes g a) n (omega (arith, ints, within.0)) edge) (shows_or_looks_along v a)

  first_on_drawn : (a : Axis) (n : Cell) → is_edge full a n ≡ true → (v : View) → is_on_drawn g n v ≡ true
  first_on_drawn a n edge v = if_drawn v _ (λ there. first_there a n edge v there)

  second_there : (a : Axis) (n : Cell) → is_edge full a n ≡ true → (v : View) → Shows drawing v → is_on_drawn g (cell_after a n) v ≡ true
  second_there a n edge v there = ⊎_elim {C = is_on_drawn g (cell_after a n) v ≡ true}
      (λ shows. ends_on_drawn v shows.0 a shows.1 there (cell_after a n) (ap (is_edge full a) (before_after a n) ∙ edge))
      (λ looks. seen_as_one g v a looks n ∙ first_there a n edge v there) (shows_or_looks_along v a)

  second_on_drawn : (a : Axis) (n : Cell) → is_edge full a n ≡ true → (v : View) → is_on_drawn g (cell_after a n) v ≡ true
  second_on_drawn a n edge v = if_drawn v _ (λ there. second_there a n edge v there)

  vertex : (n : Cell) → ((v : View) → is_on_drawn g n v ≡ true) → is_pseudo_vertex g n ≡ true
  vertex n on = and_from _ _ (on Front) (and_from _ _ (on Top) (on Side))

  drawn_or_point : (a : Axis) (n : Cell) → is_edge full a n ≡ true → (v : View) → is_drawn_or_point g a n v ≡ true
  drawn_or_point a n edge v = if_drawn v _ (λ there. or_right (not (is_drawn_view g v)) _ (and_from _ _ (each there false) (each there true)))
    where
      each : Shows drawing v → (upright : Bool) → (not (same_axis (axis_along v upright) a) || is_drawn_from g v upright n) ≡ true
      each there upright = by (same_axis (axis_along v upright) a) refl
        where
          by : (t : Bool) → same_axis (axis_along v upright) a ≡ t → (not (same_axis (axis_along v upright) a) || is_drawn_from g v upright n) ≡ true
          by true e = or_right (not (same_axis (axis_along v upright) a)) _ (drawn v upright a (same_axis-true _ _ e) there n edge)
          by false e = or_left (not (same_axis (axis_along v upright) a)) _ (not_from_false _ e)

  -- an edge of the solid is a pseudo edge
  pub edges_are_pseudo : (a : Axis) (n : Cell) → is_edge full a n ≡ true → is_pseudo_edge g a n ≡ true
  edges_are_pseudo a n edge =
      let shown = drawn_or_point a n edge in
      and_from _ _ (and_from _ _ (shown Front) (and_from _ _ (shown Top) (shown Side)))
      (and_from _ _ (vertex n (first_on_drawn a n edge)) (vertex (cell_after a n) (second_on_drawn a n edge)))
