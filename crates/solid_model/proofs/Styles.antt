-- The styles that a solid draws: each segment has exactly one, it can be computed, and the list's order doesn't matter.
use Rattle.std.proofs.Common.{◌≡◌, ◌≢◌, ◌⊎◌, inl, inr, ⊎_elim, Bool, true, false, not, ◌&&◌, List, [], ◌∷◌, ℤ, pos, ◌+ℤ◌, ◌-ℤ◌, int_lt, IsTrue, if◌then◌else◌, Decides, refl, ap, sym, subst, ◌∙◌, arith}
use Rattle.std.specs.List.{list_any}
use Rattle.std.proofs.lemmas.Bool.{false≢true, both_ways, and_parts, and_from, or_cases, or_left, or_right, not-true, not_from_false, true_from_ne_false}
use Rattle.std.proofs.lemmas.Int.{ints}
use Rattle.solid_model.specs.declared.cell.Cell.{Cell}
use Rattle.solid_model.specs.declared.frame.Frame.{Frame}
use Rattle.solid_model.specs.declared.segment.Segment.{Segment}
use Rattle.solid_model.specs.declared.segment.Style.{Style}
use Rattle.solid_model.specs.declared.segment.Style.TheVariants.{Blank, Dashed, Solid}
use Rattle.solid_model.specs.Boxes.{place_of}
use Rattle.solid_model.specs.Cells.{is_full}
use Rattle.solid_model.specs.Columns.{cell_in, column_at, column_after, column_before}
use Rattle.solid_model.specs.Draws.{has_edge, is_inside, IsHidden, Draws}
use Rattle.solid_model.specs.DrawnStyle.{cell_depths, side_depths, hides, is_hidden, is_seen, drawn_style}
use Rattle.solid_model.specs.Edges.{is_edge_of}
use Rattle.solid_model.specs.Frames.{IsFrame, along, across}
use Rattle.lemmas.specs.Lists.{Member}
use Rattle.solid_model.specs.Segments.{start_of, line_of}
use Rattle.solid_model.proofs.Fullness.{is_full-member}
use Rattle.lemmas.proofs.Lists.{member-append_left, member-append_right, member-map}
use Rattle.solid_model.proofs.Views.{has_edge_is, places_of_cell_in}

-- ---- a test that some member of a list passes

-- where the test of all passes, a member passes
pub passing_member : {A : Type 0} (p : A → Bool) (xs : List A) → list_any p xs ≡ true → (x : A) × Member xs x × (p x ≡ true)
passing_member p [] e = absurd (false≢true e)
passing_member {A} p (x ∷ xs) e = ⊎_elim {C = (y : A) × Member (x ∷ xs) y × (p y ≡ true)} (λ h. (x, inl refl, h))
    (λ h. let m = passing_member p xs h in (m.0, inr m.1, m.2)) (or_cases (p x) (list_any p xs) e)

-- where a member passes, the test of all passes
pub any_from_member : {A : Type 0} (p : A → Bool) (xs : List A) (x : A) → Member xs x → p x ≡ true → list_any p xs ≡ true
any_from_member p [] x k e = absurd k
any_from_member p (y ∷ xs) x (inl h) e = or_left (p y) (list_any p xs) (ap p h ∙ e)
any_from_member p (y ∷ xs) x (inr k) e = or_right (p y) (list_any p xs) (any_from_member p xs x k e)

-- ---- one style

-- round an edge at least one cell is full
pub full_beside_edge : (a b c d : Bool) → is_edge_of a b c d ≡ true → ((a ≡ true) ⊎ (b ≡ true)) ⊎ ((c ≡ true) ⊎ (d ≡ true))
full_beside_edge true b c d e = inl (inl refl)
full_beside_edge false true c d e = inl (inr refl)
full_beside_edge false false true d e = inr (inl refl)
full_beside_edge false false false true e = inr (inr refl)
full_beside_edge false false false false e = absurd (false≢true e)

module _ (f : Frame) (full : Cell → Bool) (g : Segment) where
  -- two different styles aren't both drawn
  not_both : Draws f full g Blank → (k : ℤ) × IsTrue (has_edge f full g k) → ⊥
  not_both blank edge = blank edge.0 edge.1

  -- a solid and a dashed style aren't both drawn
  not_hidden_and_seen : Draws f full g Dashed → Draws f full g Solid → ⊥
  not_hidden_and_seen dashed solid = solid.2 (dashed.1 solid.0 solid.1)

  -- a segment has no two styles
  pub one_style : (a b : Style) → Draws f full g a → Draws f full g b → a ≡ b
  one_style Blank Blank h k = refl
  one_style Blank Dashed h k = absurd (not_both h k.0)
  one_style Blank Solid h k = absurd (not_both h (k.0, k.1))
  one_style Dashed Blank h k = absurd (not_both k h.0)
  one_style Dashed Dashed h k = refl
  one_style Dashed Solid h k = absurd (not_hidden_and_seen h k)
  one_style Solid Blank h k = absurd (not_both k (h.0, h.1))
  one_style Solid Dashed h k = absurd (not_hidden_and_seen k h)
  one_style Solid Solid h k = refl

  -- a segment on which an edge projects isn't blank
  pub edge_not_blank : (style : Style) → Draws f full g style → (k : ℤ) → IsTrue (has_edge f full g k) → style ≢ Blank
  edge_not_blank style d k e blank = (subst (Draws f full g) blank d) k e

  -- on a segment that isn't blank an edge projects
  pub edge_from_drawn : (style : Style) → Draws f full g style → style ≢ Blank → (k : ℤ) × IsTrue (has_edge f full g k)
  edge_from_drawn Blank d drawn = absurd (drawn refl)
  edge_from_drawn Dashed d drawn = d.0
  edge_from_drawn Solid d drawn = (d.0, d.1)

-- solids with the same full cells draw the same
pub same_drawing : (f : Frame) (full other : Cell → Bool) → ((c : Cell) → full c ≡ other c) → (g : Segment) (style : Style) → Draws f full g style → Draws f other g style
same_drawing f full other same g style d = subst (λ x. Draws f x g style) (λ t c. same c t) d

-- ---- cells beside a drawn segment

module _ (f : Frame) (is : IsFrame f) (full : Cell → Bool) (g : Segment) where
  -- a full cell beside the segment: on its stretch, on its line or just before
  pub record HasCellBeside : Type 0 where
    pub cell : Cell
    pub is_full : IsTrue (full cell)
    pub on_stretch : place_of (along f g.upright) cell ≡ start_of g
    pub at_line : (place_of (across f g.upright) cell ≡ line_of g) ⊎ (place_of (across f g.upright) cell ≡ line_of g -ℤ pos 1)

  cell_beside : (j k : ℤ) → (j ≡ line_of g) ⊎ (j ≡ line_of g -ℤ pos 1) → column_at f full g j k ≡ true → HasCellBeside
  cell_beside j k on e =
      let at = places_of_cell_in f is g.upright (start_of g) j k in
      record {
        cell = cell_in f g.upright (start_of g) j k;
        is_full = e;
        on_stretch = at.along_is;
        at_line = ⊎_elim (λ h. inl (at.across_is ∙ h)) (λ h. inr (at.across_is ∙ h)) on;
      }

  -- beside a segment that isn't blank a cell is full
  pub cell_beside_drawn : (style : Style) → Draws f full g style → style ≢ Blank → HasCellBeside
  cell_beside_drawn style d drawn =
      let edge = edge_from_drawn f full g style d drawn in
      let k = edge.0 in
      let C : Type 0 = HasCellBeside in
      ⊎_elim {C = C}
      (⊎_elim {C = C} (cell_beside (line_of g) k (inl refl)) (cell_beside (line_of g -ℤ pos 1) k (inr refl)))
      (⊎_elim {C = C} (cell_beside (line_of g) (k -ℤ pos 1) (inl refl)) (cell_beside (line_of g -ℤ pos 1) (k -ℤ pos 1) (inr refl)))
      (full_beside_edge _ _ _ _ (sym (has_edge_is f is full g k) ∙ edge.1))

-- ---- what a style rests on

module _ (f : Frame) (is : IsFrame f) (full : Cell → Bool) (g h : Segment)
    (same_after : (k : ℤ) → column_after f full g k ≡ column_after f full h k) (same_before : (k : ℤ) → column_before f full g k ≡ column_before f full h k) where
  same_edges : (k : ℤ) → has_edge f full g k ≡ has_edge f full h k
  same_edges k = has_edge_is f is full g k
      ∙ (λ t. is_edge_of (same_after k t) (same_before k t) (same_after (k -ℤ pos 1) t) (same_before (k -ℤ pos 1) t))
      ∙ sym (has_edge_is f is full h k)

  same_inside : (k : ℤ) → is_inside f full g k ≡ is_inside f full h k
  same_inside k = λ t. same_after k t && same_before k t

  -- segments with the same two columns beside them have the same style
  pub same_columns : (style : Style) → Draws f full g style → Draws f full h style
  same_columns Blank d = λ k e. d k (same_edges k ∙ e)
  same_columns Dashed d =
      ((d.0.0, sym (same_edges d.0.0) ∙ d.0.1), λ k e. let hidden = d.1 k (same_edges k ∙ e) in (hidden.0, hidden.1, sym (same_inside hidden.0) ∙ hidden.2))
  same_columns Solid d = (d.0, sym (same_edges d.0) ∙ d.1, λ hidden. d.2 (hidden.0, hidden.1, same_inside hidden.0 ∙ hidden.2))

-- ---- the computed style is drawn

module _ (f : Frame) (is : IsFrame f) (s : List Cell) (g : Segment) where
  -- the depth of a full cell beside the sight line is a depth of the solid's cells
  pub full_at_cell_depth : (j k : ℤ) → column_at f (is_full s) g j k ≡ true → Member (cell_depths f s) k
  full_at_cell_depth j k e =
      let c : Cell = cell_in f g.upright (start_of g) j k in
      let at = (places_of_cell_in f is g.upright (start_of g) j k).away_is in
      subst (Member (cell_depths f s)) at (member-map (place_of f.away) s c (is_full-member s c e))

  -- a depth inside the solid is a depth of its cells
  inside_at_cell_depth : (k : ℤ) → is_inside f (is_full s) g k ≡ true → Member (cell_depths f s) k
  inside_at_cell_depth k e = full_at_cell_depth (line_of g) k (and_parts _ _ e).0

  -- a near side of a cell
  near_side : (j k : ℤ) → column_at f (is_full s) g j k ≡ true → Member (side_depths f s) k
  near_side j k e = member-append_left _ _ k (full_at_cell_depth j k e)

  -- a far side of a cell
  far_side : (j k : ℤ) → column_at f (is_full s) g j (k -ℤ pos 1) ≡ true → Member (side_depths f s) k
  far_side j k e =
      let back : (k -ℤ pos 1) +ℤ pos 1 ≡ k = omega (arith, ints) in
      let depth = full_at_cell_depth j (k -ℤ pos 1) e in
      member-append_right (cell_depths f s) _ k (subst (Member _) back (member-map (λ n. n +ℤ pos 1) (cell_depths f s) (k -ℤ pos 1) depth))

  -- an edge stands at the near or the far side of a cell
  edge_at_side_depth : (k : ℤ) → has_edge f (is_full s) g k ≡ true → Member (side_depths f s) k
  edge_at_side_depth k e =
      let C : Type 0 = Member (side_depths f s) k in
      ⊎_elim {C = C} (⊎_elim {C = C} (near_side (line_of g) k) (near_side (line_of g -ℤ pos 1) k))
      (⊎_elim {C = C} (far_side (line_of g) k) (far_side (line_of g -ℤ pos 1) k))
      (full_beside_edge _ _ _ _ (sym (has_edge_is f is (is_full s) g k) ∙ e))

  -- the test for a hidden edge is right
  Decides-is_hidden : (k : ℤ) → Decides (is_hidden f s g k) (IsHidden f (is_full s) g k)
  Decides-is_hidden k = (λ e. there (passing_member (hides f s g k) (cell_depths f s) e), back)
    where
      there : (n : ℤ) × Member (cell_depths f s) n × (hides f s g k n ≡ true) → IsHidden f (is_full s) g k
      there h = let parts = and_parts (int_lt h.0 k) (is_inside f (is_full s) g h.0) h.2 in (h.0, omega (arith, ints, parts.0), parts.1)

      back : IsHidden f (is_full s) g k → is_hidden f s g k ≡ true
      back h = any_from_member (hides f s g k) (cell_depths f s) h.0 (inside_at_cell_depth h.0 h.2)
          (and_from (int_lt h.0 k) (is_inside f (is_full s) g h.0) (let nearer = h.1 in grind (arith, ints)) h.2)

  -- an edge that isn't hidden is seen
  seen_from : (k : ℤ) → has_edge f (is_full s) g k ≡ true → is_hidden f s g k ≡ false → is_seen f s g k ≡ true
  seen_from k e h = and_from (has_edge f (is_full s) g k) (not (is_hidden f s g k)) e (not_from_false (is_hidden f s g k) h)

  -- where no edge is seen, each is hidden
  all_hidden : list_any (is_seen f s g) (side_depths f s) ≡ false → (k : ℤ) → has_edge f (is_full s) g k ≡ true → IsHidden f (is_full s) g k
  all_hidden none k e = (Decides-is_hidden k).0 (true_from_ne_false (is_hidden f s g k) (λ h.
      both_ways (list_any (is_seen f s g) (side_depths f s)) none
      (any_from_member (is_seen f s g) (side_depths f s) k (edge_at_side_depth k e) (seen_from k e h))))

  -- what is seen of a segment settles its style
  style_by : (seen some : Bool) → list_any (is_seen f s g) (side_depths f s) ≡ seen → list_any (has_edge f (is_full s) g) (side_depths f s) ≡ some
      → Draws f (is_full s) g (if seen then Solid else (if some then Dashed else Blank))
  style_by true some p q =
      let m = passing_member (is_seen f s g) (side_depths f s) p in
      let parts = and_parts (has_edge f (is_full s) g m.0) (not (is_hidden f s g m.0)) m.2 in
      (m.0, parts.0, λ h. both_ways (is_hidden f s g m.0) (not-true (is_hidden f s g m.0) parts.1) ((Decides-is_hidden m.0).1 h))
  style_by false true p q =
      let m = passing_member (has_edge f (is_full s) g) (side_depths f s) q in
      ((m.0, m.2), λ k e. all_hidden p k e)
  style_by false false p q = λ k e.
      both_ways (list_any (has_edge f (is_full s) g) (side_depths f s)) q
      (any_from_member (has_edge f (is_full s) g) (side_depths f s) k (edge_at_side_depth k e) e)

  -- the computed style is drawn
  pub drawn_style_drawn : Draws f (is_full s) g (drawn_style f s g)
  drawn_style_drawn = style_by _ _ refl refl
