-- The cut area draws what the solid of the chosen grid cells in the gap of the plane draws.
use Rattle.std.proofs.Common.{◌≡◌, Bool, true, false, ◌&&◌, ℕ, suc, ◌<◌, List, length, ℤ, pos, ◌-ℤ◌, ◌≤ℤ◌, ◌<ℤ◌, int_eq, refl, ap, sym, subst, ◌∙◌, arith}
use Rattle.std.proofs.lemmas.Bool.{both_ways, and_parts, and_from, false_from_ne_true}
use Rattle.std.proofs.lemmas.Bool.Decides.{Decides-int_eq}
use Rattle.std.proofs.lemmas.Int.{ints}
use Rattle.lemmas.specs.Lists.{Ascends}
use Rattle.lemmas.proofs.Lists.{member-filter, member-from_filter}
use Rattle.lemmas.proofs.Tests.{same_tests}
use Rattle.solid_model.specs.declared.cell.Axis.{Axis}
use Rattle.solid_model.specs.declared.cell.Cell.{Cell}
use Rattle.solid_model.specs.declared.frame.Frame.{Frame}
use Rattle.solid_model.specs.declared.segment.Segment.{Segment}
use Rattle.solid_model.specs.declared.segment.Style.{Style}
use Rattle.solid_model.specs.declared.segment.Style.TheVariants.{Blank, Solid}
use Rattle.solid_model.specs.Cells.{is_full}
use Rattle.solid_model.specs.Columns.{cell_in, column_at, column_after, column_before, IsFirstFull, HaveSameFirstFull}
use Rattle.solid_model.specs.Draws.{Draws}
use Rattle.solid_model.specs.Frames.{IsFrame, cell_on, point_on}
use Rattle.solid_model.specs.Grid.{Coordinates, is_in_gap, IsUnionOf}
use Rattle.solid_model.specs.PerAxis.{numbered}
use Rattle.solid_model.specs.Segments.{start_of, line_of}
use Rattle.solid_model.proofs.ColumnRule.{equal_columns, different_first}
use Rattle.solid_model.proofs.Fullness.{is_full-member, member-is_full}
use Rattle.solid_model.proofs.Gaps.{lies_in}
use Rattle.solid_model.proofs.Styles.{one_style}
use Rattle.solid_model.proofs.Views.{places_of_cell_in, cell_on_twice}
use Rattle.section_laws.specs.Sections.{is_cut, cut_area, visible_style}
use Rattle.section_laws.specs.Shaded.{AreSlab, IsCutGap}
use Rattle.section_laws.proofs.ShadedUnion.{near_end, near_end_there, nearest, comes_itself, gap_of, moved, numbers_within, in_chosen, steady_in, numbered_at}

-- The column c is full in a gap where a is full at q, which lies in it, and nowhere else; `near` is the nearest depth of the gap.
record FillsGap (near q : ℤ) (Inside : ℤ → Type 0) (a c : ℤ → Bool) : Type 0 where
  near_inside : Inside near
  nearest_inside : (k : ℤ) → Inside k → near ≤ℤ k
  from : (k : ℤ) → c k ≡ true → Inside k × (a q ≡ true)
  fills : (k : ℤ) → Inside k → a q ≡ true → c k ≡ true

module _ (f : Frame) (is : IsFrame f) (plane : ℤ) (s : List Cell) where
  abbrev area : List Cell
  area = cut_area f plane s

  abbrev q : ℤ
  q = point_on f.away plane

  abbrev touches : Cell → Bool
  touches = is_cut f plane

  pub full_area : (c : Cell) → is_full area c ≡ (touches c && is_full s c)
  full_area c = same_tests (is_full area c) (touches c && is_full s c)
      (λ e. let m = member-from_filter touches s c (is_full-member area c e) in and_from (touches c) (is_full s c) m.1 (member-is_full s c m.0))
      (λ e. let p = and_parts (touches c) (is_full s c) e in member-is_full area c (member-filter touches s c (is_full-member s c p.1) p.0))

  column_area : (g : Segment) (j k : ℤ) → column_at f (is_full area) g j k ≡ (int_eq q k && column_at f (is_full s) g j k)
  column_area g j k = full_area (cell_in f g.upright (start_of g) j k)
      ∙ ap (λ z. int_eq q z && is_full s (cell_in f g.upright (start_of g) j k)) (places_of_cell_in f is g.upright (start_of g) j k).away_is

  -- the area is full at the depth of the plane alone, where the solid is
  area_at : (g : Segment) (j k : ℤ) → column_at f (is_full area) g j k ≡ true → (q ≡ k) × (column_at f (is_full s) g j q ≡ true)
  area_at g j k e =
      let p = and_parts (int_eq q k) (column_at f (is_full s) g j k) (sym (column_area g j k) ∙ e) in
      let same = (Decides-int_eq q k).0 p.0 in
      (same, subst (λ z. column_at f (is_full s) g j z ≡ true) (sym same) p.1)

  area_full : (g : Segment) (j : ℤ) → column_at f (is_full s) g j q ≡ true → column_at f (is_full area) g j q ≡ true
  area_full g j e = column_area g j q ∙ and_from (int_eq q q) (column_at f (is_full s) g j q) ((Decides-int_eq q q).1 refl) e

  module _ (other : List Cell) (g : Segment) (near : ℤ) (Inside : ℤ → Type 0)
      (after : FillsGap near q Inside (column_after f (is_full s) g) (column_after f (is_full other) g))
      (before : FillsGap near q Inside (column_before f (is_full s) g) (column_before f (is_full other) g)) where
    abbrev a : Bool
    a = column_after f (is_full s) g q

    abbrev b : Bool
    b = column_before f (is_full s) g q

    -- where the solid is alike on both sides of the segment, both are blank
    both_blank : (a ≡ true → b ≡ true) → (b ≡ true → a ≡ true) → Draws f (is_full area) g Blank × Draws f (is_full other) g Blank
    both_blank to back = (
      equal_columns f is (is_full area) g (λ k. same_tests _ _
          (λ e. let p = area_at g (line_of g) k e in subst (λ z. column_before f (is_full area) g z ≡ true) p.0 (area_full g (line_of g -ℤ pos 1) (to p.1)))
          (λ e. let p = area_at g (line_of g -ℤ pos 1) k e in subst (λ z. column_after f (is_full area) g z ≡ true) p.0 (area_full g (line_of g) (back p.1)))),
      equal_columns f is (is_full other) g (λ k. same_tests _ _
          (λ e. let p = after.from k e in before.fills k p.0 (to p.1))
          (λ e. let p = before.from k e in after.fills k p.0 (back p.1))),
    )

    -- a column that is full at z, no nearer, and one that is never full
    apart : (x y : ℤ → Bool) (z : ℤ) → x z ≡ true → ((k : ℤ) → x k ≡ true → z ≤ℤ k) → ((k : ℤ) → y k ≡ true → ⊥) → HaveSameFirstFull x y → ⊥
    apart x y z full least never same =
        let first : IsFirstFull x z = (full, λ k l. false_from_ne_true (x k) (λ e. let m = least k e in omega (arith, ints))) in
        never z ((same z).0 first).0

    turned : (x y : ℤ → Bool) → HaveSameFirstFull x y → HaveSameFirstFull y x
    turned x y same = λ k. ((same k).1, (same k).0)

    -- where it is full on one side alone, both are solid
    both_solid : a ≡ true → b ≡ false → Draws f (is_full area) g Solid × Draws f (is_full other) g Solid
    both_solid full none = (
      different_first f is area g (apart (column_after f (is_full area) g) (column_before f (is_full area) g) q (area_full g (line_of g) full)
          (λ k e. let p = (area_at g (line_of g) k e).0 in omega (arith, ints)) (λ k e. both_ways b none (area_at g (line_of g -ℤ pos 1) k e).1)),
      different_first f is other g (apart (column_after f (is_full other) g) (column_before f (is_full other) g) near (after.fills near after.near_inside full)
          (λ k e. after.nearest_inside k (after.from k e).0) (λ k e. both_ways b none (before.from k e).1)),
    )

    both_solid_too : a ≡ false → b ≡ true → Draws f (is_full area) g Solid × Draws f (is_full other) g Solid
    both_solid_too none full = (
      different_first f is area g (λ same. apart (column_before f (is_full area) g) (column_after f (is_full area) g) q (area_full g (line_of g -ℤ pos 1) full)
          (λ k e. let p = (area_at g (line_of g -ℤ pos 1) k e).0 in omega (arith, ints)) (λ k e. both_ways a none (area_at g (line_of g) k e).1)
          (turned (column_after f (is_full area) g) (column_before f (is_full area) g) same)),
      different_first f is other g (λ same. apart (column_before f (is_full other) g) (column_after f (is_full other) g) near (before.fills near before.near_inside full)
          (λ k e. before.nearest_inside k (before.from k e).0) (λ k e. both_ways a none (after.from k e).1)
          (turned (column_after f (is_full other) g) (column_before f (is_full other) g) same)),
    )

    -- so neither has a hidden edge
    abbrev Drawn : Style → Type 0
    Drawn style = Draws f (is_full area) g style → Draws f (is_full other) g (visible_style style)

    one_of : (kind style : Style) → visible_style kind ≡ kind → Draws f (is_full area) g kind × Draws f (is_full other) g kind → Drawn style
    one_of kind style seen both drawn = subst (λ k. Draws f (is_full other) g (visible_style k)) (one_style f (is_full area) g kind style both.0 drawn)
        (subst (Draws f (is_full other) g) (sym seen) both.1)

    by_sides : (x y : Bool) → a ≡ x → b ≡ y → (style : Style) → Drawn style
    by_sides true true p r style = one_of Blank style refl (both_blank (λ e. r) (λ e. p))
    by_sides false false p r style = one_of Blank style refl (both_blank (λ e. absurd (both_ways a p e)) (λ e. absurd (both_ways b r e)))
    by_sides true false p r style = one_of Solid style refl (both_solid p r)
    by_sides false true p r style = one_of Solid style refl (both_solid_too p r)

    area_drawn_by : (style : Style) → Drawn style
    area_drawn_by = by_sides a b refl refl

module _ (f : Frame) (is : IsFrame f) (coordinates : Coordinates) (ascends : (a : Axis) → Ascends ◌<ℤ◌ (coordinates a))
    (chosen slab : List Bool) (gap : ℕ) (are : AreSlab f.away coordinates gap chosen slab) (s other : List Cell)
    (union : IsUnionOf coordinates chosen (is_full s)) (union_too : IsUnionOf coordinates slab (is_full other)) (plane : ℤ)
    (in_gap_here : IsCutGap f.away (coordinates f.away.axis) plane gap) where
  abbrev zs : List ℤ
  zs = coordinates f.away.axis

  abbrev Inside : ℤ → Type 0
  Inside k = is_in_gap zs gap (cell_on f.away k) ≡ true

  abbrev near_depth : ℤ
  near_depth = cell_on f.away (near_end f.away.forward zs gap)

  within : suc gap < length zs
  within = (lies_in zs gap (cell_on f.away (point_on f.away plane)) in_gap_here).within

  fills_gap : (g : Segment) (j : ℤ) → FillsGap near_depth (point_on f.away plane) Inside (column_at f (is_full s) g j) (column_at f (is_full other) g j)
  fills_gap g j = record {
    near_inside = subst (λ z. is_in_gap zs gap z ≡ true) (sym (cell_on_twice f.away (near_end f.away.forward zs gap)))
        (near_end_there zs (ascends f.away.axis) f.away.forward gap within);
    nearest_inside = λ k inside. nearest zs (ascends f.away.axis) f.away.forward gap gap k within inside (comes_itself f.away.forward gap);
    from = λ k e.
        let lit = in_chosen f is coordinates ascends g j slab other union_too k e in
        let told = (are lit.number (numbers_within f is coordinates ascends g j lit.number _ lit.lies)).0 lit.chosen_there in
        let inside = subst (λ m. is_in_gap zs m (cell_on f.away k) ≡ true) told.0 (gap_of f is coordinates ascends g j lit.number k lit.lies) in (
          inside,
          steady_in f is coordinates ascends g j chosen s union gap k (point_on f.away plane) inside in_gap_here
              (union.inside lit.number _ lit.lies ∙ told.1),
        );
    fills = λ k inside e.
        let full = steady_in f is coordinates ascends g j chosen s union gap (point_on f.away plane) k in_gap_here inside e in
        let lit = in_chosen f is coordinates ascends g j chosen s union k full in
        let lies = moved f is coordinates ascends g j lit.number gap k k lit.lies inside in
        union_too.inside (numbered f.away.axis gap lit.number) _ lies
        ∙ (are (numbered f.away.axis gap lit.number) (numbers_within f is coordinates ascends g j (numbered f.away.axis gap lit.number) _ lies)).1
        (numbered_at f.away.axis gap lit.number, sym (union.inside (numbered f.away.axis gap lit.number) _ lies) ∙ full);
  }

  pub area_drawn : (g : Segment) (style : Style) → Draws f (is_full (cut_area f plane s)) g style → Draws f (is_full other) g (visible_style style)
  area_drawn g style = area_drawn_by f is plane s other g near_depth Inside (fills_gap g (line_of g)) (fills_gap g (line_of g -ℤ pos 1)) style
