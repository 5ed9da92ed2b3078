-- What a cut solid draws, hidden edges left out, is what a solid draws whose columns are its own, cut and filled.
use Rattle.std.proofs.Common.{◌≡◌, ◌≢◌, Bool, true, false, ◌&&◌, List, ℤ, pos, ◌-ℤ◌, int_le, refl, ap, sym, subst, ◌∙◌}
use Rattle.std.proofs.lemmas.Bool.{false≢true, and_parts, and_from}
use Rattle.lemmas.proofs.Lists.{member-filter, member-from_filter}
use Rattle.lemmas.proofs.Tests.{same_tests}
use Rattle.solid_model.specs.declared.cell.Cell.{Cell}
use Rattle.solid_model.specs.declared.frame.Frame.{Frame}
use Rattle.solid_model.specs.declared.segment.Segment.{Segment}
use Rattle.solid_model.specs.declared.segment.Style.{Style}
use Rattle.solid_model.specs.declared.segment.Style.TheVariants.{Blank, Dashed, Solid}
use Rattle.solid_model.specs.Cells.{is_full}
use Rattle.solid_model.specs.Columns.{cell_in, column_at, column_after, column_before, HaveSameFirstFull}
use Rattle.solid_model.specs.Draws.{Draws}
use Rattle.solid_model.specs.Frames.{IsFrame, point_on}
use Rattle.solid_model.specs.Segments.{start_of, line_of}
use Rattle.solid_model.proofs.ColumnRule.{equal_columns, same_first, different_first}
use Rattle.solid_model.proofs.Fullness.{is_full-member, member-is_full}
use Rattle.solid_model.proofs.Styles.{one_style}
use Rattle.solid_model.proofs.Views.{places_of_cell_in}
use Rattle.section_laws.specs.Sections.{is_behind, rest_behind, visible_style}
use Rattle.section_laws.proofs.ShadedColumns.{cut_at, Shades, same_shaded, same_cut}

-- truth values that don't differ are one
not_apart : (x y : Bool) → (x ≢ y → ⊥) → x ≡ y
not_apart true true h = refl
not_apart true false h = absurd (h (λ e. false≢true (sym e)))
not_apart false true h = absurd (h false≢true)
not_apart false false h = refl

blank_not_solid : Blank ≢ Solid
blank_not_solid e = cc

dashed_not_solid : Dashed ≢ Solid
dashed_not_solid e = cc

module _ (f : Frame) (is : IsFrame f) (plane : ℤ) (s : List Cell) where
  abbrev cut : List Cell
  cut = rest_behind f plane s

  -- a cell of what is left is one of the solid's, behind the plane
  pub full_cut : (c : Cell) → is_full cut c ≡ (is_behind f plane c && is_full s c)
  full_cut c = same_tests (is_full cut c) (is_behind f plane c && is_full s c)
      (λ e. let m = member-from_filter (is_behind f plane) s c (is_full-member cut c e) in and_from (is_behind f plane c) (is_full s c) m.1 (member-is_full s c m.0))
      (λ e. let p = and_parts (is_behind f plane c) (is_full s c) e in member-is_full cut c (member-filter (is_behind f plane) s c (is_full-member s c p.1) p.0))

  -- its columns are the solid's, cut at the depth of the plane
  pub column_cut : (g : Segment) (j k : ℤ) → column_at f (is_full cut) g j k ≡ cut_at (point_on f.away plane) (column_at f (is_full s) g j) k
  column_cut g j k = full_cut (cell_in f g.upright (start_of g) j k)
      ∙ ap (λ z. int_le (point_on f.away plane) z && is_full s (cell_in f g.upright (start_of g) j k)) (places_of_cell_in f is g.upright (start_of g) j k).away_is

  module _ (other : List Cell) (g : Segment) (near : ℤ) (There : ℤ → Type 0)
      (after : Shades near (point_on f.away plane) There (column_after f (is_full s) g) (column_after f (is_full other) g))
      (before : Shades near (point_on f.away plane) There (column_before f (is_full s) g) (column_before f (is_full other) g)) where
    abbrev q : ℤ
    q = point_on f.away plane

    abbrev a : ℤ → Bool
    a = column_after f (is_full s) g

    abbrev b : ℤ → Bool
    b = column_before f (is_full s) g

    abbrev c : ℤ → Bool
    c = column_after f (is_full other) g

    abbrev d : ℤ → Bool
    d = column_before f (is_full other) g

    cut_after : column_after f (is_full cut) g ≡ cut_at q a
    cut_after = λ t k. column_cut g (line_of g) k t

    cut_before : column_before f (is_full cut) g ≡ cut_at q b
    cut_before = λ t k. column_cut g (line_of g -ℤ pos 1) k t

    to_cut : HaveSameFirstFull (column_after f (is_full cut) g) (column_before f (is_full cut) g) → HaveSameFirstFull (cut_at q a) (cut_at q b)
    to_cut same = subst (λ y. HaveSameFirstFull (cut_at q a) y) cut_before (subst (λ x. HaveSameFirstFull x (column_before f (is_full cut) g)) cut_after same)

    from_cut : HaveSameFirstFull (cut_at q a) (cut_at q b) → HaveSameFirstFull (column_after f (is_full cut) g) (column_before f (is_full cut) g)
    from_cut same = subst (λ y. HaveSameFirstFull (column_after f (is_full cut) g) y) (sym cut_before) (subst (λ x. HaveSameFirstFull x (cut_at q b)) (sym cut_after) same)

    turned : (x y : ℤ → Bool) → HaveSameFirstFull x y → HaveSameFirstFull y x
    turned x y same = λ k. ((same k).1, (same k).0)

    -- where the cut columns have one first full depth, the filled ones are equal
    equal_shaded : HaveSameFirstFull (cut_at q a) (cut_at q b) → (k : ℤ) → c k ≡ d k
    equal_shaded same k = same_tests (c k) (d k) (same_shaded near q There a b c d after before same k)
        (same_shaded near q There b a d c before after (turned (cut_at q a) (cut_at q b) same) k)

    -- and where the filled ones have one, the cut ones do
    cut_alike : HaveSameFirstFull c d → HaveSameFirstFull (cut_at q a) (cut_at q b)
    cut_alike same = λ m. (same_cut near q There a b c d after before same m, same_cut near q There b a d c before after (turned c d same) m)

    -- what isn't solid on the cut solid is blank on the filled one
    blank_there : (Draws f (is_full cut) g Solid → ⊥) → Draws f (is_full other) g Blank
    blank_there none k edge = none (different_first f is cut g (λ same. equal_columns f is (is_full other) g (equal_shaded (to_cut same)) k edge))

    -- what is solid has different first full depths
    solid_differs : Draws f (is_full cut) g Solid → HaveSameFirstFull (cut_at q a) (cut_at q b) → ⊥
    solid_differs solid same =
        blank_not_solid (one_style f (is_full cut) g Blank Solid (equal_columns f is (is_full cut) g (λ k. not_apart _ _ (λ differ.
        dashed_not_solid (one_style f (is_full cut) g Dashed Solid (same_first f is cut g k differ (from_cut same)) solid)))) solid)

    -- so the filled solid draws what is seen of the cut one
    pub seen_drawn : (style : Style) → Draws f (is_full cut) g style → Draws f (is_full other) g (visible_style style)
    seen_drawn Blank drawn = blank_there (λ solid. blank_not_solid (one_style f (is_full cut) g Blank Solid drawn solid))
    seen_drawn Dashed drawn = blank_there (λ solid. dashed_not_solid (one_style f (is_full cut) g Dashed Solid drawn solid))
    seen_drawn Solid drawn = different_first f is other g (λ same. solid_differs drawn (cut_alike same))
