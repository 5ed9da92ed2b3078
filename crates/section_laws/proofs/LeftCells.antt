-- What a plane leaves of a union of grid cells, told by the first gap behind it.
use Rattle.std.proofs.Common.{◌≡◌, ◌⊎◌, inl, inr, Bool, true, false, ℕ, suc, ◌<◌, List, length, Option, Some, ℤ, pos, neg_ℤ, ◌-ℤ◌, ◌<ℤ◌, int_le, int_eq, if◌then◌else◌, refl, sym, subst, ◌∙◌, arith}
use Rattle.std.specs.Prelude.{IfSome, IsTrue}
use Rattle.std.proofs.lemmas.Bool.{both_ways, and_parts, and_from, false_from_ne_true}
use Rattle.std.proofs.lemmas.Bool.Decides.{Decides-int_eq}
use Rattle.std.proofs.lemmas.Int.{ints}
use Rattle.lemmas.specs.Lists.{Ascends}
use Rattle.lemmas.proofs.Tests.{same_tests}
use Rattle.solid_model.specs.declared.cell.Axis.{Axis}
use Rattle.solid_model.specs.declared.cell.Cell.{Cell}
use Rattle.solid_model.specs.declared.frame.Frame.{Frame}
use Rattle.solid_model.specs.Cells.{coordinate, is_full}
use Rattle.solid_model.specs.Draws.{Draws}
use Rattle.solid_model.specs.Frames.{IsFrame}
use Rattle.solid_model.specs.Grid.{Coordinates, GridCell, LiesInGridCell, LiesInGrid, is_in_gap, IsInSomeGap, IsUnionOf}
use Rattle.solid_model.proofs.Gaps.{lies_in}
use Rattle.solid_model.proofs.UnionDrawing.{in_grid_or_not}
use Rattle.section_laws.specs.CutGaps.{EndsBehind, IsFirstGap, ReachesPlane}
use Rattle.section_laws.specs.LeftCells.{DrawsWhatIsLeft, LeavesNothing}
use Rattle.section_laws.specs.Sections.{is_behind, is_cut, rest_behind}
use Rattle.section_laws.specs.Shaded.{AreShaded, AreSlab, AreLeftCells, IsCutGap}
use Rattle.section_laws.proofs.AreaDrawing.{area_drawn, full_area}
use Rattle.section_laws.proofs.CutDrawing.{full_cut}
use Rattle.section_laws.proofs.CutGaps.{StandsBehind, cell_behind, behind_ends, reached_there, CutsAlike, cuts_alike, touches_none}
use Rattle.section_laws.proofs.SectionDrawing.{section_drawn}

-- ---- depths along the sight, and coordinates

to_stands : (forward : Bool) (plane z : ℤ) → int_le (if forward then plane else neg_ℤ plane) (if forward then z else (neg_ℤ z -ℤ pos 1)) ≡ true → StandsBehind forward plane z
to_stands true plane z e = omega (arith, ints, e)
to_stands false plane z e = omega (arith, ints, e)

from_stands : (forward : Bool) (plane z : ℤ) → StandsBehind forward plane z → int_le (if forward then plane else neg_ℤ plane) (if forward then z else (neg_ℤ z -ℤ pos 1)) ≡ true
from_stands true plane z l = grind (arith, ints)
from_stands false plane z l = grind (arith, ints)

touched : (forward : Bool) (plane z : ℤ) → int_eq (if forward then plane else neg_ℤ plane) (if forward then z else (neg_ℤ z -ℤ pos 1)) ≡ true → z ≡ cell_behind forward plane
touched true plane z e = sym ((Decides-int_eq plane z).0 e)
touched false plane z e = omega (arith, ints, (Decides-int_eq (neg_ℤ plane) (neg_ℤ z -ℤ pos 1)).0 e)

cell_of_plane : (forward : Bool) (plane : ℤ) → (if forward then (if forward then plane else neg_ℤ plane) else (neg_ℤ (if forward then plane else neg_ℤ plane) -ℤ pos 1)) ≡ cell_behind forward plane
cell_of_plane true plane = refl
cell_of_plane false plane = omega (arith, ints)

-- ---- what calls tell of a grid's coordinates

pub none_in : (forward : Bool) (xs zs : List ℤ) (plane : ℤ) → xs ≡ zs → ((m : ℕ) → suc m < length xs → EndsBehind forward xs plane m → ⊥)
    → (m : ℕ) → suc m < length zs → EndsBehind forward zs plane m → ⊥
none_in forward xs zs plane same none = subst (λ (ys : List ℤ). (m : ℕ) → suc m < length ys → EndsBehind forward ys plane m → ⊥) same none

pub first_in : (forward : Bool) (xs zs : List ℤ) (plane : ℤ) (found : Option ℕ) (n : ℕ) → xs ≡ zs → found ≡ Some n → IfSome found (IsFirstGap forward xs plane)
    → IsFirstGap forward zs plane n
first_in forward xs zs plane found n same is some =
    subst (λ (ys : List ℤ). IsFirstGap forward ys plane n) same (subst (λ (o : Option ℕ). IfSome o (IsFirstGap forward xs plane)) is some)

module _ (f : Frame) (is : IsFrame f) (coordinates : Coordinates) (ascends : (a : Axis) → Ascends ◌<ℤ◌ (coordinates a)) (chosen : List Bool) (plane : ℤ) where
  abbrev zs : List ℤ
  zs = coordinates f.away.axis

  abbrev forward : Bool
  forward = f.away.forward

  abbrev depth_axis : Cell → ℤ
  depth_axis c = coordinate f.away.axis c

  -- a full cell lies in a gap across the sight
  gap_of_full : (s : List Cell) → IsUnionOf coordinates chosen (is_full s) → (c : Cell) → is_full s c ≡ true → IsInSomeGap zs (depth_axis c)
  gap_of_full s union c full = by (in_grid_or_not coordinates ascends c)
    where
      by : ((n : GridCell) × LiesInGridCell coordinates n c) ⊎ (LiesInGrid coordinates c → ⊥) → IsInSomeGap zs (depth_axis c)
      by (inl at) = (at.0 f.away.axis, at.1 f.away.axis)
      by (inr none) = absurd (both_ways (is_full s c) (union.outside c none) full)

  in_gap_there : (q : ℤ) (n : ℕ) → is_in_gap zs n (cell_behind forward q) ≡ true → IsCutGap f.away zs q n
  in_gap_there q n inside = subst (λ z. is_in_gap zs n z ≡ true) (sym (cell_of_plane forward q)) inside

  -- ---- no gap ends behind the plane

  module _ (none : (m : ℕ) → suc m < length zs → EndsBehind forward zs plane m → ⊥) where
    none_behind : (z : ℤ) → IsInSomeGap zs z → StandsBehind forward plane z → ⊥
    none_behind z inside stands = none inside.0 (lies_in zs inside.0 z inside.1).within (behind_ends zs ascends_here forward plane z inside.0 inside.1 stands)
      where
        ascends_here : Ascends ◌<ℤ◌ zs
        ascends_here = ascends f.away.axis

    no_rest : LeavesNothing f coordinates chosen plane false
    no_rest s union c = false_from_ne_true _ (λ e.
        let p = and_parts (is_behind f plane c) (is_full s c) (sym (full_cut f is plane s c) ∙ e) in
        none_behind (depth_axis c) (gap_of_full s union c p.1) (to_stands forward plane (depth_axis c) p.0))

    no_area : LeavesNothing f coordinates chosen plane true
    no_area s union c = false_from_ne_true _ (λ e.
        let p = and_parts (is_cut f plane c) (is_full s c) (sym (full_area f is plane s c) ∙ e) in
        none_behind (depth_axis c) (gap_of_full s union c p.1) (subst (StandsBehind forward plane) (sym (touched forward plane (depth_axis c) p.0)) (touches_stands forward plane)))
      where
        touches_stands : (forward : Bool) (plane : ℤ) → StandsBehind forward plane (cell_behind forward plane)
        touches_stands true plane = omega (arith, ints)
        touches_stands false plane = omega (arith, ints)

    -- so nothing is left of either kind
    pub nothing_left : (area : Bool) → LeavesNothing f coordinates chosen plane area
    nothing_left true = no_area
    nothing_left false = no_rest

  -- ---- the first one that does

  module _ (n : ℕ) (first : IsFirstGap forward zs plane n) where
    shaded_draw : (shaded : List Bool) → AreShaded f.away coordinates n chosen shaded → DrawsWhatIsLeft f coordinates chosen plane false shaded
    shaded_draw shaded are s other union union_too g style drawn =
        section_drawn f is coordinates ascends chosen shaded n are s other union union_too alike.other (in_gap_there alike.other n alike.there) g style
        (subst (λ (full : Cell → Bool). Draws f full g style) (λ t c. same_rest c t) drawn)
      where
        alike : CutsAlike zs (ascends f.away.axis) forward plane n
        alike = cuts_alike zs (ascends f.away.axis) forward plane n first

        -- the same is left behind either plane
        to : (p q : ℤ) → ((z : ℤ) (m : ℕ) → is_in_gap zs m z ≡ true → StandsBehind forward p z → StandsBehind forward q z)
            → (c : Cell) → is_full (rest_behind f p s) c ≡ true → is_full (rest_behind f q s) c ≡ true
        to p q moves c e =
            let both = and_parts (is_behind f p c) (is_full s c) (sym (full_cut f is p s c) ∙ e) in
            let inside = gap_of_full s union c both.1 in
            full_cut f is q s c ∙ and_from (is_behind f q c) (is_full s c)
            (from_stands forward q (depth_axis c) (moves (depth_axis c) inside.0 inside.1 (to_stands forward p (depth_axis c) both.0))) both.1

        same_rest : (c : Cell) → is_full (rest_behind f plane s) c ≡ is_full (rest_behind f alike.other s) c
        same_rest c = same_tests _ _ (to plane alike.other alike.behind c) (to alike.other plane alike.back c)

    slab_draws : ReachesPlane forward zs plane n → (slab : List Bool) → AreSlab f.away coordinates n chosen slab → DrawsWhatIsLeft f coordinates chosen plane true slab
    slab_draws near slab are s other union union_too g style =
        area_drawn f is coordinates ascends chosen slab n are s other union union_too plane
        (in_gap_there plane n (reached_there zs (ascends f.away.axis) forward plane n first near)) g style

    none_cut : (ReachesPlane forward zs plane n → ⊥) → LeavesNothing f coordinates chosen plane true
    none_cut begins s union c = false_from_ne_true _ (λ e.
        let p = and_parts (is_cut f plane c) (is_full s c) (sym (full_area f is plane s c) ∙ e) in
        let inside = gap_of_full s union c p.1 in
        touches_none zs (ascends f.away.axis) forward plane n inside.0 first begins
        (subst (λ z. is_in_gap zs inside.0 z ≡ true) (touched forward plane (depth_axis c) p.0) inside.1))

    -- what is kept draws what is left of either kind, where the gap holds something of it; and else nothing is left
    pub kept_draw : (area : Bool) → (IsTrue area → ReachesPlane forward zs plane n) → (kept : List Bool) → AreLeftCells area f.away coordinates n chosen kept
        → DrawsWhatIsLeft f coordinates chosen plane area kept
    kept_draw true holds = slab_draws (holds refl)
    kept_draw false holds = shaded_draw

    pub none_kept : (area : Bool) → ((IsTrue area → ReachesPlane forward zs plane n) → ⊥) → LeavesNothing f coordinates chosen plane area
    none_kept true none = none_cut (λ reaches. none (λ _. reaches))
    none_kept false none = absurd (none (λ e. cc))
