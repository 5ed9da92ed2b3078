-- Where a drawing stays on a grid, its grid coordinates are some of the grid's.
use Rattle.std.proofs.Common.{◌≡◌, ◌⊎◌, ⊎_elim, inl, inr, Bool, true, false, List, ℤ, pos, ◌-ℤ◌, ◌<ℤ◌, sym, subst, ◌∙◌}
use Rattle.solid_model.specs.declared.cell.Axis.{Axis}
use Rattle.solid_model.specs.declared.frame.View.{View}
use Rattle.solid_model.specs.declared.segment.Segment.{Segment}
use Rattle.solid_model.specs.declared.segment.Style.{Style}
use Rattle.solid_model.specs.Frames.{frame_of, along}
use Rattle.solid_model.specs.Grid.{Coordinates, IsDrawnAcross, ChangesAt, IsGridCoordinate, IsInSomeGap}
use Rattle.lemmas.specs.Lists.{Member, Ascends}
use Rattle.solid_model.specs.Segments.{segment_at}
use Rattle.solid_model.proofs.InGrid.{gap_or_none}
use Rattle.solid_model.proofs.OnGrid.{StaysOnGrid}
use Rattle.solid_model.proofs.SameOnGrid.{member_or_not}
use Rattle.solid_model.proofs.UnionDrawing.{same_gaps_before}

module _ (coordinates : Coordinates) (ascends : (a : Axis) → Ascends ◌<ℤ◌ (coordinates a)) (drawing : Segment → Style)
    (stays : StaysOnGrid coordinates drawing) where
  drawn_on_grid : (v : View) (upright : Bool) (z : ℤ) → IsDrawnAcross drawing v upright z → Member (coordinates (along (frame_of v) upright).axis) z
  drawn_on_grid v true z (start, drawn) = ⊎_elim (λ m. m) (λ none. absurd (drawn (stays.off_lines v false start z none)))
      (member_or_not (coordinates (along (frame_of v) true).axis) z)
  drawn_on_grid v false z (start, drawn) = ⊎_elim (λ m. m) (λ none. absurd (drawn (stays.off_lines v true start z none)))
      (member_or_not (coordinates (along (frame_of v) false).axis) z)

  changes_on_grid : (v : View) (upright : Bool) (z : ℤ) → ChangesAt drawing v upright z → Member (coordinates (along (frame_of v) upright).axis) z
  changes_on_grid v upright z (line, differ) = ⊎_elim (λ m. m) (λ none. absurd (differ (same none (gap_or_none zs (ascends (along (frame_of v) upright).axis) z))))
      (member_or_not zs z)
    where
      zs : List ℤ
      zs = coordinates (along (frame_of v) upright).axis

      same : (Member zs z → ⊥) → IsInSomeGap zs z ⊎ (IsInSomeGap zs z → ⊥) → drawing (segment_at v upright (z -ℤ pos 1) line) ≡ drawing (segment_at v upright z line)
      same none (inl gap) = stays.steady v upright gap.0 (z -ℤ pos 1) z line ((same_gaps_before zs z none gap.0).1 gap.1) gap.1
      same none (inr out) = stays.off_ends v upright (z -ℤ pos 1) line (λ gap. out (gap.0, (same_gaps_before zs z none gap.0).0 gap.1))
          ∙ sym (stays.off_ends v upright z line out)

  -- a grid coordinate of the drawing is one of the grid's
  pub coordinate_on_grid : (a : Axis) (z : ℤ) → IsGridCoordinate drawing a z → Member (coordinates a) z
  coordinate_on_grid a z (v, upright, e, how) = subst (λ b. Member (coordinates b) z) e
      (⊎_elim {C = Member (coordinates (along (frame_of v) upright).axis) z} (drawn_on_grid v upright z) (changes_on_grid v upright z) how)
