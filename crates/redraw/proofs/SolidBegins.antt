-- A solid draws something in each view, so each view of its drawing begins somewhere.
use Rattle.std.proofs.Common.{◌≡◌, ◌≢◌, ◌⊎◌, inl, inr, Bool, true, false, List, [], ◌∷◌, ℤ, pos, ◌-ℤ◌, ◌≤ℤ◌, if◌then◌else◌, refl, subst, arith}
use Rattle.std.proofs.lemmas.Int.{ints}
use Rattle.solid_model.specs.declared.cell.Cell.{Cell}
use Rattle.solid_model.specs.declared.frame.Frame.{Frame}
use Rattle.solid_model.specs.declared.frame.View.{View}
use Rattle.solid_model.specs.declared.segment.Segment.{Segment}
use Rattle.solid_model.specs.declared.segment.Style.TheVariants.{Blank}
use Rattle.solid_model.specs.Boxes.{place_of}
use Rattle.solid_model.specs.Cells.{is_full, IsSolid}
use Rattle.solid_model.specs.Draws.{Draws, DrawsView}
use Rattle.solid_model.specs.DrawnStyle.{solid_drawing}
use Rattle.solid_model.specs.Frames.{IsFrame, frame_of, along, across}
use Rattle.solid_model.specs.Moved.{BeginsAt}
use Rattle.solid_model.specs.Segments.{segment_at}
use Rattle.solid_model.proofs.Fullness.{member-is_full}
use Rattle.solid_model.proofs.Styles.{edge_not_blank, cell_beside_drawn, drawn_style_drawn}
use Rattle.solid_model.proofs.Views.{views_are_frames}
use Rattle.solid_model.proofs.WithinViews.{Least, IsOutermost, outermost}

-- a segment beside a cell stands nowhere to the left of the cell's place or below it
beside_cell : (f : Frame) (kind : Bool) (right up left low : ℤ) (c : Cell)
    → place_of (along f kind) c ≡ (if kind then up else right)
    → (place_of (across f kind) c ≡ (if kind then right else up)) ⊎ (place_of (across f kind) c ≡ (if kind then right else up) -ℤ pos 1)
    → left ≤ℤ place_of f.right c → low ≤ℤ place_of f.up c → (left ≤ℤ right) × (low ≤ℤ up)
beside_cell f true right up left low c p (inl q) h k = (omega (arith, ints), omega (arith, ints))
beside_cell f true right up left low c p (inr q) h k = (omega (arith, ints), omega (arith, ints))
beside_cell f false right up left low c p (inl q) h k = (omega (arith, ints), omega (arith, ints))
beside_cell f false right up left low c p (inr q) h k = (omega (arith, ints), omega (arith, ints))

module _ (s : List Cell) (v : View) where
  abbrev f : Frame
  f = frame_of v

  is : IsFrame f
  is = views_are_frames v

  -- a solid draws its drawing in each view
  draws_its_drawing : DrawsView f (is_full s) (solid_drawing s) v
  draws_its_drawing g of = subst (λ w. Draws (frame_of w) (is_full s) g (solid_drawing s g)) of (drawn_style_drawn (frame_of g.view) (views_are_frames g.view) s g)

  -- an outermost edge is drawn
  pub outermost_drawn : (upright : Bool) (o : IsOutermost f s v upright Least) → solid_drawing s (segment_at v upright o.start o.line) ≢ Blank
  outermost_drawn upright o =
      let g : Segment = segment_at v upright o.start o.line in
      edge_not_blank f (is_full s) g (solid_drawing s g) (draws_its_drawing g refl) o.depth o.edge

  -- where a cell is full, the view begins beside the first cells to the right and upwards
  pub begins_beside : (left : IsOutermost f s v true Least) (bottom : IsOutermost f s v false Least) → BeginsAt (solid_drawing s) v left.line bottom.line
  begins_beside left bottom = record {
    stands_from = λ g of drawn.
        let b = cell_beside_drawn f is (is_full s) g (solid_drawing s g) (draws_its_drawing g of) drawn in
        beside_cell f g.upright g.right g.up left.line bottom.line b.cell b.on_stretch b.at_line
        (left.inner b.cell b.is_full) (bottom.inner b.cell b.is_full);
    at_left = (segment_at v true left.start left.line, refl, outermost_drawn true left, refl);
    at_bottom = (segment_at v false bottom.start bottom.line, refl, outermost_drawn false bottom, refl);
  }

-- each view of a solid's drawing begins somewhere
pub solid_begins : (s : List Cell) → IsSolid s → (v : View) → (right up : ℤ) × BeginsAt (solid_drawing s) v right up
solid_begins [] none v = absurd none
solid_begins (c ∷ cs) some v =
    let full = member-is_full (c ∷ cs) c (inl refl) in
    let left = outermost (frame_of v) (views_are_frames v) (c ∷ cs) v true Least c full in
    let bottom = outermost (frame_of v) (views_are_frames v) (c ∷ cs) v false Least c full in
    (left.line, bottom.line, begins_beside (c ∷ cs) v left bottom)
