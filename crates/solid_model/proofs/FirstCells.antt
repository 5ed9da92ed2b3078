-- A solid begins where its drawing begins: an outermost full cell draws an outermost edge, and beside a drawn segment a cell
-- is full.
use Rattle.std.proofs.Common.{◌≡◌, ◌≢◌, ◌⊎◌, inl, inr, Bool, true, false, List, ℤ, pos, ◌-ℤ◌, ◌≤ℤ◌, IsTrue, if◌then◌else◌, refl, ◌∙◌, arith}
use Rattle.std.proofs.lemmas.Int.{ints}
use Rattle.solid_model.specs.declared.cell.Cell.{Cell}
use Rattle.solid_model.specs.declared.frame.Frame.{Frame}
use Rattle.solid_model.specs.declared.frame.View.{View}
use Rattle.solid_model.specs.declared.segment.Segment.{Segment}
use Rattle.solid_model.specs.declared.segment.Style.{Style}
use Rattle.solid_model.specs.declared.segment.Style.TheVariants.{Blank}
use Rattle.solid_model.specs.Boxes.{place_of}
use Rattle.solid_model.specs.Cells.{is_full}
use Rattle.solid_model.specs.Draws.{DrawsView}
use Rattle.solid_model.specs.Frames.{IsFrame, along, across}
use Rattle.solid_model.specs.Moved.{StandsFrom, BeginsAt}
use Rattle.solid_model.specs.Segments.{segment_at, across_of}
use Rattle.solid_model.proofs.Styles.{edge_not_blank, cell_beside_drawn}
use Rattle.solid_model.proofs.WithinViews.{Least, outermost}

-- a segment's line isn't before a coordinate that its view stands from
line_from : (v : View) (upright : Bool) (start line right up : ℤ)
    → (right ≤ℤ (segment_at v upright start line).right) × (up ≤ℤ (segment_at v upright start line).up) → across_of upright right up ≤ℤ line
line_from v true start line right up h = h.0
line_from v false start line right up h = h.1

-- the cell beside a segment stands at its coordinate, or just before it
beside : (f : Frame) (upright kind : Bool) (right up : ℤ) (c : Cell)
    → place_of (along f kind) c ≡ (if kind then up else right)
    → (place_of (across f kind) c ≡ (if kind then right else up)) ⊎ (place_of (across f kind) c ≡ (if kind then right else up) -ℤ pos 1)
    → (place_of (across f upright) c ≡ across_of upright right up) ⊎ (place_of (across f upright) c ≡ across_of upright right up -ℤ pos 1)
beside f true true right up c p q = q
beside f true false right up c p q = inl p
beside f false true right up c p q = inl p
beside f false false right up c p q = q

-- a place at z or just before it, and not below z
at_least : (a z : ℤ) → z ≤ℤ a → (a ≡ z) ⊎ (a ≡ z -ℤ pos 1) → a ≡ z
at_least a z h (inl p) = p
at_least a z h (inr p) = absurd (omega (arith, ints))

module _ (f : Frame) (is : IsFrame f) (drawing : Segment → Style) (s : List Cell) (v : View) (draws : DrawsView f (is_full s) drawing v) where
  -- no cell stands before the place that the view stands from
  pub no_cell_before : (right up : ℤ) → StandsFrom drawing v right up → (upright : Bool) (c : Cell) → IsTrue (is_full s c)
      → across_of upright right up ≤ℤ place_of (across f upright) c
  no_cell_before right up stands upright c full =
      let o = outermost f is s v upright Least c full in
      let g : Segment = segment_at v upright o.start o.line in
      let from = stands g refl (edge_not_blank f (is_full s) g (drawing g) (draws g refl) o.depth o.edge) in
      let line = line_from v upright o.start o.line right up from in
      let inner = o.inner c full in
      omega (arith, ints)

  -- some segment of the view stands at the coordinate at which it begins
  reached : (right up : ℤ) → BeginsAt drawing v right up → (upright : Bool)
      → (h : Segment) × (h.view ≡ v) × (drawing h ≢ Blank) × (across_of upright h.right h.up ≡ across_of upright right up)
  reached right up begins true = begins.at_left
  reached right up begins false = begins.at_bottom

  -- some cell stands at the place at which the view begins
  pub cell_at_beginning : (right up : ℤ) → BeginsAt drawing v right up → (upright : Bool)
      → (c : Cell) × IsTrue (is_full s c) × (place_of (across f upright) c ≡ across_of upright right up)
  cell_at_beginning right up begins upright =
      let r = reached right up begins upright in
      let h : Segment = r.0 in
      let b = cell_beside_drawn f is (is_full s) h (drawing h) (draws h r.1) r.2 in
      let near = beside f upright h.upright h.right h.up b.cell b.on_stretch b.at_line in
      let first = no_cell_before right up begins.stands_from upright b.cell b.is_full in
      (b.cell, b.is_full, at_place _ _ _ r.3 first near)
    where
      at_place : (a z w : ℤ) → z ≡ w → w ≤ℤ a → (a ≡ z) ⊎ (a ≡ z -ℤ pos 1) → a ≡ w
      at_place a z w e h k = at_least a z (omega (arith, ints)) k ∙ e
