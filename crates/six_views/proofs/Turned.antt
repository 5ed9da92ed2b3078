-- A layer's whole view is its view, of the solid turned half round where it is seen from the opposite side.
use Rattle.std.proofs.Common.{◌≡◌, ◌↔◌, inl, inr, Bool, true, false, ◌&&◌, ◌||◌, List, [], ◌∷◌, ℤ, pos, neg_ℤ, ◌-ℤ◌, if◌then◌else◌, refl, ap, ap₂, sym, subst, ◌∙◌, arith}
use Rattle.std.proofs.lemmas.Int.{ints}
use Rattle.solid_model.specs.declared.cell.Axis.{Axis}
use Rattle.solid_model.specs.declared.cell.Axis.TheVariants.{X, Y, Z}
use Rattle.solid_model.specs.declared.cell.Cell.{Cell}
use Rattle.solid_model.specs.declared.frame.Frame.{Frame}
use Rattle.solid_model.specs.declared.frame.View.{View}
use Rattle.solid_model.specs.declared.frame.View.TheVariants.{Front, Top, Side}
use Rattle.solid_model.specs.declared.segment.Segment.{Segment}
use Rattle.solid_model.specs.declared.segment.Style.{Style}
use Rattle.solid_model.specs.declared.segment.Style.TheVariants.{Blank, Dashed, Solid}
use Rattle.solid_model.specs.Cells.{same_cell, is_full}
use Rattle.solid_model.specs.Columns.{cell_in, column_at}
use Rattle.solid_model.specs.Draws.{Draws, DrawsView, has_edge, is_inside}
use Rattle.solid_model.specs.DrawnStyle.{drawn_style, solid_drawing}
use Rattle.solid_model.specs.Edges.{is_edge_of}
use Rattle.solid_model.specs.Frames.{IsFrame, frame_of}
use Rattle.solid_model.specs.Segments.{start_of, line_of}
use Rattle.solid_model.proofs.Fullness.{same_coordinates, Decides-same_cell, same_cell-from}
use Rattle.solid_model.proofs.Styles.{one_style, drawn_style_drawn, same_drawing}
use Rattle.solid_model.proofs.Views.{has_edge_is, views_are_frames}
use Rattle.dxf_entities.specs.declared.layer.Layer.{Layer}
use Rattle.six_views.specs.SightFrames.{opposite_frame, sight_frame}
use Rattle.six_views.specs.Turned.{half_turned, turn_axis, turned_cell, turned_cells}

-- each layer is seen in a frame
pub sights_are_frames : (x : Layer) → IsFrame (sight_frame x)
sights_are_frames x = by x.opposite x.view
  where
    by : (opposite : Bool) (v : View) → IsFrame (if opposite then opposite_frame v else frame_of v)
    by false v = views_are_frames v
    by true Front = inr (refl, refl)
    by true Top = inl (refl, refl)
    by true Side = inl (refl, refl)

-- ---- what a style rests on

-- where the columns beside a segment are the same in two frames, the styles are
module _ (f h : Frame) (is : IsFrame f) (is_too : IsFrame h) (full other : Cell → Bool) (g : Segment)
    (same : (j k : ℤ) → column_at f full g j k ≡ column_at h other g j k) where
  same_edges : (k : ℤ) → has_edge f full g k ≡ has_edge h other g k
  same_edges k = has_edge_is f is full g k
      ∙ (λ t. is_edge_of (same (line_of g) k t) (same (line_of g -ℤ pos 1) k t) (same (line_of g) (k -ℤ pos 1) t) (same (line_of g -ℤ pos 1) (k -ℤ pos 1) t))
      ∙ sym (has_edge_is h is_too other g k)

  same_inside : (k : ℤ) → is_inside f full g k ≡ is_inside h other g k
  same_inside k = λ t. same (line_of g) k t && same (line_of g -ℤ pos 1) k t

  pub same_styles : (style : Style) → Draws f full g style → Draws h other g style
  same_styles Blank d = λ k e. d k (same_edges k ∙ e)
  same_styles Dashed d =
      ((d.0.0, sym (same_edges d.0.0) ∙ d.0.1), λ k e. let hidden = d.1 k (same_edges k ∙ e) in (hidden.0, hidden.1, sym (same_inside hidden.0) ∙ hidden.2))
  same_styles Solid d = (d.0, sym (same_edges d.0) ∙ d.1, λ hidden. d.2 (hidden.0, hidden.1, same_inside hidden.0 ∙ hidden.2))

-- ---- cells that are turned

-- tests that pass together are the same
pub same_tests : (a b : Bool) → (a ≡ true → b ≡ true) → (b ≡ true → a ≡ true) → a ≡ b
same_tests true b f g = sym (f refl)
same_tests false true f g = g refl
same_tests false false f g = refl

-- a place that is mirrored twice is the same
pub mirrored_twice : (z : ℤ) → neg_ℤ (neg_ℤ z -ℤ pos 1) -ℤ pos 1 ≡ z
mirrored_twice z = omega (arith, ints)

-- a cell that is turned twice is the same
half_turned_twice : (a : Axis) (c : Cell) → half_turned a (half_turned a c) ≡ c
half_turned_twice X c = same_coordinates _ _ refl (mirrored_twice c.y) (mirrored_twice c.z)
half_turned_twice Y c = same_coordinates _ _ (mirrored_twice c.x) refl (mirrored_twice c.z)
half_turned_twice Z c = same_coordinates _ _ (mirrored_twice c.x) (mirrored_twice c.y) refl

pub turned_twice : (x : Layer) (c : Cell) → turned_cell x (turned_cell x c) ≡ c
turned_twice x c = by x.opposite (turn_axis x.view)
  where
    by : (opposite : Bool) (a : Axis)
        → (if opposite then half_turned a (if opposite then half_turned a c else c) else (if opposite then half_turned a c else c)) ≡ c
    by true a = half_turned_twice a c
    by false a = refl

-- the cell at given places of a layer is the one at the same places of its view, turned
pub cell_turned : (x : Layer) (upright : Bool) (i j k : ℤ)
    → cell_in (sight_frame x) upright i j k ≡ turned_cell x (cell_in (frame_of x.view) upright i j k)
cell_turned x upright i j k = by x.opposite x.view upright
  where
    by : (opposite : Bool) (v : View) (upright : Bool) → cell_in (if opposite then opposite_frame v else frame_of v) upright i j k
        ≡ (if opposite then half_turned (turn_axis v) (cell_in (frame_of v) upright i j k) else cell_in (frame_of v) upright i j k)
    by false v upright = refl
    by true Side true = same_coordinates _ _ (sym (mirrored_twice k)) refl refl
    by true Side false = same_coordinates _ _ (sym (mirrored_twice k)) refl refl
    by true Front true = refl
    by true Front false = refl
    by true Top true = same_coordinates _ _ refl refl (sym (mirrored_twice k))
    by true Top false = same_coordinates _ _ refl refl (sym (mirrored_twice k))

-- ---- drawings of what is turned

module _ (x : Layer) where
  -- the solid, turned
  abbrev turned : (Cell → Bool) → Cell → Bool
  turned full c = full (turned_cell x c)

  same_column : (full : Cell → Bool) (g : Segment) (j k : ℤ)
      → column_at (sight_frame x) full g j k ≡ column_at (frame_of x.view) (turned full) g j k
  same_column full g j k = ap full (cell_turned x g.upright (start_of g) j k)

  pub drawn_turned : (full : Cell → Bool) (g : Segment) (style : Style)
      → Draws (sight_frame x) full g style ↔ Draws (frame_of x.view) (turned full) g style
  drawn_turned full g style = (
    same_styles (sight_frame x) (frame_of x.view) (sights_are_frames x) (views_are_frames x.view) full (turned full) g (same_column full g) style,
    same_styles (frame_of x.view) (sight_frame x) (views_are_frames x.view) (sights_are_frames x) (turned full) full g (λ j k. sym (same_column full g j k)) style,
  )

  -- the full cells of what is turned
  pub full_turned : (s : List Cell) (c : Cell) → is_full (turned_cells x s) c ≡ is_full s (turned_cell x c)
  full_turned [] c = refl
  full_turned (d ∷ s) c = ap₂ ◌||◌
      (same_tests (same_cell (turned_cell x d) c) (same_cell d (turned_cell x c))
      (λ e. same_cell-from _ _ (sym (turned_twice x d) ∙ ap (turned_cell x) ((Decides-same_cell _ _).0 e)))
      (λ e. same_cell-from _ _ (ap (turned_cell x) ((Decides-same_cell _ _).0 e) ∙ turned_twice x c)))
      (full_turned s c)

  pub style_turned : (s : List Cell) (g : Segment) → g.view ≡ x.view → drawn_style (sight_frame x) s g ≡ solid_drawing (turned_cells x s) g
  style_turned s g of = one_style f (is_full (turned_cells x s)) g _ _
      (same_drawing f (turned (is_full s)) (is_full (turned_cells x s)) (λ c. sym (full_turned s c)) g _
      ((drawn_turned (is_full s) g (drawn_style (sight_frame x) s g)).0 (drawn_style_drawn (sight_frame x) (sights_are_frames x) s g)))
      (subst (λ v. Draws (frame_of v) (is_full (turned_cells x s)) g (solid_drawing (turned_cells x s) g)) of
      (drawn_style_drawn (frame_of g.view) (views_are_frames g.view) (turned_cells x s) g))
    where
      f : Frame
      f = frame_of x.view

  -- a solid draws as the layer what it draws, turned, in its view
  pub sight_drawn : (s : List Cell) → DrawsView (sight_frame x) (is_full s) (solid_drawing (turned_cells x s)) x.view
  sight_drawn s g of = subst (Draws (sight_frame x) (is_full s) g) (style_turned s g of) (drawn_style_drawn (sight_frame x) (sights_are_frames x) s g)
