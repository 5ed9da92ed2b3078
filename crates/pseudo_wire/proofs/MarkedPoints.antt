-- The marks on the points of the views, and the edges between them.
use Rattle.std.proofs.Common.{◌≡◌, ◌↔◌, ◌&&◌, Bool, true, ℕ, ◌+◌, ◌≤◌, ℤ, pos, negsuc, ◌+ℤ◌, IsTrue, refl, ◌∙◌, subst, ap₂, arith}
use Rattle.std.proofs.lemmas.Bool.{false≢true, lt-ltb, ltb-true}
use Rattle.lemmas.proofs.Truth.{same_truth}
use Rattle.solid_model.specs.declared.cell.Axis.{Axis}
use Rattle.solid_model.specs.declared.cell.Axis.TheVariants.{X, Y, Z}
use Rattle.solid_model.specs.declared.cell.Cell.{Cell}
use Rattle.solid_model.specs.declared.frame.View.{View}
use Rattle.solid_model.specs.declared.frame.View.TheVariants.{Front, Top, Side}
use Rattle.solid_model.specs.declared.per_view.PerView.{PerView}
use Rattle.solid_model.specs.Cells.{coordinate, cell_after}
use Rattle.solid_model.specs.GridBox.{grid_sizes}
use Rattle.solid_model.specs.Kept.{edge_sizes}
use Rattle.solid_model.specs.Marks.{BoxMarks, is_marked, AreMarksOf}
use Rattle.solid_model.specs.Panels.{GridParts}
use Rattle.solid_model.specs.PerAxis.{AreFew}
use Rattle.solid_model.specs.WalledBoxes.{Sizes, is_below, is_within}
use Rattle.solid_model.specs.Wire.{is_on_drawn, is_pseudo_vertex, is_drawn_or_point, is_pseudo_edge}
use Rattle.solid_model.proofs.BoxCells.{below-more, within-below, below-within}
use Rattle.pseudo_wire.specs.DrawnPoints.{point_sizes, view_sizes, projected, AreDrawnIn, AreDrawnPoints, is_marked_point, is_marked_edge}

-- a view's points are few
pub few_points : (sizes : Sizes) → ((a : Axis) → sizes a ≤ 63) → (v : View) → AreFew (view_sizes sizes v)
few_points sizes few Front X = omega (arith, few X)
few_points sizes few Front Y = omega arith
few_points sizes few Front Z = omega (arith, few Z)
few_points sizes few Top X = omega (arith, few X)
few_points sizes few Top Y = omega (arith, few Y)
few_points sizes few Top Z = omega arith
few_points sizes few Side X = omega arith
few_points sizes few Side Y = omega (arith, few Y)
few_points sizes few Side Z = omega (arith, few Z)

-- ---- the ends of an edge

-- there are no more edges in a row than points
edge_points : (sizes : Sizes) (a b : Axis) → edge_sizes sizes a b ≤ point_sizes sizes b
edge_points sizes X X = omega arith
edge_points sizes X Y = omega arith
edge_points sizes X Z = omega arith
edge_points sizes Y X = omega arith
edge_points sizes Y Y = omega arith
edge_points sizes Y Z = omega arith
edge_points sizes Z X = omega arith
edge_points sizes Z Y = omega arith
edge_points sizes Z Z = omega arith

-- an edge begins at a point
begins_within : (sizes : Sizes) (a : Axis) (n : Cell) → is_within (edge_sizes sizes a) n ≡ true → is_within (point_sizes sizes) n ≡ true
begins_within sizes a n within =
    below-within (point_sizes sizes) n (λ b. below-more (edge_sizes sizes a b) (point_sizes sizes b) (edge_points sizes a b) (coordinate b n) (within-below (edge_sizes sizes a) n within b))

-- one more than a number of the cells is one of the points
one_more : (size : ℕ) (z : ℤ) → is_below size z ≡ true → is_below (size + 1) (z +ℤ pos 1) ≡ true
one_more size (pos k) below = lt-ltb (k + 1) (size + 1) (let l = ltb-true k size below in omega arith)
one_more size (negsuc k) below = absurd (false≢true below)

-- and it ends at one
ends_within : (sizes : Sizes) (a : Axis) (n : Cell) → is_within (edge_sizes sizes a) n ≡ true → is_within (point_sizes sizes) (cell_after a n) ≡ true
ends_within sizes a n within = below-within (point_sizes sizes) (cell_after a n) (by a (λ b. within-below (edge_sizes sizes a) n within b))
  where
    by : (a : Axis) → ((b : Axis) → is_below (edge_sizes sizes a b) (coordinate b n) ≡ true) → (b : Axis) → is_below (point_sizes sizes b) (coordinate b (cell_after a n)) ≡ true
    by X below X = one_more (sizes X) n.x (below X)
    by X below Y = below-more (edge_sizes sizes X Y) (point_sizes sizes Y) (edge_points sizes X Y) n.y (below Y)
    by X below Z = below-more (edge_sizes sizes X Z) (point_sizes sizes Z) (edge_points sizes X Z) n.z (below Z)
    by Y below X = below-more (edge_sizes sizes Y X) (point_sizes sizes X) (edge_points sizes Y X) n.x (below X)
    by Y below Y = one_more (sizes Y) n.y (below Y)
    by Y below Z = below-more (edge_sizes sizes Y Z) (point_sizes sizes Z) (edge_points sizes Y Z) n.z (below Z)
    by Z below X = below-more (edge_sizes sizes Z X) (point_sizes sizes X) (edge_points sizes Z X) n.x (below X)
    by Z below Y = below-more (edge_sizes sizes Z Y) (point_sizes sizes Y) (edge_points sizes Z Y) n.y (below Y)
    by Z below Z = one_more (sizes Z) n.z (below Z)

-- ---- points of the views

-- a point projects on a point of each view
projects_within : (sizes : Sizes) (v : View) (n : Cell) → is_within (point_sizes sizes) n ≡ true → is_within (view_sizes sizes v) (projected v n) ≡ true
projects_within sizes v n within = below-within (view_sizes sizes v) (projected v n) (by v (λ b. within-below (point_sizes sizes) n within b))
  where
    by : (v : View) → ((b : Axis) → is_below (point_sizes sizes b) (coordinate b n) ≡ true) → (b : Axis) → is_below (view_sizes sizes v b) (coordinate b (projected v n)) ≡ true
    by Front below X = below X
    by Front below Y = refl
    by Front below Z = below Z
    by Top below X = below X
    by Top below Y = below Y
    by Top below Z = refl
    by Side below X = refl
    by Side below Y = below Y
    by Side below Z = below Z

-- the view shows as much there as it shows of the point
shown_projected : (g : GridParts) (v : View) (n : Cell) → is_on_drawn g (projected v n) v ≡ is_on_drawn g n v
shown_projected g Front n = refl
shown_projected g Top n = refl
shown_projected g Side n = refl

-- so a point has a mark in a view where the view shows something of it
marked_in : (g : GridParts) (v : View) (marks : BoxMarks) → AreDrawnIn g v marks → (n : Cell) → is_within (point_sizes (grid_sizes g)) n ≡ true
    → is_marked marks (projected v n) ≡ is_on_drawn g n v
marked_in g v marks are n within =
    let both = are.exact (projected v n) (projects_within (grid_sizes g) v n within) in
    same_truth (is_marked marks (projected v n)) (is_on_drawn g (projected v n) v) both.0 both.1 ∙ shown_projected g v n

-- and has one in each where it is a pseudo vertex
point_marked : (g : GridParts) (points : PerView BoxMarks) → AreDrawnPoints g points → (n : Cell) → is_within (point_sizes (grid_sizes g)) n ≡ true
    → is_marked_point points n ≡ is_pseudo_vertex g n
point_marked g points are n within =
    ap₂ ◌&&◌ (marked_in g Front points.front (are Front) n within) (ap₂ ◌&&◌ (marked_in g Top points.top (are Top) n within) (marked_in g Side points.side (are Side) n within))

-- so the edges between marks are the pseudo edges
pub edges_of_marked : (g : GridParts) (points : PerView BoxMarks) (a : Axis) (edges : BoxMarks) → AreDrawnPoints g points
    → AreMarksOf (edge_sizes (grid_sizes g) a) (λ n. IsTrue (is_marked_edge g points a n)) edges
    → AreMarksOf (edge_sizes (grid_sizes g) a) (λ n. IsTrue (is_pseudo_edge g a n)) edges
edges_of_marked g points a edges are marked = record {
  sized = marked.sized;
  exact = λ n within. subst (λ (b : Bool). IsTrue (is_marked edges n) ↔ IsTrue b) (same n within) (marked.exact n within);
}
  where
    same : (n : Cell) → is_within (edge_sizes (grid_sizes g) a) n ≡ true → is_marked_edge g points a n ≡ is_pseudo_edge g a n
    same n within = ap₂ (λ (b c : Bool). (is_drawn_or_point g a n Front && (is_drawn_or_point g a n Top && is_drawn_or_point g a n Side)) && (b && c))
        (point_marked g points are n (begins_within (grid_sizes g) a n within))
        (point_marked g points are (cell_after a n) (ends_within (grid_sizes g) a n within))
