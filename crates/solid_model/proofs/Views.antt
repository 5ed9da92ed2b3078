-- From space to a view: the edges and sight lines of a frame by the cells at places along, across and away.
use Rattle.std.proofs.Common.{◌≡◌, inl, inr, ⊎_elim, Bool, true, false, not, ◌&&◌, ◌||◌, ℤ, pos, neg_ℤ, ◌-ℤ◌, if◌then◌else◌, refl, ap, ap₂, sym, subst, ◌∙◌, arith}
use Rattle.std.proofs.Math.Bool.{and_comm, or_comm}
use Rattle.std.proofs.lemmas.Int.{ints}
use Rattle.solid_model.specs.declared.cell.Axis.{Axis}
use Rattle.solid_model.specs.declared.cell.Axis.TheVariants.{X, Y, Z}
use Rattle.solid_model.specs.declared.cell.Cell.{Cell}
use Rattle.solid_model.specs.declared.frame.Direction.{Direction}
use Rattle.solid_model.specs.declared.frame.Frame.{Frame}
use Rattle.solid_model.specs.declared.frame.View.{View}
use Rattle.solid_model.specs.declared.frame.View.TheVariants.{Front, Top, Side}
use Rattle.solid_model.specs.declared.segment.Segment.{Segment}
use Rattle.solid_model.specs.Boxes.{place_of}
use Rattle.solid_model.specs.Cells.{coordinate}
use Rattle.solid_model.specs.Columns.{cell_in, column_after, column_before}
use Rattle.solid_model.specs.Draws.{has_edge}
use Rattle.lemmas.specs.Truth.{agree}
use Rattle.solid_model.specs.Edges.{second_axis, third_axis, AreAcross, is_edge, is_edge_of}
use Rattle.solid_model.specs.Frames.{IsFrame, frame_of, along, across, point_on, cell_on, at_places}
use Rattle.solid_model.specs.Segments.{segment_at, start_of, line_of}

-- what holds of the three views holds of every view
pub in_each_view : (P : View → Type 0) → P Front → P Top → P Side → (v : View) → P v
in_each_view P front top side Front = front
in_each_view P front top side Top = top
in_each_view P front top side Side = side

-- ---- the four cells round an edge

-- to agree does not go by order
agree_comm : (a b : Bool) → agree a b ≡ agree b a
agree_comm true true = refl
agree_comm true false = refl
agree_comm false true = refl
agree_comm false false = refl

-- the two planes through an edge may change places
pub is_edge_of_turned : (a b c d : Bool) → is_edge_of a b c d ≡ is_edge_of a c b d
is_edge_of_turned a b c d = ap not (or_comm (agree a c && agree b d) (agree a b && agree c d))

-- the two sides of the first plane may change places
pub is_edge_of_flipped : (a b c d : Bool) → is_edge_of a b c d ≡ is_edge_of c d a b
is_edge_of_flipped a b c d = ap not (ap₂ ◌||◌ (ap₂ ◌&&◌ (agree_comm a c) (agree_comm b d)) (and_comm (agree a b) (agree c d)))

-- and those of the second plane
pub is_edge_of_mirrored : (a b c d : Bool) → is_edge_of a b c d ≡ is_edge_of b a d c
is_edge_of_mirrored a b c d =
    is_edge_of_turned a b c d ∙ is_edge_of_flipped a c b d ∙ is_edge_of_turned b d a c

-- the four cells round the point (j, k) of a plane make an edge
abbrev pub is_corner : (ℤ → ℤ → Bool) → ℤ → ℤ → Bool
is_corner full j k = is_edge_of (full j k) (full (j -ℤ pos 1) k) (full j (k -ℤ pos 1)) (full (j -ℤ pos 1) (k -ℤ pos 1))

-- backward, the cell before place k begins at the point -k
before_backward : (k : ℤ) → neg_ℤ (k -ℤ pos 1) -ℤ pos 1 ≡ neg_ℤ k
before_backward k = omega (arith, ints)

-- a corner by the places along two directions of the plane's axes
corner_by_places : (b c : Bool) (full : ℤ → ℤ → Bool) (j k : ℤ)
    → is_corner full (if b then j else neg_ℤ j) (if c then k else neg_ℤ k)
    ≡ is_corner (λ m n. full (if b then m else (neg_ℤ m -ℤ pos 1)) (if c then n else (neg_ℤ n -ℤ pos 1))) j k
corner_by_places true true full j k = refl
corner_by_places true false full j k = rw (before_backward k) (is_edge_of_flipped (full j (neg_ℤ k)) (full (j -ℤ pos 1) (neg_ℤ k))
    (full j (neg_ℤ k -ℤ pos 1)) (full (j -ℤ pos 1) (neg_ℤ k -ℤ pos 1)))
corner_by_places false true full j k = rw (before_backward j) (is_edge_of_mirrored (full (neg_ℤ j) k) (full (neg_ℤ j -ℤ pos 1) k)
    (full (neg_ℤ j) (k -ℤ pos 1)) (full (neg_ℤ j -ℤ pos 1) (k -ℤ pos 1)))
corner_by_places false false full j k = rw (before_backward j) (rw (before_backward k)
    (is_edge_of_mirrored (full (neg_ℤ j) (neg_ℤ k)) (full (neg_ℤ j -ℤ pos 1) (neg_ℤ k)) (full (neg_ℤ j) (neg_ℤ k -ℤ pos 1)) (full (neg_ℤ j -ℤ pos 1) (neg_ℤ k -ℤ pos 1))
    ∙ is_edge_of_flipped (full (neg_ℤ j -ℤ pos 1) (neg_ℤ k)) (full (neg_ℤ j) (neg_ℤ k)) (full (neg_ℤ j -ℤ pos 1) (neg_ℤ k -ℤ pos 1)) (full (neg_ℤ j) (neg_ℤ k -ℤ pos 1))))

-- ---- three axes

-- what holds of an axis and the two across it, in both orders, holds of three axes
pub across_each : (P : Axis → Axis → Axis → Type 0) → ((a : Axis) → P a (second_axis a) (third_axis a)) → ((a : Axis) → P a (third_axis a) (second_axis a))
    → (a b c : Axis) → AreAcross a b c → P a b c
across_each P inorder turned a b c across = ⊎_elim {C = P a b c}
    (λ h. subst (λ x. P a x c) (sym h.0) (subst (P a (second_axis a)) (sym h.1) (inorder a)))
    (λ h. subst (λ x. P a x c) (sym h.0) (subst (P a (third_axis a)) (sym h.1) (turned a))) across

-- what holds of each of three axes holds of all
pub each_axis : (P : Axis → Type 0) (a b c : Axis) → AreAcross a b c → P a → P b → P c → (x : Axis) → P x
each_axis P = across_each (λ a b c. P a → P b → P c → (x : Axis) → P x) inorder (λ a p q r. inorder a p r q)
  where
    inorder : (a : Axis) → P a → P (second_axis a) → P (third_axis a) → (x : Axis) → P x
    inorder X p q r X = p
    inorder X p q r Y = q
    inorder X p q r Z = r
    inorder Y p q r X = r
    inorder Y p q r Y = p
    inorder Y p q r Z = q
    inorder Z p q r X = q
    inorder Z p q r Y = r
    inorder Z p q r Z = p

-- of three axes each two are across the third, in either order
pub across_turned : (a b c : Axis) → AreAcross a b c → AreAcross a c b
across_turned a b c across = ⊎_elim {C = AreAcross a c b} (λ h. inr (h.1, h.0)) (λ h. inl (h.1, h.0)) across

-- of three axes across each other the first and the second may change places
pub across_next : (a b c : Axis) → AreAcross a b c → AreAcross b a c
across_next = across_each (λ a b c. AreAcross b a c) at_second at_third
  where
    at_second : (a : Axis) → AreAcross (second_axis a) a (third_axis a)
    at_second X = inr (refl, refl)
    at_second Y = inr (refl, refl)
    at_second Z = inr (refl, refl)

    at_third : (a : Axis) → AreAcross (third_axis a) a (second_axis a)
    at_third X = inl (refl, refl)
    at_third Y = inl (refl, refl)
    at_third Z = inl (refl, refl)

-- a frame's two other axes are across the way its segments of a kind run
pub across_along : (f : Frame) → IsFrame f → (upright : Bool) → AreAcross (along f upright).axis (across f upright).axis f.away.axis
across_along f is true = across_turned _ _ _ (across_next _ _ _ (across_turned _ _ _ is))
across_along f is false = across_turned _ _ _ (across_next _ _ _ is)

-- the three views are frames
pub views_are_frames : (v : View) → IsFrame (frame_of v)
views_are_frames Front = inr (refl, refl)
views_are_frames Top = inl (refl, refl)
views_are_frames Side = inl (refl, refl)

-- the segments of a view run forward, and its columns stand beside each other forward
pub runs_forward : (v : View) (upright : Bool) → (along (frame_of v) upright).forward ≡ true
runs_forward Front true = refl
runs_forward Front false = refl
runs_forward Top true = refl
runs_forward Top false = refl
runs_forward Side true = refl
runs_forward Side false = refl

-- across them its columns stand forward too
pub stands_forward : (v : View) (upright : Bool) → (across (frame_of v) upright).forward ≡ true
stands_forward v true = runs_forward v false
stands_forward v false = runs_forward v true

-- forward, places are coordinates
pub forward_cell : (d : Direction) (z : ℤ) → d.forward ≡ true → cell_on d z ≡ z
forward_cell d z e = ap (λ b. if b then z else (neg_ℤ z -ℤ pos 1)) e

-- forward, a point is at its own coordinate
pub forward_point : (d : Direction) (z : ℤ) → d.forward ≡ true → point_on d z ≡ z
forward_point d z e = ap (λ b. if b then z else neg_ℤ z) e

-- an edge along an axis, by the four cells round it in the plane of the two others
pub edge_across : (full : Cell → Bool) (i j k : ℤ) (a b c : Axis) → AreAcross a b c
    → is_edge full a (at_places a i b j c k) ≡ is_corner (λ m n. full (at_places a i b m c n)) j k
edge_across full i j k = across_each (λ a b c. is_edge full a (at_places a i b j c k) ≡ is_corner (λ m n. full (at_places a i b m c n)) j k) inorder turned
  where
    inorder : (a : Axis) → is_edge full a (at_places a i (second_axis a) j (third_axis a) k)
        ≡ is_corner (λ m n. full (at_places a i (second_axis a) m (third_axis a) n)) j k
    inorder X = refl
    inorder Y = refl
    inorder Z = refl

    corner_turned : (flat : ℤ → ℤ → Bool) → is_corner (λ n m. flat m n) k j ≡ is_corner flat j k
    corner_turned flat = is_edge_of_turned (flat j k) (flat j (k -ℤ pos 1)) (flat (j -ℤ pos 1) k) (flat (j -ℤ pos 1) (k -ℤ pos 1))

    turned : (a : Axis) → is_edge full a (at_places a i (third_axis a) j (second_axis a) k)
        ≡ is_corner (λ m n. full (at_places a i (third_axis a) m (second_axis a) n)) j k
    turned X = corner_turned (λ m n. full (at_places X i Z m Y n))
    turned Y = corner_turned (λ m n. full (at_places Y i X m Z n))
    turned Z = corner_turned (λ m n. full (at_places Z i Y m X n))

-- ---- edges and cells in a frame

-- an edge at depth k, by the four cells round it: in the columns after and before the segment, at k and just before
pub has_edge_is : (f : Frame) → IsFrame f → (full : Cell → Bool) (g : Segment) (k : ℤ)
    → has_edge f full g k ≡ is_edge_of (column_after f full g k) (column_before f full g k) (column_after f full g (k -ℤ pos 1)) (column_before f full g (k -ℤ pos 1))
has_edge_is f is full g k =
    let way = along f g.upright in
    let beside = across f g.upright in
    let i = cell_on way (start_of g) in
    edge_across full i (point_on beside (line_of g)) (point_on f.away k) way.axis beside.axis f.away.axis (across_along f is g.upright)
    ∙ corner_by_places beside.forward f.away.forward (λ m n. full (at_places way.axis i beside.axis m f.away.axis n)) (line_of g) k

-- the same of the segment that begins at i along its way, on the line j across it
pub has_edge_at : (f : Frame) → IsFrame f → (full : Cell → Bool) (v : View) (upright : Bool) (i j k : ℤ)
    → has_edge f full (segment_at v upright i j) k ≡ is_edge_of
    (full (cell_in f upright i j k)) (full (cell_in f upright i (j -ℤ pos 1) k))
    (full (cell_in f upright i j (k -ℤ pos 1))) (full (cell_in f upright i (j -ℤ pos 1) (k -ℤ pos 1)))
has_edge_at f is full v true i j k = has_edge_is f is full (segment_at v true i j) k
has_edge_at f is full v false i j k = has_edge_is f is full (segment_at v false i j) k

-- the coordinate of the point at the place of a coordinate is that coordinate
pub point_on_twice : (d : Direction) (z : ℤ) → point_on d (point_on d z) ≡ z
point_on_twice d z = turned d.forward
  where
    turned : (b : Bool) → (if b then (if b then z else neg_ℤ z) else neg_ℤ (if b then z else neg_ℤ z)) ≡ z
    turned true = refl
    turned false = omega (arith, ints)

-- the segment that begins at i along its way, on the line j across it, begins there
start_at : (v : View) (upright : Bool) (i j : ℤ) → start_of (segment_at v upright i j) ≡ i
start_at v true i j = refl
start_at v false i j = refl

-- and lies on that line
pub line_at : (v : View) (upright : Bool) (i j : ℤ) → line_of (segment_at v upright i j) ≡ j
line_at v true i j = refl
line_at v false i j = refl

-- on it projects the edge from the point with these coordinates
pub has_edge_from : (full : Cell → Bool) (v : View) (upright : Bool) (i j k : ℤ)
    → has_edge (frame_of v) full (segment_at v upright i j) (point_on (frame_of v).away k) ≡ is_edge full (along (frame_of v) upright).axis
    (at_places (along (frame_of v) upright).axis i (across (frame_of v) upright).axis j (frame_of v).away.axis k)
has_edge_from full v upright i j k =
    let way = along (frame_of v) upright in
    let beside = across (frame_of v) upright in
    let away = (frame_of v).away in
    let begins : cell_on way (start_of (segment_at v upright i j)) ≡ i =
    ap (cell_on way) (start_at v upright i j) ∙ forward_cell way i (runs_forward v upright) in
    let lies : point_on beside (line_of (segment_at v upright i j)) ≡ j =
    ap (point_on beside) (line_at v upright i j) ∙ forward_point beside j (stands_forward v upright) in
    λ t. is_edge full way.axis (at_places way.axis (begins t) beside.axis (lies t) away.axis (point_on_twice away k t))

-- the coordinate of the cell at the place of a coordinate is that coordinate
cell_on_turned : (forward : Bool) (axis : Axis) (z : ℤ)
    → cell_on (record { axis = axis; forward = forward }) (cell_on (record { axis = axis; forward = forward }) z) ≡ z
cell_on_turned true axis z = refl
cell_on_turned false axis z = omega (arith, ints)

-- along any direction
pub cell_on_twice : (d : Direction) (z : ℤ) → cell_on d (cell_on d z) ≡ z
cell_on_twice d z = cell_on_turned d.forward d.axis z

-- a cell is the one at its own coordinates, along three axes
pub at_own_coordinates : (cell : Cell) (a b c : Axis) → AreAcross a b c → at_places a (coordinate a cell) b (coordinate b cell) c (coordinate c cell) ≡ cell
at_own_coordinates cell = across_each (λ a b c. at_places a (coordinate a cell) b (coordinate b cell) c (coordinate c cell) ≡ cell) inorder turned
  where
    inorder : (a : Axis) → at_places a (coordinate a cell) (second_axis a) (coordinate (second_axis a) cell) (third_axis a) (coordinate (third_axis a) cell) ≡ cell
    inorder X = refl
    inorder Y = refl
    inorder Z = refl

    turned : (a : Axis) → at_places a (coordinate a cell) (third_axis a) (coordinate (third_axis a) cell) (second_axis a) (coordinate (second_axis a) cell) ≡ cell
    turned X = refl
    turned Y = refl
    turned Z = refl

-- the cell at given coordinates has those coordinates
pub record HasCoordinates (a b c : Axis) (i j k : ℤ) (cell : Cell) : Type 0 where
  pub first : coordinate a cell ≡ i
  pub second : coordinate b cell ≡ j
  pub third : coordinate c cell ≡ k

-- a cell that is placed along three axes has these coordinates there
pub coordinates_at : (i j k : ℤ) (a b c : Axis) → AreAcross a b c → HasCoordinates a b c i j k (at_places a i b j c k)
coordinates_at i j k = across_each (λ a b c. HasCoordinates a b c i j k (at_places a i b j c k)) inorder turned
  where
    inorder : (a : Axis) → HasCoordinates a (second_axis a) (third_axis a) i j k (at_places a i (second_axis a) j (third_axis a) k)
    inorder X = record { first = refl; second = refl; third = refl }
    inorder Y = record { first = refl; second = refl; third = refl }
    inorder Z = record { first = refl; second = refl; third = refl }

    turned : (a : Axis) → HasCoordinates a (third_axis a) (second_axis a) i j k (at_places a i (third_axis a) j (second_axis a) k)
    turned X = record { first = refl; second = refl; third = refl }
    turned Y = record { first = refl; second = refl; third = refl }
    turned Z = record { first = refl; second = refl; third = refl }

-- each cell is the one at its own places along, across and away
pub cell_at_its_places : (f : Frame) → IsFrame f → (upright : Bool) (c : Cell)
    → cell_in f upright (place_of (along f upright) c) (place_of (across f upright) c) (place_of f.away c) ≡ c
cell_at_its_places f is upright c =
    let p = cell_on_twice (along f upright) (coordinate (along f upright).axis c) in
    let q = cell_on_twice (across f upright) (coordinate (across f upright).axis c) in
    let r = cell_on_twice f.away (coordinate f.away.axis c) in
    (λ t. at_places (along f upright).axis (p t) (across f upright).axis (q t) f.away.axis (r t))
    ∙ at_own_coordinates c (along f upright).axis (across f upright).axis f.away.axis (across_along f is upright)

-- the cell at given places has those places
pub record HasPlaces (f : Frame) (upright : Bool) (i j k : ℤ) (c : Cell) : Type 0 where
  pub along_is : place_of (along f upright) c ≡ i
  pub across_is : place_of (across f upright) c ≡ j
  pub away_is : place_of f.away c ≡ k

-- a cell that is told by its places in a view has them
pub places_of_cell_in : (f : Frame) → IsFrame f → (upright : Bool) (i j k : ℤ) → HasPlaces f upright i j k (cell_in f upright i j k)
places_of_cell_in f is upright i j k =
    let at = coordinates_at (cell_on (along f upright) i) (cell_on (across f upright) j) (cell_on f.away k) _ _ _ (across_along f is upright) in
    record {
      along_is = ap (cell_on (along f upright)) at.first ∙ cell_on_twice (along f upright) i;
      across_is = ap (cell_on (across f upright)) at.second ∙ cell_on_twice (across f upright) j;
      away_is = ap (cell_on f.away) at.third ∙ cell_on_twice f.away k;
    }
