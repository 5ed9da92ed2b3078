-- An outermost full cell draws an outermost edge, so a solid lies within what a view shows of it.
use Rattle.std.proofs.Common.{◌≡◌, Bool, true, false, ◌&&◌, List, ℤ, pos, ◌+ℤ◌, ◌-ℤ◌, ◌≤ℤ◌, ◌<ℤ◌, IsTrue, Decides, refl, ap, sym, subst, ◌∙◌, arith}
use Rattle.std.specs.Ordering.{int_eq}
use Rattle.std.proofs.lemmas.Bool.{false_from_ne_true}
use Rattle.std.proofs.lemmas.Bool.Decides.{Decides-int_eq, Decides-and}
use Rattle.std.proofs.lemmas.Int.{ints}
use Rattle.solid_model.specs.declared.cell.Cell.{Cell}
use Rattle.solid_model.specs.declared.frame.Frame.{Frame}
use Rattle.solid_model.specs.declared.frame.View.{View}
use Rattle.solid_model.specs.declared.segment.Segment.{Segment}
use Rattle.solid_model.specs.declared.segment.Style.{Style}
use Rattle.solid_model.specs.Boxes.{place_of, LiesInRectangle, FitsIn, StandsBetween}
use Rattle.solid_model.specs.Cells.{is_full}
use Rattle.solid_model.specs.Columns.{cell_in}
use Rattle.solid_model.specs.Draws.{has_edge, DrawsView}
use Rattle.solid_model.specs.Edges.{is_edge_of}
use Rattle.solid_model.specs.Frames.{IsFrame, along, across}
use Rattle.solid_model.specs.Segments.{segment_at}
use Rattle.solid_model.proofs.Fullness.{is_full-member, member-is_full}
use Rattle.lemmas.proofs.Lists.{least_member, greatest_member}
use Rattle.solid_model.proofs.Styles.{edge_not_blank}
use Rattle.solid_model.proofs.Views.{has_edge_at, cell_at_its_places, places_of_cell_in}

-- an end of a direction: toward the least places or toward the greatest
pub data End : Type 0 where
  Least : End
  Greatest : End

-- place a is at least as far out as place b
abbrev pub IsOuter : End → ℤ → ℤ → Type 0
IsOuter Least a b = a ≤ℤ b
IsOuter Greatest a b = b ≤ℤ a

-- the outer line of the cells at place j
abbrev pub outer_line : End → ℤ → ℤ
outer_line Least j = j
outer_line Greatest j = j +ℤ pos 1

-- the cells at place j lie on the inner side of the line
abbrev pub IsInnerSide : End → ℤ → ℤ → Type 0
IsInnerSide Least line j = line ≤ℤ j
IsInnerSide Greatest line j = j <ℤ line

-- the cells at a place that is no farther out lie on the inner side of the outer line
inner_from_outer : (end : End) (a b : ℤ) → IsOuter end a b → IsInnerSide end (outer_line end a) b
inner_from_outer Least a b h = h
inner_from_outer Greatest a b h = omega (arith, ints)

-- of the full cells one is outermost by a measure
pub outermost_by : (end : End) (f : Cell → ℤ) (s : List Cell) (c : Cell) → IsTrue (is_full s c)
    → (m : Cell) × IsTrue (is_full s m) × ((b : Cell) → IsTrue (is_full s b) → IsOuter end (f m) (f b))
outermost_by Least f s c full =
    let m = least_member f (λ _. true) s c (is_full-member s c full) refl in
    (m.0, member-is_full s m.0 m.1, λ b h. m.3 b (is_full-member s b h) refl)
outermost_by Greatest f s c full =
    let m = greatest_member f (λ _. true) s c (is_full-member s c full) refl in
    (m.0, member-is_full s m.0 m.1, λ b h. m.3 b (is_full-member s b h) refl)

module _ (f : Frame) (is : IsFrame f) (s : List Cell) (upright : Bool) where
  -- the places of a cell in the frame
  abbrev i_of : Cell → ℤ
  i_of = place_of (along f upright)

  abbrev j_of : Cell → ℤ
  j_of = place_of (across f upright)

  abbrev k_of : Cell → ℤ
  k_of = place_of f.away

  -- the full cell m is outermost across the segments of a kind, and nearest in its column
  record IsFrontier (end : End) (m : Cell) : Type 0 where
    full : IsTrue (is_full s m)
    outermost : (b : Cell) → IsTrue (is_full s b) → IsOuter end (j_of m) (j_of b)
    nearest : (b : Cell) → IsTrue (is_full s b) → i_of b ≡ i_of m → j_of b ≡ j_of m → k_of m ≤ℤ k_of b

  -- b stands in m's column
  abbrev is_in_column : Cell → Cell → Bool
  is_in_column m b = int_eq (i_of b) (i_of m) && int_eq (j_of b) (j_of m)

  Decides-is_in_column : (m b : Cell) → Decides (is_in_column m b) ((i_of b ≡ i_of m) × (j_of b ≡ j_of m))
  Decides-is_in_column m b = Decides-and _ _ (Decides-int_eq _ _) (Decides-int_eq _ _)

  -- the nearest full cell in the column of an outermost one
  frontier : (end : End) (c : Cell) → IsTrue (is_full s c) → (m : Cell) × IsFrontier end m
  frontier end c full =
      let o = outermost_by end j_of s c full in
      let n = least_member k_of (is_in_column o.0) s o.0 (is_full-member s o.0 o.1) ((Decides-is_in_column o.0 o.0).1 (refl, refl)) in
      let same = (Decides-is_in_column o.0 n.0).0 n.2 in (
        n.0,
        record {
          full = member-is_full s n.0 n.1;
          outermost = λ b h. subst (λ j. IsOuter end j (j_of b)) (sym same.1) (o.2 b h);
          nearest = λ b h p q. n.3 b (is_full-member s b h) ((Decides-is_in_column o.0 b).1 (p ∙ same.0, q ∙ same.1));
        },
      )

  -- the cell at the frontier cell's own places is full
  full_at_frontier : (end : End) (m : Cell) → IsFrontier end m → (j : ℤ) → j ≡ j_of m → is_full s (cell_in f upright (i_of m) j (k_of m)) ≡ true
  full_at_frontier end m h j e =
      ap (λ a. is_full s (cell_in f upright (i_of m) a (k_of m))) e ∙ ap (is_full s) (cell_at_its_places f is upright m) ∙ h.full

  -- a cell that would be farther out, or nearer in the column, is empty
  empty_at_frontier : (end : End) (m : Cell) → IsFrontier end m → (j k : ℤ)
      → (IsOuter end (j_of m) j → (j ≡ j_of m → k_of m ≤ℤ k) → ⊥) → is_full s (cell_in f upright (i_of m) j k) ≡ false
  empty_at_frontier end m h j k none =
      let c : Cell = cell_in f upright (i_of m) j k in
      let at = places_of_cell_in f is upright (i_of m) j k in
      false_from_ne_true (is_full s c) (λ full.
      none (subst (IsOuter end (j_of m)) at.across_is (h.outermost c full))
      (λ e. subst (λ z. k_of m ≤ℤ z) at.away_is (h.nearest c full at.along_is (at.across_is ∙ e))))

  -- the segment that begins at the start, on the line
  abbrev segment_on : View → ℤ → ℤ → Segment
  segment_on v start line = segment_at v upright start line

  -- an edge on it, by the four cells round it
  edge_on : (v : View) (i j k : ℤ) → has_edge f (is_full s) (segment_on v i j) k ≡ is_edge_of
      (is_full s (cell_in f upright i j k)) (is_full s (cell_in f upright i (j -ℤ pos 1) k))
      (is_full s (cell_in f upright i j (k -ℤ pos 1))) (is_full s (cell_in f upright i (j -ℤ pos 1) (k -ℤ pos 1)))
  edge_on v i j k = has_edge_at f is (is_full s) v upright i j k

  -- an edge stands on the outer line of the frontier cell, at its near side
  frontier_edge : (v : View) (end : End) (m : Cell) → IsFrontier end m → has_edge f (is_full s) (segment_on v (i_of m) (outer_line end (j_of m))) (k_of m) ≡ true
  frontier_edge v Least m h =
      let j = j_of m in let k = k_of m in
      let here = full_at_frontier Least m h j refl in
      let beyond = λ (n : ℤ). empty_at_frontier Least m h (j -ℤ pos 1) n (λ p q. omega (arith, ints)) in
      let nearer = empty_at_frontier Least m h j (k -ℤ pos 1) (λ p q. let r = q refl in omega (arith, ints)) in
      edge_on v (i_of m) j k ∙ (λ t. is_edge_of (here t) (beyond k t) (nearer t) (beyond (k -ℤ pos 1) t))
  frontier_edge v Greatest m h =
      let j = j_of m in let k = k_of m in
      let back : (j +ℤ pos 1) -ℤ pos 1 ≡ j = omega (arith, ints) in
      let here = full_at_frontier Greatest m h ((j +ℤ pos 1) -ℤ pos 1) back in
      let beyond = λ (n : ℤ). empty_at_frontier Greatest m h (j +ℤ pos 1) n (λ p q. omega (arith, ints)) in
      let nearer = empty_at_frontier Greatest m h ((j +ℤ pos 1) -ℤ pos 1) (k -ℤ pos 1) (λ p q. let r = q back in omega (arith, ints)) in
      edge_on v (i_of m) (j +ℤ pos 1) k ∙ (λ t. is_edge_of (beyond k t) (here t) (beyond (k -ℤ pos 1) t) (nearer t))

-- A segment on the outer line of an outermost full cell, with an edge: every full cell lies on its inner side.
pub record IsOutermost (f : Frame) (s : List Cell) (v : View) (upright : Bool) (end : End) : Type 0 where
  pub start : ℤ
  pub line : ℤ
  pub depth : ℤ
  pub edge : IsTrue (has_edge f (is_full s) (segment_at v upright start line) depth)
  pub cell : Cell
  pub beside : line ≡ outer_line end (place_of (across f upright) cell)
  pub inner : (b : Cell) → IsTrue (is_full s b) → IsInnerSide end line (place_of (across f upright) b)

-- where a cell is full, an outermost full cell draws an outermost edge, in each frame, on level or upright segments, at either end
pub outermost : (f : Frame) → IsFrame f → (s : List Cell) (v : View) (upright : Bool) (end : End) (c : Cell) → IsTrue (is_full s c) → IsOutermost f s v upright end
outermost f is s v upright end c full =
    let at = frontier f is s upright end c full in
    let m : Cell = at.0 in
    let j : ℤ = place_of (across f upright) m in
    record {
      start = place_of (along f upright) m;
      line = outer_line end j;
      depth = place_of f.away m;
      edge = frontier_edge f is s upright v end m at.1;
      cell = m;
      beside = refl;
      inner = λ b h. inner_from_outer end j (place_of (across f upright) b) (at.1.outermost b h);
    }

-- the places of a full cell, to the right and up, lie within the rectangle of what is drawn
pub lies_in_rectangle : (f : Frame) → IsFrame f → (drawing : Segment → Style) (s : List Cell) (v : View) → DrawsView f (is_full s) drawing v
    → (width height : ℤ) → FitsIn drawing v width height → (c : Cell) → IsTrue (is_full s c)
    → StandsBetween (pos 0) width f.right c × StandsBetween (pos 0) height f.up c
lies_in_rectangle f is drawing s v draws width height fits c full =
    let at = λ (upright : Bool) (end : End). outermost f is s v upright end c full in
    let inner = λ (upright : Bool) (end : End). (at upright end).inner c full in
    let left = within true Least (at true Least) in let right = within true Greatest (at true Greatest) in
    let bottom = within false Least (at false Least) in let top = within false Greatest (at false Greatest) in
    let p = inner true Least in let q = inner true Greatest in let r = inner false Least in let t = inner false Greatest in
    ((omega (arith, ints, left.left), omega (arith, ints, right.right)), (omega (arith, ints, bottom.bottom), omega (arith, ints, top.top)))
  where
    -- the segment of an outermost edge lies in the rectangle
    within : (upright : Bool) (end : End) (o : IsOutermost f s v upright end) → LiesInRectangle width height (segment_at v upright o.start o.line)
    within upright end o =
        let g : Segment = segment_at v upright o.start o.line in
        fits g refl (edge_not_blank f (is_full s) g (drawing g) (draws g refl) o.depth o.edge)
