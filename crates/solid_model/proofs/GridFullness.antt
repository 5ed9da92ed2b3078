-- A matching solid, counted in grid cells: round a grid edge it fills the cells that it fills round the unit edge at its beginning.
use Rattle.std.proofs.Common.{◌≡◌, inl, ⊎_elim, Bool, true, false, ◌&&◌, ℕ, zero, suc, ◌-◌, List, length, ℤ, pos, negsuc, ◌-ℤ◌, ◌<ℤ◌, refl, ap, sym, subst, ◌∙◌, arith}
use Rattle.std.proofs.lemmas.Bool.{false≢true, both_ways, false_from_ne_true, true_from_ne_false, ltb-true, ltb-false, lt-ltb}
use Rattle.std.proofs.lemmas.Int.{ints}
use Rattle.solid_model.specs.declared.cell.Axis.{Axis}
use Rattle.solid_model.specs.declared.cell.Axis.TheVariants.{X, Y, Z}
use Rattle.solid_model.specs.declared.cell.Cell.{Cell}
use Rattle.solid_model.specs.declared.segment.Segment.{Segment}
use Rattle.solid_model.specs.declared.segment.Style.{Style}
use Rattle.solid_model.specs.Cells.{coordinate, is_full}
use Rattle.solid_model.specs.Edges.{AreAcross, second_axis, third_axis, is_edge, is_edge_of}
use Rattle.solid_model.specs.Frames.{at_places}
use Rattle.solid_model.specs.Grid.{is_in_gap, LiesInGridCell}
use Rattle.lemmas.specs.Lists.{Ascends}
use Rattle.solid_model.specs.Matching.{Matches}
use Rattle.solid_model.specs.Panels.{GridParts, coordinates_of, IsGridOf}
use Rattle.solid_model.specs.WalledBoxes.{is_below, is_within, place_of_number}
use Rattle.solid_model.specs.GridBox.{grid_sizes, grid_cell_of, IsGridFullness}
use Rattle.solid_model.proofs.BoxCells.{below-more, below-next, within-below, outside-below}
use Rattle.solid_model.proofs.Gaps.{member_of, begins_gap, ends_gap, last_in_none, before_first_in_none}
use Rattle.solid_model.proofs.InGrid.{agree_in_grid_cell, lies_in_grid}
use Rattle.solid_model.proofs.Styles.{full_beside_edge}
use Rattle.solid_model.proofs.Views.{each_axis, coordinates_at, at_own_coordinates, edge_across}

-- ---- places and the numbers of gaps

-- z stands at the number k of a list: in the gap of that number, or in none where there is no such gap
record StandsAt (zs : List ℤ) (k z : ℤ) : Type 0 where
  inside : is_below (length zs - 1) k ≡ true → is_in_gap zs (place_of_number k) z ≡ true
  outside : is_below (length zs - 1) k ≡ false → (m : ℕ) → is_in_gap zs m z ≡ true → ⊥

stands-like : (zs : List ℤ) (k z m w : ℤ) → k ≡ m → z ≡ w → StandsAt zs m w → StandsAt zs k z
stands-like zs k z m w p q stands = subst (λ x. StandsAt zs k x) (sym q) (subst (λ x. StandsAt zs x w) (sym p) stands)

module _ (zs : List ℤ) (ascends : Ascends ◌<ℤ◌ zs) where
  -- a member stands at its number,
  stands_at : (k : ℤ) → is_below (length zs) k ≡ true → StandsAt zs k (member_of zs k)
  stands_at (pos k) h = record {
    inside = λ e. begins_gap zs ascends k (let l = ltb-true k (length zs - 1) e in omega arith);
    outside = λ e. last_in_none zs ascends k (let l = ltb-true k (length zs) h in let m = ltb-false k (length zs - 1) e in omega arith);
  }
  stands_at (negsuc k) h = absurd (false≢true h)

  -- and the place before it at the number before
  stands_before : (k : ℤ) → is_below (length zs) k ≡ true → StandsAt zs (k -ℤ pos 1) (member_of zs k -ℤ pos 1)
  stands_before (pos zero) h = record { inside = λ e. absurd (false≢true e); outside = λ e m. before_first_in_none zs ascends m }
  stands_before (pos (suc k)) h =
      let before : pos k ≡ pos (suc k) -ℤ pos 1 = omega (arith, ints) in
      subst (λ j. StandsAt zs j (member_of zs (pos (suc k)) -ℤ pos 1)) before (record {
        inside = λ e. ends_gap zs ascends k (ltb-true (suc k) (length zs) h);
        outside = λ e. absurd (both_ways _ e (lt-ltb k (length zs - 1) (let l = ltb-true (suc k) (length zs) h in omega arith)));
      })
  stands_before (negsuc k) h = absurd (false≢true h)

-- ---- a matching solid

module _ (drawing : Segment → Style) (g : GridParts) (grid : IsGridOf drawing g) (s : List Cell) (matches : Matches drawing s) where
  ascends_along : (a : Axis) → Ascends ◌<ℤ◌ (coordinates_of g a)
  ascends_along a = (grid.coordinates a).ordered

  -- the least unit cell of a grid cell
  abbrev least_cell : Cell → Cell
  least_cell n = record { x = member_of g.xs n.x; y = member_of g.ys n.y; z = member_of g.zs n.z }

  -- the number of a gap is that of the member with which it begins
  member-below : (a : Axis) (z : ℤ) → is_below (grid_sizes g a) z ≡ true → is_below (length (coordinates_of g a)) z ≡ true
  member-below a = below-more (grid_sizes g a) (length (coordinates_of g a)) (omega arith)

  lies_there : (n : Cell) → is_within (grid_sizes g) n ≡ true → LiesInGridCell (coordinates_of g) (grid_cell_of n) (least_cell n)
  lies_there n within = along
    where
      at : (a : Axis) → is_in_gap (coordinates_of g a) (grid_cell_of n a) (member_of (coordinates_of g a) (coordinate a n)) ≡ true
      at a =
          let below = within-below (grid_sizes g) n within a in
          (stands_at (coordinates_of g a) (ascends_along a) (coordinate a n) (member-below a (coordinate a n) below)).inside below

      along : (a : Axis) → is_in_gap (coordinates_of g a) (grid_cell_of n a) (coordinate a (least_cell n)) ≡ true
      along X = at X
      along Y = at Y
      along Z = at Z

  -- it has a count in grid cells
  pub grid_fullness : Cell → Bool
  grid_fullness n = is_within (grid_sizes g) n && is_full s (least_cell n)

  -- it is the fullness of the solid, counted in grid cells
  pub is_grid_fullness : IsGridFullness g s grid_fullness
  unfolding grid_fullness
  is_grid_fullness = record {
    inside = λ n c within lies. ap (λ b. b && is_full s (least_cell n)) within
        ∙ agree_in_grid_cell drawing grid.sees s matches (coordinates_of g) grid.coordinates (grid_cell_of n) (least_cell n) c (lies_there n within) lies;
    outside = λ n out. ap (λ b. b && is_full s (least_cell n)) out;
  }

  module _ (full : Cell → Bool) (counts : IsGridFullness g s full) where
    -- a grid cell is as full as a unit cell that stands at its numbers
    counted : (n c : Cell) → ((a : Axis) → StandsAt (coordinates_of g a) (coordinate a n) (coordinate a c)) → full n ≡ is_full s c
    counted n c stands = by (is_within (grid_sizes g) n) refl
      where
        by : (t : Bool) → is_within (grid_sizes g) n ≡ t → full n ≡ is_full s c
        by true e = counts.inside n c e (λ a. (stands a).inside (within-below (grid_sizes g) n e a))
        by false e = counts.outside n e ∙ sym (false_from_ne_true (is_full s c) (λ h.
            let out = outside-below (grid_sizes g) n e in
            let gap = lies_in_grid drawing grid.sees s matches (coordinates_of g) grid.coordinates c h out.0 in
            (stands out.0).outside out.1 gap.0 gap.1))

    -- a full cell is within the box
    pub full_within : (n : Cell) → full n ≡ true → (a : Axis) → is_below (grid_sizes g a) (coordinate a n) ≡ true
    full_within n h = within-below (grid_sizes g) n (true_from_ne_false _ (λ out. both_ways (full n) (counts.outside n out) h))

    module _ (a b c : Axis) (across : AreAcross a b c) where
      -- by coordinates along three axes
      counted_at : (i j k l m n : ℤ) → StandsAt (coordinates_of g a) i l → StandsAt (coordinates_of g b) j m → StandsAt (coordinates_of g c) k n
          → full (at_places a i b j c k) ≡ is_full s (at_places a l b m c n)
      counted_at i j k l m n p q r =
          let from = coordinates_at i j k a b c across in
          let to = coordinates_at l m n a b c across in
          counted (at_places a i b j c k) (at_places a l b m c n)
          (each_axis (λ x. StandsAt (coordinates_of g x) (coordinate x (at_places a i b j c k)) (coordinate x (at_places a l b m c n))) a b c across
          (stands-like _ _ _ i l from.first to.first p) (stands-like _ _ _ j m from.second to.second q) (stands-like _ _ _ k n from.third to.third r))

      -- the numbers of a grid edge
      pub record IsEdgeWithin (i j k : ℤ) : Type 0 where
        pub at_first : is_below (grid_sizes g a) i ≡ true
        pub at_second : is_below (length (coordinates_of g b)) j ≡ true
        pub at_third : is_below (length (coordinates_of g c)) k ≡ true

      -- an edge stands within the box, since some cell beside it does
      pub edge_within : (i j k : ℤ) → is_edge full a (at_places a i b j c k) ≡ true → IsEdgeWithin i j k
      edge_within i j k edge =
          ⊎_elim {C = IsEdgeWithin i j k}
          (⊎_elim {C = IsEdgeWithin i j k} (beside j k (member-below b j) (member-below c k)) (beside (j -ℤ pos 1) k (next b j) (member-below c k)))
          (⊎_elim {C = IsEdgeWithin i j k} (beside j (k -ℤ pos 1) (member-below b j) (next c k))
          (beside (j -ℤ pos 1) (k -ℤ pos 1) (next b j) (next c k)))
          (full_beside_edge _ _ _ _ (sym (edge_across full i j k a b c across) ∙ edge))
        where
          next : (x : Axis) (z : ℤ) → is_below (grid_sizes g x) (z -ℤ pos 1) ≡ true → is_below (length (coordinates_of g x)) z ≡ true
          next x = below-next (grid_sizes g x) (length (coordinates_of g x)) (omega arith)

          beside : (m n : ℤ) → (is_below (grid_sizes g b) m ≡ true → is_below (length (coordinates_of g b)) j ≡ true)
              → (is_below (grid_sizes g c) n ≡ true → is_below (length (coordinates_of g c)) k ≡ true)
              → full (at_places a i b m c n) ≡ true → IsEdgeWithin i j k
          beside m n second third h =
              let at = coordinates_at i m n a b c across in
              let within = full_within (at_places a i b m c n) h in
              record {
                at_first = subst (λ x. is_below (grid_sizes g a) x ≡ true) at.first (within a);
                at_second = second (subst (λ x. is_below (grid_sizes g b) x ≡ true) at.second (within b));
                at_third = third (subst (λ x. is_below (grid_sizes g c) x ≡ true) at.third (within c));
              }

      -- where it is an edge of the solid, so is the unit edge at its beginning
      pub unit_edge : (i j k : ℤ) → is_edge full a (at_places a i b j c k) ≡ true
          → is_edge (is_full s) a (at_places a (member_of (coordinates_of g a) i) b (member_of (coordinates_of g b) j)
          c (member_of (coordinates_of g c) k)) ≡ true
      unit_edge i j k edge =
          edge_across (is_full s) (at a i) (at b j) (at c k) a b c across
          ∙ (λ t. is_edge_of (cell j k (at b j) (at c k) here_b here_c t) (cell (j -ℤ pos 1) k (at b j -ℤ pos 1) (at c k) before_b here_c t)
          (cell j (k -ℤ pos 1) (at b j) (at c k -ℤ pos 1) here_b before_c t)
          (cell (j -ℤ pos 1) (k -ℤ pos 1) (at b j -ℤ pos 1) (at c k -ℤ pos 1) before_b before_c t))
          ∙ sym (edge_across full i j k a b c across) ∙ edge
        where
          within : IsEdgeWithin i j k
          within = edge_within i j k edge

          at : Axis → ℤ → ℤ
          at x z = member_of (coordinates_of g x) z

          here_a : StandsAt (coordinates_of g a) i (at a i)
          here_a = stands_at (coordinates_of g a) (ascends_along a) i (member-below a i within.at_first)

          here_b : StandsAt (coordinates_of g b) j (at b j)
          here_b = stands_at (coordinates_of g b) (ascends_along b) j within.at_second

          before_b : StandsAt (coordinates_of g b) (j -ℤ pos 1) (at b j -ℤ pos 1)
          before_b = stands_before (coordinates_of g b) (ascends_along b) j within.at_second

          here_c : StandsAt (coordinates_of g c) k (at c k)
          here_c = stands_at (coordinates_of g c) (ascends_along c) k within.at_third

          before_c : StandsAt (coordinates_of g c) (k -ℤ pos 1) (at c k -ℤ pos 1)
          before_c = stands_before (coordinates_of g c) (ascends_along c) k within.at_third

          cell : (m n l o : ℤ) → StandsAt (coordinates_of g b) m l → StandsAt (coordinates_of g c) n o
              → is_full s (at_places a (at a i) b l c o) ≡ full (at_places a i b m c n)
          cell m n l o p q = sym (counted_at i m n (at a i) l o here_a p q)

    -- along its axis an edge stands within the box
    pub edge_along : (a : Axis) (n : Cell) → is_edge full a n ≡ true → is_below (grid_sizes g a) (coordinate a n) ≡ true
    edge_along a n edge =
        let own = at_own_coordinates n a (second_axis a) (third_axis a) (inl (refl, refl)) in
        (edge_within a (second_axis a) (third_axis a) (inl (refl, refl)) (coordinate a n) (coordinate (second_axis a) n) (coordinate (third_axis a) n)
        (ap (is_edge full a) own ∙ edge)).at_first
