-- A matching solid is constant on each block and empty outside.
use Rattle.std.proofs.Common.{◌≡◌, ◌≢◌, inl, inr, Bool, true, false, suc, List, pos, ◌-ℤ◌, IsTrue, refl, sym, ap, subst, ◌∙◌, arith}
use Rattle.std.proofs.lemmas.Bool.{false≢true, true≢false, both_ways, or_parts, cond-true, cond-false, false_from_ne_true, true_from_ne_false}
use Rattle.solid_model.specs.declared.cell.Axis.{Axis}
use Rattle.solid_model.specs.declared.cell.Axis.TheVariants.{X, Y, Z}
use Rattle.solid_model.specs.declared.cell.Cell.{Cell}
use Rattle.solid_model.specs.declared.segment.Segment.{Segment}
use Rattle.solid_model.specs.declared.segment.Style.{Style}
use Rattle.solid_model.specs.Blocks.{Joined, IsOutside}
use Rattle.solid_model.specs.Cells.{coordinate, cell_before, is_full}
use Rattle.solid_model.specs.Edges.{is_edge}
use Rattle.solid_model.specs.Grid.{LiesInGridCell}
use Rattle.solid_model.specs.Matching.{Matches}
use Rattle.solid_model.specs.Panels.{GridParts, coordinates_of, IsGridOf}
use Rattle.solid_model.specs.WalledBoxes.{is_below, is_within, same_axis, face_sizes, Passes, LeadsOut}
use Rattle.solid_model.specs.VirtualFaces.{axis_across_both, is_barred, Bars, IsVirtual}
use Rattle.solid_model.specs.GridBox.{grid_sizes, grid_cell_of, IsGridFullness}
use Rattle.solid_model.proofs.BoxCells.{below-more, below-next, outside-below}
use Rattle.lemmas.proofs.Chains.{reaches-keeps}
use Rattle.solid_model.proofs.GridFillings.{IsFlatFace, flat_after, flat_before}
use Rattle.solid_model.proofs.GridFullness.{full_within, grid_fullness, is_grid_fullness}
use Rattle.solid_model.proofs.InGrid.{placed_at}
use Rattle.solid_model.proofs.PseudoEdges.{same_axis-true, edges_are_pseudo}

-- two Bools that can't differ are one
never_differ : (x y : Bool) → (x ≢ y → ⊥) → x ≡ y
never_differ true true h = refl
never_differ true false h = absurd (h true≢false)
never_differ false true h = absurd (h false≢true)
never_differ false false h = refl

-- placed along one axis, a cell keeps its coordinates along the others
kept_coordinate : (a b : Axis) (c : Cell) → same_axis a b ≡ false → coordinate b (cell_before a c) ≡ coordinate b c
kept_coordinate X X c e = absurd (true≢false e)
kept_coordinate Y Y c e = absurd (true≢false e)
kept_coordinate Z Z c e = absurd (true≢false e)
kept_coordinate a b c e = refl

module _ (drawing : Segment → Style) (g : GridParts) (grid : IsGridOf drawing g) (s : List Cell) (matches : Matches drawing s)
    (full : Cell → Bool) (counts : IsGridFullness g s full) where
  -- ---- faces

  -- where no bar stands, the face is another than the one before it, and the grid edge between them is no edge of the solid
  record IsOpen (a b : Axis) (n : Cell) : Type 0 where
    other : same_axis a b ≡ false
    no_edge : is_edge full (axis_across_both a b) n ≡ false

  open_between : (a b : Axis) (n : Cell) → (Bars g a b n → ⊥) → IsOpen a b n
  open_between a b n unbarred =
      let parts = or_parts (same_axis a b) _ (false_from_ne_true (is_barred g a b n) unbarred) in
      record {
        other = parts.0;
        no_edge = false_from_ne_true _ (λ edge. both_ways _ parts.1
            (edges_are_pseudo drawing g grid s matches full counts (axis_across_both a b) n edge));
      }

  -- so the cells on both sides of one agree where those of the other do
  flat_step : (a : Axis) (n m : Cell) → Passes (Bars g a) n m → IsFlatFace full a m → IsFlatFace full a n
  flat_step a n m (b, inl (at, unbarred)) flat =
      let open_here = open_between a b n unbarred in
      flat_after full a b n open_here.other open_here.no_edge (subst (IsFlatFace full a) at flat)
  flat_step a n m (b, inr (at, unbarred)) flat =
      let open_here = open_between a b m unbarred in
      subst (IsFlatFace full a) (sym at) (flat_before full a b m open_here.other open_here.no_edge flat)

  -- a cell that is outside the box along some axis is empty
  empty_along : (n : Cell) (a : Axis) → is_below (grid_sizes g a) (coordinate a n) ≡ false → full n ≡ false
  empty_along n a out = false_from_ne_true (full n) (λ h. both_ways _ out (full_within drawing g grid s matches full counts n h a))

  -- outside the box of faces both cells are empty
  flat_outside : (a : Axis) (n : Cell) → is_within (face_sizes (grid_sizes g) a) n ≡ false → IsFlatFace full a n
  flat_outside a n out = let along = outside-below (face_sizes (grid_sizes g) a) n out in by along.0 (same_axis a along.0) refl along.1
    where
      by : (b : Axis) (t : Bool) → same_axis a b ≡ t → is_below (face_sizes (grid_sizes g) a b) (coordinate b n) ≡ false → IsFlatFace full a n
      by b true same beyond =
          let size = grid_sizes g b in
          let e : is_below (suc size) (coordinate b n) ≡ false =
          ap (λ k. is_below k (coordinate b n)) (sym (cond-true (same_axis a b) (suc size) size same)) ∙ beyond in
          let before : coordinate b (cell_before a n) ≡ coordinate b n -ℤ pos 1 =
          ap (λ x. coordinate b (cell_before x n)) (same_axis-true a b same) ∙ placed_at b (coordinate b n -ℤ pos 1) n in
          empty_along n b (false_from_ne_true _ (λ h. both_ways _ e (below-more size (suc size) (omega arith) (coordinate b n) h)))
          ∙ sym (empty_along (cell_before a n) b (ap (is_below size) before
          ∙ false_from_ne_true _ (λ h. both_ways _ e (below-next size (suc size) (omega arith) (coordinate b n) h))))
      by b false other beyond =
          let size = grid_sizes g b in
          let e : is_below size (coordinate b n) ≡ false =
          ap (λ k. is_below k (coordinate b n)) (sym (cond-false (same_axis a b) (suc size) size other)) ∙ beyond in
          empty_along n b e ∙ sym (empty_along (cell_before a n) b (ap (is_below size) (kept_coordinate a b n other) ∙ e))

  -- from a chain's end outside the cells on both sides agree all along it
  flat_where_leading_out : (a : Axis) (n : Cell) → LeadsOut (face_sizes (grid_sizes g) a) (Bars g a) n → IsFlatFace full a n
  flat_where_leading_out a n (m, chain, out) =
      reaches-keeps (Passes (Bars g a)) (λ c. IsFlatFace full a c → IsFlatFace full a n) (λ c d back step flat. back (flat_step a c d step flat))
      n m (λ flat. flat) chain (flat_outside a m out)

  -- so the cells on both sides of a face that isn't virtual agree
  pub flat_unless_virtual : (a : Axis) (n : Cell) → (IsVirtual g a n → ⊥) → IsFlatFace full a n
  flat_unless_virtual a n none = never_differ (full n) (full (cell_before a n)) (λ differ.
      none (true_from_ne_false _ (λ out. differ (flat_outside a n out)), λ leads. differ (flat_where_leading_out a n leads)))

  -- ---- blocks

  same_across : (n m : Cell) → Passes (IsVirtual g) n m → full n ≡ full m
  same_across n m (a, inl (at, none)) = flat_unless_virtual a n none ∙ ap full (sym at)
  same_across n m (a, inr (at, none)) = ap full at ∙ sym (flat_unless_virtual a m none)

  same_in_block : (n m : Cell) → Joined g n m → full n ≡ full m
  same_in_block n m chain = reaches-keeps (Passes (IsVirtual g)) (λ c. full n ≡ full c) (λ c d same step. same ∙ same_across c d step) n m refl chain

  empty_outside : (n : Cell) → IsOutside g n → full n ≡ false
  empty_outside n (m, chain, out) = same_in_block n m chain ∙ counts.outside m out

-- ---- in unit cells

module _ (drawing : Segment → Style) (g : GridParts) (grid : IsGridOf drawing g) (s : List Cell) (matches : Matches drawing s) where
  full_here : Cell → Bool
  full_here = grid_fullness drawing g grid s matches

  counts_here : IsGridFullness g s full_here
  unfolding full_here
  counts_here = is_grid_fullness drawing g grid s matches

  -- the solid can be counted in grid cells
  pub some_fullness : (full : Cell → Bool) × IsGridFullness g s full
  some_fullness = (full_here, counts_here)

  -- cells that are joined are full together or empty together
  pub same_in_joined : (n m c d : Cell) → IsTrue (is_within (grid_sizes g) n) → IsTrue (is_within (grid_sizes g) m) → Joined g n m
      → LiesInGridCell (coordinates_of g) (grid_cell_of n) c → LiesInGridCell (coordinates_of g) (grid_cell_of m) d → is_full s c ≡ is_full s d
  same_in_joined n m c d at_n at_m chain in_n in_m =
      sym (counts_here.inside n c at_n in_n) ∙ same_in_block drawing g grid s matches full_here counts_here n m chain
      ∙ counts_here.inside m d at_m in_m

  -- a cell outside is empty
  pub empty_in_outside : (n c : Cell) → IsTrue (is_within (grid_sizes g) n) → IsOutside g n
      → LiesInGridCell (coordinates_of g) (grid_cell_of n) c → is_full s c ≡ false
  empty_in_outside n c at_n out in_n = sym (counts_here.inside n c at_n in_n) ∙ empty_outside drawing g grid s matches full_here counts_here n out
