-- The style of a grid segment, looked up, and that of its first unit segment.
use Rattle.std.proofs.Common.{◌≡◌, ◌⊎◌, inl, inr, Bool, true, false, ◌&&◌, ℕ, suc, ◌<◌, ◌≤◌, nat_lt, if◌then◌else◌, refl, ap, sym, arith, ◌+◌, ◌*◌, List, length, map, slice_index_or, ℤ, pos, negsuc, subst, ◌∙◌}
use Rattle.std.proofs.lemmas.Bool.{and_from, false≢true, ltb-true}
use Rattle.std.proofs.lemmas.List.{length-map, get_or-map, get_or-take}
use Rattle.solid_model.specs.declared.frame.View.{View}
use Rattle.solid_model.specs.declared.segment.Segment.{Segment}
use Rattle.solid_model.specs.declared.segment.Style.{Style}
use Rattle.solid_model.specs.declared.segment.Style.TheVariants.{Blank}
use Rattle.solid_model.specs.Panels.{GridParts, coordinates_of, starts_of, AreGridStyles}
use Rattle.solid_model.specs.WalledBoxes.{is_below}
use Rattle.solid_model.specs.Segments.{segment_at}
use Rattle.solid_model.specs.GridBox.{grid_sizes, axis_along, axis_across, grid_style}
use Rattle.solid_model.proofs.Corners.{length-starts_of}
use Rattle.solid_model.proofs.Gaps.{member, member_of}
use Rattle.lemmas.proofs.Concatenations.{get_or-equal_parts}

-- off the grid it is Blank
pub blank_off_grid : (line lines cell cells : ℕ) (style : Style) → (lines < line) ⊎ (cells ≤ cell)
    → Blank ≡ if nat_lt line (suc lines) && nat_lt cell cells then style else Blank
blank_off_grid line lines cell cells style (inl far) =
    let off : nat_lt line (suc lines) ≡ false = grind (arith, far) in
    sym (ap (λ (b : Bool). if b && nat_lt cell cells then style else Blank) off)
blank_off_grid line lines cell cells style (inr far) = off (nat_lt line (suc lines)) (grind (arith, far))
  where
    off : (b : Bool) → nat_lt cell cells ≡ false → Blank ≡ if b && nat_lt cell cells then style else Blank
    off true e = sym (ap (λ (b : Bool). if b then style else Blank) e)
    off false e = refl

-- on the grid it is the style that is kept
pub style_on_grid : (line lines cell cells : ℕ) (style : Style) → line ≤ lines → cell < cells
    → style ≡ if nat_lt line (suc lines) && nat_lt cell cells then style else Blank
style_on_grid line lines cell cells style l m =
    let on : (nat_lt line (suc lines) && nat_lt cell cells) ≡ true = and_from (nat_lt line (suc lines)) (nat_lt cell cells) (grind (arith, l)) (grind (arith, m)) in
    sym (ap (λ (b : Bool). if b then style else Blank) on)

-- ---- the first unit segment

module _ (drawing : Segment → Style) (g : GridParts) (styles : AreGridStyles drawing (coordinates_of g) g.panels) where
  -- on a line of the grid, by the place of the cell along it
  pub grid_style-drawing : (v : View) (upright : Bool) (line cell : ℕ)
      → line < length (coordinates_of g (axis_across v upright)) → cell < grid_sizes g (axis_along v upright)
      → grid_style g v upright (pos line) (pos cell)
      ≡ drawing (segment_at v upright
      (member (coordinates_of g (axis_along v upright)) cell) (member (coordinates_of g (axis_across v upright)) line))
  grid_style-drawing v upright line cell at_line at_cell =
      sym (style_on_grid line (grid_sizes g (axis_across v upright)) cell size _ (let l = at_line in omega arith) at_cell)
      ∙ ap (λ xs. slice_index_or xs (line * size + cell) Blank) (styles v upright)
      ∙ get_or-equal_parts (λ at. map (λ start. drawing (segment_at v upright start at)) starts) size long lines line cell Blank (pos 0) at_line at_cell
      ∙ get_or-map (λ start. drawing (segment_at v upright start (member lines line))) starts cell (pos 0) Blank
      (subst (λ n. cell < n) (sym (length-starts_of all)) at_cell)
      ∙ ap (λ start. drawing (segment_at v upright start (member lines line))) (get_or-take size all cell (pos 0) at_cell)
    where
      size : ℕ
      size = grid_sizes g (axis_along v upright)

      all : List ℤ
      all = coordinates_of g (axis_along v upright)

      lines : List ℤ
      lines = coordinates_of g (axis_across v upright)

      starts : List ℤ
      starts = starts_of all

      long : (at : ℤ) → length (map (λ start. drawing (segment_at v upright start at)) starts) ≡ size
      long at = length-map starts (λ start. drawing (segment_at v upright start at)) ∙ length-starts_of all

  -- the same by whole numbers
  pub grid_style-at : (v : View) (upright : Bool) (line cell : ℤ)
      → is_below (length (coordinates_of g (axis_across v upright))) line ≡ true → is_below (grid_sizes g (axis_along v upright)) cell ≡ true
      → grid_style g v upright line cell ≡ drawing (segment_at v upright
      (member_of (coordinates_of g (axis_along v upright)) cell) (member_of (coordinates_of g (axis_across v upright)) line))
  grid_style-at v upright (pos line) (pos cell) at_line at_cell = grid_style-drawing v upright line cell (ltb-true _ _ at_line) (ltb-true _ _ at_cell)
  grid_style-at v upright (pos line) (negsuc cell) at_line at_cell = absurd (false≢true at_cell)
  grid_style-at v upright (negsuc line) cell at_line at_cell = absurd (false≢true at_line)
