-- The blocks of the cells beside a line.
use Rattle.std.proofs.Common.{◌≡◌, Bool, false, if◌then◌else◌, ◌&&◌, ℕ, ◌<◌, ℤ, pos, None, ap, sym, subst, ◌∙◌}
use Rattle.std.proofs.lemmas.Bool.{and_right}
use Rattle.line_demands.specs.declared.gather.ColumnPlace.{ColumnPlace}
use Rattle.line_demands.specs.Gathered.{block_of_place}
use Rattle.line_demands.specs.Touching.{view_width, view_height}
use Rattle.line_demands.proofs.BoxSight.{shown_within}
use Rattle.line_demands.proofs.KeptColumns.{same_shown, in_width, in_height}
use Rattle.solid_model.specs.declared.line_id.LineId.{LineId}
use Rattle.solid_model.specs.Blocks.{ProblemParts, IsBlocksOf, block_at}
use Rattle.solid_model.specs.Demands.{box_cell_in}
use Rattle.solid_model.specs.Forcing.{place_beside, cell_beside}
use Rattle.solid_model.specs.Frames.{frame_of}
use Rattle.solid_model.specs.PerAxis.{numbers_of}
use Rattle.solid_model.specs.WalledBoxes.{Sizes, is_within, is_below, number_at}
use Rattle.solid_model.specs.GridBox.{grid_sizes, axis_along, axis_across}

module _ (p : ProblemParts) (blocks : IsBlocksOf p.grid p.blocks) (l : LineId) where
  -- a cell beyond the box is in no block
  pub none_at : (j k : ℤ) → (is_below (grid_sizes p.grid (axis_across l.view l.upright)) j && is_below (grid_sizes p.grid (frame_of l.view).away.axis) k) ≡ false
      → block_at p.blocks (box_cell_in (grid_sizes p.grid) (frame_of l.view) l.upright (pos l.cell) j k) ≡ None
  none_at j k far = ap (λ (t : Bool). if t then number_at (numbers_of p.blocks.sizes) p.blocks.numbers (box_cell_in (grid_sizes p.grid) (frame_of l.view) l.upright (pos l.cell) j k) else None)
      (ap (λ s. is_within s (box_cell_in (grid_sizes p.grid) (frame_of l.view) l.upright (pos l.cell) j k)) (λ t a. blocks.sized a t)
      ∙ shown_within (grid_sizes p.grid) l.view l.upright (pos l.cell) j k
      ∙ and_right (is_below (grid_sizes p.grid (axis_along l.view l.upright)) (pos l.cell)) _ far)

  -- the block of a cell of a column that the line has beside it
  pub block_there : (of_after : Bool) (at : ColumnPlace) (across k : ℕ) → pos across ≡ place_beside l of_after
      → at ≡ record { view = l.view; right = if l.upright then across else l.cell; up = if l.upright then l.cell else across }
      → block_of_place p at k ≡ block_at p.blocks (cell_beside p.grid l of_after (pos k))
  block_there of_after at across k place is = ap (λ (x : ColumnPlace). block_of_place p x k) is
      ∙ ap (block_at p.blocks) (same_shown (grid_sizes p.grid) l.view l.upright across l.cell (pos k)
      ∙ ap (λ x. box_cell_in (grid_sizes p.grid) (frame_of l.view) l.upright (pos l.cell) x (pos k)) place)

-- a column that a line has beside it stands within its view
pub column_stands : (sizes : Sizes) (l : LineId) (at : ColumnPlace) (across : ℕ) → at ≡ record { view = l.view; right = if l.upright then across else l.cell; up = if l.upright then l.cell else across }
    → across < sizes (axis_across l.view l.upright) → l.cell < sizes (axis_along l.view l.upright) → (at.right < view_width sizes at.view) × (at.up < view_height sizes at.view)
column_stands sizes l at across is inside cell = subst (λ (x : ColumnPlace). (x.right < view_width sizes x.view) × (x.up < view_height sizes x.view)) (sym is)
    (in_width sizes l.view l.upright across l.cell inside cell, in_height sizes l.view l.upright across l.cell inside cell)
