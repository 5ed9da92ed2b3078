-- Whether a line can still be met is computed, where the blocks are numbered in the grid's own box.
use Rattle.std.proofs.Common.{◌≡◌, ◌↔◌, Bool, true, false, ℕ, ℤ, pos, negsuc, ◌-ℤ◌, ◌≤ℤ◌, ◌<ℤ◌, Option, Some, None, IsTrue, if◌then◌else◌, ap, sym, subst, arith}
use Rattle.std.proofs.lemmas.Bool.{false_from_ne_true}
use Rattle.std.proofs.lemmas.Int.{ints}
use Rattle.solid_model.specs.declared.cell.Axis.{Axis}
use Rattle.solid_model.specs.declared.cell.Cell.{Cell}
use Rattle.solid_model.specs.declared.frame.Direction.{Direction}
use Rattle.solid_model.specs.declared.frame.Frame.{Frame}
use Rattle.solid_model.specs.declared.line_id.LineId.{LineId}
use Rattle.solid_model.specs.Blocks.{BlockNumbers, ProblemParts, block_at}
use Rattle.solid_model.specs.Demands.{line_style, known_in, known_cell, coordinate_on, box_cell_in, known_column, known_after, known_before, CanBeMet, can_be_met}
use Rattle.solid_model.specs.Frames.{IsFrame, frame_of, along, across}
use Rattle.solid_model.specs.PerAxis.{numbers_of}
use Rattle.solid_model.specs.WalledBoxes.{Sizes, is_below, is_within, number_at}
use Rattle.solid_model.specs.GridBox.{grid_sizes}
use Rattle.solid_model.proofs.BoxCells.{below-bounds, within-below}
use Rattle.column_laws.proofs.SettledColumns.{IsEmptyBeyond}
use Rattle.column_laws.proofs.SightLines.{drawing_computed}
use Rattle.solid_model.proofs.Views.{views_are_frames, across_along, coordinates_at}

-- ---- depths of a box

-- a depth whose coordinate is one of the box is one of its depths
depth_within : (size : ℕ) (forward : Bool) (k : ℤ) → is_below size (if forward then k else ((pos size -ℤ pos 1) -ℤ k)) ≡ true
    → (pos 0 ≤ℤ k) × (k <ℤ pos size)
depth_within size true k below = below-bounds size k below
depth_within size false k below = let r = below-bounds size ((pos size -ℤ pos 1) -ℤ k) below in (omega (arith, ints, r.0, r.1), omega (arith, ints, r.0, r.1))

-- so the cell at another depth stands outside
pub outside_at_depth : (sizes : Sizes) (f : Frame) → IsFrame f → (upright : Bool) (i j k : ℤ) → ((pos 0 ≤ℤ k) × (k <ℤ pos (sizes f.away.axis)) → ⊥)
    → is_within sizes (box_cell_in sizes f upright i j k) ≡ false
outside_at_depth sizes f is upright i j k out = false_from_ne_true _ (λ within.
    let at = coordinates_at (on (along f upright) i) (on (across f upright) j) (on f.away k) _ _ _ (across_along f is upright) in
    out (depth_within (sizes f.away.axis) f.away.forward k (subst (λ z. is_below (sizes f.away.axis) z ≡ true) at.third
    (within-below sizes (box_cell_in sizes f upright i j k) within f.away.axis))))
  where
    on : Direction → ℤ → ℤ
    on d = coordinate_on (sizes d.axis) d

-- ---- what is known beyond the box

-- the blocks are numbered in the grid's own box
abbrev pub AreSized : ProblemParts → Type 0
AreSized p = (a : Axis) → numbers_of p.blocks.sizes a ≡ grid_sizes p.grid a

-- a cell outside has no block
block_outside : (b : BlockNumbers) (n : Cell) → is_within (numbers_of b.sizes) n ≡ false → block_at b n ≡ None
block_outside b n out = ap (λ w. if w then number_at (numbers_of b.sizes) b.numbers n else None) out

-- and is known to be empty
pub known_outside : (b : BlockNumbers) (known : ℕ → Option Bool) (n : Cell) → is_within (numbers_of b.sizes) n ≡ false → known_cell b known n ≡ Some false
known_outside b known n out = ap (known_in known) (block_outside b n out)

-- so there is no block beside a line beyond the depths of the box
pub none_beyond : (p : ProblemParts) → AreSized p → (l : LineId) (j k : ℤ) → ((pos 0 ≤ℤ k) × (k <ℤ pos (grid_sizes p.grid (frame_of l.view).away.axis)) → ⊥)
    → block_at p.blocks (box_cell_in (grid_sizes p.grid) (frame_of l.view) l.upright (pos l.cell) j k) ≡ None
none_beyond p sized l j k out = block_outside p.blocks (box_cell_in (grid_sizes p.grid) (frame_of l.view) l.upright (pos l.cell) j k)
    (subst (λ (sizes : Sizes). is_within sizes (box_cell_in (grid_sizes p.grid) (frame_of l.view) l.upright (pos l.cell) j k) ≡ false) (λ t a. sym (sized a) t)
    (outside_at_depth (grid_sizes p.grid) (frame_of l.view) (views_are_frames l.view) l.upright (pos l.cell) j k out))

module _ (p : ProblemParts) (sized : AreSized p) (known : ℕ → Option Bool) (l : LineId) where
  abbrev column : ℤ → ℤ → Option Bool
  column = known_column p.grid (known_cell p.blocks known) l

  abbrev depths : ℕ
  depths = grid_sizes p.grid (frame_of l.view).away.axis

  known_off : (j k : ℤ) → ((pos 0 ≤ℤ k) × (k <ℤ pos depths) → ⊥) → column j k ≡ Some false
  known_off j k out = ap (known_in known) (none_beyond p sized l j k out)

  -- beyond the depths of the box a column is known to be empty
  pub column_beyond : (j : ℤ) → IsEmptyBeyond depths (column j)
  column_beyond j = record {
    nearer = λ k. known_off j (negsuc k) (λ r. let low = r.0 in omega (arith, ints));
    farther = λ k m. known_off j (pos k) (λ r. let high = r.1 in omega (arith, ints));
  }

  -- a line can be met exactly where the test says so
  pub met_computed : IsTrue (can_be_met p known l) ↔ CanBeMet p known l
  met_computed = drawing_computed (known_after p.grid (known_cell p.blocks known) l) (known_before p.grid (known_cell p.blocks known) l) depths
      (column_beyond (pos l.at)) (column_beyond (pos l.at -ℤ pos 1)) (line_style p.grid l)
