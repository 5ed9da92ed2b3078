-- Where the cells of a column stand in a list of all cells of a box.
use Rattle.std.proofs.Common.{◌≡◌, false, if◌then◌else◌, ℕ, ◌+◌, ◌-◌, ◌*◌, ◌<◌, pos, None, get_or, ap, ap₂, sym, ◌∙◌, arith}
use Rattle.std.proofs.Math.Nat.{add-mul, mul_assoc, zero-mul}
use Rattle.line_demands.specs.declared.gather.ColumnPlace.{ColumnPlace}
use Rattle.line_demands.specs.declared.sight.ColumnCells.{ColumnCells}
use Rattle.line_demands.specs.Gathered.{block_of_place}
use Rattle.solid_model.specs.GridPlaces.{number_on}
use Rattle.line_demands.specs.Sight.{first_place, step_away}
use Rattle.line_demands.specs.SightCells.{AreColumnCells}
use Rattle.line_demands.specs.Touching.{view_width, view_height, shown_cell}
use Rattle.line_demands.proofs.BoxSight.{shown_inside, back_number}
use Rattle.solid_model.specs.declared.cell.Axis.TheVariants.{X, Y, Z}
use Rattle.solid_model.specs.declared.frame.View.{View}
use Rattle.solid_model.specs.declared.frame.View.TheVariants.{Front, Top, Side}
use Rattle.solid_model.specs.Blocks.{ProblemParts, block_at}
use Rattle.solid_model.specs.Frames.{frame_of}
use Rattle.solid_model.specs.PerAxis.{numbers_of}
use Rattle.solid_model.specs.WalledBoxes.{Sizes, is_within, box_place, number_at}
use Rattle.solid_model.specs.GridBox.{grid_sizes}

-- the place of a cell, as a sum
spread : (z y x rows row : ℕ) → (z * rows + y) * row + x ≡ z * (rows * row) + y * row + x
spread z y x rows row = ap (λ n. n + x) (add-mul (z * rows) y row ∙ ap (λ n. n + y * row) (mul_assoc z rows row))

-- with a number along one axis alone
along_x : (rows row : ℕ) → (0 * rows + 0) * row + 1 ≡ 1
along_x rows row = spread 0 0 1 rows row ∙ ap₂ (λ (m n : ℕ). m + n + 1) (zero-mul (rows * row)) (zero-mul row)

along_y : (rows row : ℕ) → (0 * rows + 1) * row + 0 ≡ row
along_y rows row = spread 0 1 0 rows row ∙ ap (λ (m : ℕ). m + 1 * row + 0) (zero-mul (rows * row)) ∙ omega arith

along_z : (rows row : ℕ) → (1 * rows + 0) * row + 0 ≡ rows * row
along_z rows row = spread 1 0 0 rows row ∙ ap (λ (n : ℕ). 1 * (rows * row) + n + 0) (zero-mul row) ∙ omega arith

-- so many steps from a first cell
steps : (place first step k : ℕ) → (many : ℕ) → many ≡ step → place ≡ first + k * step → place ≡ first + k * many
steps place first step k many same e = e ∙ ap (λ n. first + k * n) (sym same)

-- each step along the sight is one along its axis
pub place_seen : (sizes : Sizes) (v : View) (right up k : ℕ) → k < sizes (frame_of v).away.axis
    → box_place sizes (shown_cell sizes v right up (pos k)) ≡ first_place sizes (frame_of v) right up + number_on sizes (frame_of v).away k * step_away sizes (frame_of v)
place_seen sizes Front right up k l = steps _ _ (sizes X) k _ (along_y (sizes Y) (sizes X))
    (spread up k right (sizes Y) (sizes X) ∙ (let first = spread up 0 right (sizes Y) (sizes X) in let none = zero-mul (sizes X) in omega arith))
place_seen sizes Top right up k l = (λ t. box_place sizes (record { x = pos right; y = pos up; z = sym (back_number (sizes Z) k l) t }))
    ∙ steps _ _ (sizes Y * sizes X) (sizes Z - (k + 1)) _ (along_z (sizes Y) (sizes X))
    (spread (sizes Z - (k + 1)) up right (sizes Y) (sizes X) ∙ (let first = spread 0 up right (sizes Y) (sizes X) in let none = zero-mul (sizes Y * sizes X) in omega arith))
place_seen sizes Side right up k l = (λ t. box_place sizes (record { x = sym (back_number (sizes X) k l) t; y = pos right; z = pos up }))
    ∙ steps _ _ 1 (sizes X - (k + 1)) _ (along_x (sizes Y) (sizes X)) (omega arith)

-- the block of a cell that a view shows stands at the cell's place
pub block_seen : (p : ProblemParts) → numbers_of p.blocks.sizes ≡ grid_sizes p.grid → (v : View) (right up k : ℕ)
    → right < view_width (grid_sizes p.grid) v → up < view_height (grid_sizes p.grid) v → k < grid_sizes p.grid (frame_of v).away.axis
    → block_at p.blocks (shown_cell (grid_sizes p.grid) v right up (pos k)) ≡ number_at (grid_sizes p.grid) p.blocks.numbers (shown_cell (grid_sizes p.grid) v right up (pos k))
block_seen p sized v right up k l m n =
    ap (λ (s : Sizes). if is_within s (shown_cell (grid_sizes p.grid) v right up (pos k)) then number_at s p.blocks.numbers (shown_cell (grid_sizes p.grid) v right up (pos k)) else None) sized
    ∙ ap (λ b. if b then number_at (grid_sizes p.grid) p.blocks.numbers (shown_cell (grid_sizes p.grid) v right up (pos k)) else None) (shown_inside (grid_sizes p.grid) v false right up k l m n)

-- so it stands so many steps from the first cell of the column
pub block_told : (p : ProblemParts) → numbers_of p.blocks.sizes ≡ grid_sizes p.grid → (at : ColumnPlace) (cells : ColumnCells) → AreColumnCells (grid_sizes p.grid) at cells
    → (k along : ℕ) → along ≡ number_on (grid_sizes p.grid) (frame_of at.view).away k
    → at.right < view_width (grid_sizes p.grid) at.view → at.up < view_height (grid_sizes p.grid) at.view → k < grid_sizes p.grid (frame_of at.view).away.axis
    → get_or p.blocks.numbers (cells.first + along * cells.step) None ≡ block_of_place p at k
block_told p sized at cells are k along is l m n =
    ap (λ i. get_or p.blocks.numbers i None) ((λ t. are.first t + is t * are.step t) ∙ sym (place_seen (grid_sizes p.grid) at.view at.right at.up k n))
    ∙ sym (block_seen p sized at.view at.right at.up k l m n)
