-- The columns of a further view's grid cells, beside the points of its grid.
use Rattle.std.specs.Prelude.{◌≡◌, ◌⊎◌, ◌+◌, ◌-◌, ◌*◌, ◌/◌, ◌%◌, ◌<◌, ◌≤◌, ◌&&◌, Bool, false, ℕ, List, [], length, slice_index_or, Option, pos}
use Rattle.cell_rows.specs.declared.span.Span.{Span}
use Rattle.cell_rows.specs.Spans.{is_filled}
use Rattle.column_laws.specs.GridColumns.{grid_column}
use Rattle.lemmas.specs.Bits.{is_set}
use Rattle.solid_model.specs.Choices.{cells_of_choice}
use Rattle.solid_model.specs.WalledBoxes.{Sizes}
use Rattle.dxf_entities.specs.declared.layer.Layer.{Layer}
use Rattle.six_views.specs.SightFrames.{sight_frame}
use Rattle.fit_lanes.specs.Cuts.{keeps}

-- how many grid cells stand side by side in a further view, and how many one above another
abbrev pub width : Layer → Sizes → ℕ
width x sizes = sizes (sight_frame x).right.axis

abbrev pub height : Layer → Sizes → ℕ
height x sizes = sizes (sight_frame x).up.axis

-- The spans of the column beside a place, in rows of one place more than there are cells side by side: of every choice they tell
-- what it fills at depths that are kept. The first row has no column, nor has the last place of each row, nor what follows the rows of cells.
pub record IsSightAt (x : Layer) (sizes : Sizes) (numbers : List (Option ℕ)) (kept : Option ℕ) (p : ℕ) (spans : List Span) : Type 0 where
  pub inside : p % (width x sizes + 1) < width x sizes → 1 ≤ p / (width x sizes + 1) → p / (width x sizes + 1) ≤ height x sizes
      → (choice : List Bool) (k : ℕ) → is_filled choice spans k
      ≡ (keeps kept k && grid_column (sight_frame x) sizes (cells_of_choice numbers choice) (p % (width x sizes + 1)) (p / (width x sizes + 1) - 1) (pos k))
  pub outside : (width x sizes ≤ p % (width x sizes + 1)) ⊎ ((p / (width x sizes + 1) ≡ 0) ⊎ (height x sizes < p / (width x sizes + 1))) → spans ≡ []

-- those beside each point, and beside a row of places before them
pub record AreSights (x : Layer) (sizes : Sizes) (numbers : List (Option ℕ)) (kept : Option ℕ) (sights : List (List Span)) : Type 0 where
  pub count : length sights ≡ (height x sizes + 2) * (width x sizes + 1)
  pub each : (p : ℕ) → p < length sights → IsSightAt x sizes numbers kept p (slice_index_or sights p [])

-- Columns that stand so are those of these grid cells, as bits.
pub record AreSeenColumns (x : Layer) (sizes : Sizes) (chosen : List Bool) (columns : List ℕ) : Type 0 where
  pub count : length columns ≡ (height x sizes + 2) * (width x sizes + 1)
  pub inside : (p : ℕ) → p < length columns → p % (width x sizes + 1) < width x sizes → 1 ≤ p / (width x sizes + 1) → p / (width x sizes + 1) ≤ height x sizes
      → (k : ℕ) → is_set (slice_index_or columns p 0) k
      ≡ grid_column (sight_frame x) sizes chosen (p % (width x sizes + 1)) (p / (width x sizes + 1) - 1) (pos k)
  pub outside : (p : ℕ) → p < length columns → (width x sizes ≤ p % (width x sizes + 1)) ⊎ ((p / (width x sizes + 1) ≡ 0) ⊎ (height x sizes < p / (width x sizes + 1)))
      → (k : ℕ) → is_set (slice_index_or columns p 0) k ≡ false
