-- The volumes of blocks, of which a solid's volume is the sum.
use Rattle.std.specs.Prelude.{◌≡◌, ◌≤◌, ◌+◌, Bool, ℕ, List, [], ◌∷◌, length, slice_index_or, Option, if◌then◌else◌}
use Rattle.solid_model.specs.Choices.{cells_of_choice}
use Rattle.solid_model.specs.Grid.{Coordinates}
use Rattle.solid_model.specs.Volumes.{volume_of}

-- the sum of those that a choice takes
abbrev pub chosen_sum : List ℕ → List Bool → ℕ
chosen_sum [] choice = 0
chosen_sum (v ∷ volumes) [] = 0
chosen_sum (v ∷ volumes) (full ∷ choice) = (if full then v else 0) + chosen_sum volumes choice

-- none is greater than that of a whole grid
abbrev pub most_block_volume : ℕ
most_block_volume = 2000376000000000000000000000000000

-- The volumes of items, each of which is some of the grid's cells: those that a choice takes come to the volume of the cells
-- that it fills.
pub record AreVolumes (coordinates : Coordinates) (items : List (Option ℕ)) (volumes : List ℕ) : Type 0 where
  pub few : length volumes ≤ 65536
  pub small : (k : ℕ) → slice_index_or volumes k 0 ≤ most_block_volume
  pub sums : (choice : List Bool) → chosen_sum volumes choice ≡ volume_of coordinates (cells_of_choice items choice)
