-- Sums of volumes of blocks, and the volume of the cells that a choice fills.
use Rattle.std.proofs.Common.{◌≡◌, inl, inr, Bool, true, false, ◌&&◌, if◌then◌else◌, ℕ, zero, suc, ◌+◌, ◌*◌, ◌<◌, ◌≤◌, List, [], ◌∷◌, length, take, get_or, set, replicate, Option, Some, None, IfSome, slice_index_or, refl, ap, sym, subst, ◌∙◌, arith}
use Rattle.std.proofs.lemmas.Bool.{cases_lt}
use Rattle.solid_model.specs.declared.cell.Cell.{Cell}
use Rattle.std.proofs.lemmas.List.{length-replicate, get_or-replicate, get_or_past}
use Rattle.solid_model.specs.Blocks.{BlockNumbers, block_at, IsBlocksOf}
use Rattle.solid_model.specs.GridBox.{grid_sizes}
use Rattle.solid_model.specs.Panels.{GridParts}
use Rattle.solid_model.specs.Choices.{is_chosen, cells_of_choice}
use Rattle.solid_model.specs.Grid.{Coordinates}
use Rattle.solid_model.specs.PerAxis.{numbers_of}
use Rattle.solid_model.specs.WalledBoxes.{is_within, box_place, number_at}
use Rattle.solid_model.specs.Volumes.{grid_cell_volume, grid_cell_at}
use Rattle.solid_model.proofs.SmallVolumes.{IsVolumeBelow, most_volume, with_chosen, without_chosen}
use Rattle.cell_rows.proofs.FilledSpans.{block_marks}
use Rattle.report.specs.Volumes.{chosen_sum}

-- what a choice takes of one volume
abbrev pub taken : List Bool → ℕ → ℕ → ℕ
taken choice k v = if slice_index_or choice k false then v else 0

-- nothing is taken of nothing
pub sum_of_zeros : (volumes : List ℕ) (choice : List Bool) → ((k : ℕ) → slice_index_or volumes k 0 ≡ 0) → chosen_sum volumes choice ≡ 0
sum_of_zeros [] choice none = refl
sum_of_zeros (v ∷ volumes) [] none = refl
sum_of_zeros (v ∷ volumes) (full ∷ choice) none =
    (λ t. (if full then none 0 t else 0) + sum_of_zeros volumes choice (λ k. none (suc k)) t) ∙ by full
  where
    by : (b : Bool) → (if b then 0 else 0) + 0 ≡ 0
    by true = refl
    by false = refl

-- one volume grows
pub sum_grown : (volumes : List ℕ) (choice : List Bool) (i more : ℕ) → i < length volumes
    → chosen_sum (set volumes i (get_or volumes i 0 + more)) choice ≡ chosen_sum volumes choice + taken choice i more
sum_grown [] choice i more l = absurd (omega arith)
sum_grown (v ∷ volumes) [] zero more l = refl
sum_grown (v ∷ volumes) [] (suc i) more l = refl
sum_grown (v ∷ volumes) (true ∷ choice) zero more l = omega arith
sum_grown (v ∷ volumes) (false ∷ choice) zero more l = omega arith
sum_grown (v ∷ volumes) (full ∷ choice) (suc i) more l =
    let e = sum_grown volumes choice i more (omega arith) in omega (arith, e)

-- one more of the first ones
pub sum_more : (volumes : List ℕ) (choice : List Bool) (i : ℕ) → i < length volumes
    → chosen_sum (take (suc i) volumes) choice ≡ chosen_sum (take i volumes) choice + taken choice i (get_or volumes i 0)
sum_more [] choice i l = absurd (omega arith)
sum_more (v ∷ volumes) [] zero l = refl
sum_more (v ∷ volumes) [] (suc i) l = refl
sum_more (v ∷ volumes) (true ∷ choice) zero l = omega arith
sum_more (v ∷ volumes) (false ∷ choice) zero l = omega arith
sum_more (v ∷ volumes) (full ∷ choice) (suc i) l =
    let e = sum_more volumes choice i (omega arith) in omega (arith, e)

-- ---- block by block

-- for every choice the sum is the volume of those of the first cells that it fills
pub record AreVolumesBelow (coordinates : Coordinates) (b : BlockNumbers) (place count : ℕ) (volumes : List ℕ) : Type 0 where
  pub counted : length volumes ≡ count
  pub small : (k : ℕ) → slice_index_or volumes k 0 ≤ place * most_volume
  pub sums : (choice : List Bool) → IsVolumeBelow coordinates (cells_of_choice b.numbers choice) place (chosen_sum volumes choice)

-- of no cells
abbrev read_zero : ℕ → ℕ → ℕ
read_zero n k = get_or (replicate n 0) k 0

zero_at : (n k : ℕ) → read_zero n k ≡ 0
zero_at n k = elim (cases_lt k n) as (λ _. read_zero n k ≡ 0) [
  | inl l ↦ get_or-replicate n k 0 0 l
  | inr l ↦ get_or_past (replicate n 0) k 0 (omega (arith, l, length-replicate {A = ℕ} n 0))
]

pub volumes_none : (coordinates : Coordinates) (b : BlockNumbers) (n count : ℕ) (volumes : List ℕ) → volumes ≡ replicate n 0 → n ≡ count
    → AreVolumesBelow coordinates b 0 count volumes
volumes_none coordinates b n count volumes zeros same = subst (AreVolumesBelow coordinates b 0 count) (sym zeros) (record {
  counted = length-replicate n 0 ∙ same;
  small = λ k. let e = zero_at n k in omega (arith, e);
  sums = λ choice. let e = sum_of_zeros (replicate n 0) choice (zero_at n) in record { is = e; small = omega (arith, e) };
})

-- the block of a cell of the grid is one of them
pub block_there : (g : GridParts) (b : BlockNumbers) (n : Cell) (count : ℕ) → IsBlocksOf g b → is_within (grid_sizes g) n ≡ true → count ≡ b.count
    → (block : Option ℕ) → block ≡ block_at b n → IfSome block (λ k. k < count)
block_there g b n count kept within same None e = tt
block_there g b n count kept within same (Some k) e =
    let sized : numbers_of b.sizes ≡ grid_sizes g = λ t a. kept.sized a t in
    let at : block_at b n ≡ number_at (grid_sizes g) b.numbers n =
    (λ t. if is_within (sized t) n then number_at (sized t) b.numbers n else None)
    ∙ ap (λ (u : Bool). if u then number_at (grid_sizes g) b.numbers n else None) within in
    subst (λ m. k < m) (sym same) (kept.blocks.below n k within (sym (e ∙ at)))

-- a cell more
pub volumes_more : (coordinates : Coordinates) (b : BlockNumbers) (place count : ℕ) (volumes grown : List ℕ) (n : Cell) (volume : ℕ)
    → AreVolumesBelow coordinates b place count volumes → is_within (numbers_of b.sizes) n ≡ true → box_place (numbers_of b.sizes) n ≡ place
    → volume ≡ grid_cell_volume coordinates (grid_cell_at coordinates place) → volume ≤ most_volume
    → length grown ≡ length volumes → ((k : ℕ) → slice_index_or grown k 0 ≤ slice_index_or volumes k 0 + volume)
    → ((choice : List Bool) → chosen_sum grown choice ≡ chosen_sum volumes choice + (if is_chosen choice (block_at b n) then volume else 0))
    → AreVolumesBelow coordinates b (place + 1) count grown
volumes_more coordinates b place count volumes grown n volume so_far within there is small same each sums = record {
  counted = same ∙ so_far.counted;
  small = λ k. let l = each k in let m = so_far.small k in omega (arith, l, m, small);
  sums = λ choice.
      let filled = block_marks b choice n ∙ ap (λ t. t && slice_index_or (cells_of_choice b.numbers choice) (box_place (numbers_of b.sizes) n) false) within
      ∙ ap (λ p. slice_index_or (cells_of_choice b.numbers choice) p false) there in
      subst (IsVolumeBelow coordinates (cells_of_choice b.numbers choice) (place + 1))
      (sym (sums choice ∙ ap (λ (t : Bool). chosen_sum volumes choice + (if t then volume else 0)) filled))
      (by choice (slice_index_or (cells_of_choice b.numbers choice) place false) refl);
}
  where
    by : (choice : List Bool) (t : Bool) → slice_index_or (cells_of_choice b.numbers choice) place false ≡ t
        → IsVolumeBelow coordinates (cells_of_choice b.numbers choice) (place + 1) (chosen_sum volumes choice + (if t then volume else 0))
    by choice true e = with_chosen coordinates (cells_of_choice b.numbers choice) place _ (so_far.sums choice) volume e is small
    by choice false e = subst (IsVolumeBelow coordinates (cells_of_choice b.numbers choice) (place + 1)) (omega arith)
        (without_chosen coordinates (cells_of_choice b.numbers choice) place _ (so_far.sums choice) e)
