-- What a cut leaves of columns of cells, as bits.
use Rattle.std.specs.Prelude.{◌≡◌, ◌↔◌, ◌^◌, ◌≤◌, ◌<◌, ◌&&◌, ◌==◌, not, nat_lt, Bool, true, false, ℕ, List, length, slice_index_or, Option, Some, None}
use Rattle.dxf_entities.specs.declared.layer.Cut.{Cut}
use Rattle.dxf_entities.specs.declared.layer.Layer.{Layer}
use Rattle.lemmas.specs.Bits.{is_set}
use Rattle.section_laws.specs.LeftCells.{IsLeftFrom}
use Rattle.six_views.specs.SightFrames.{sight_frame}
use Rattle.solid_model.specs.Grid.{Coordinates, gaps_along}
use Rattle.solid_model.specs.GridPlaces.{number_on}

-- a depth is kept from the first one on, or that one alone where an area is cut there
abbrev pub is_kept : Bool → ℕ → ℕ → Bool
is_kept true first k = k == first
is_kept false first k = not (nat_lt k first)

-- the bits are those of the depths that are kept, of so many
abbrev pub AreKept : Bool → ℕ → ℕ → ℕ → Type 0
AreKept area first depths kept = (k : ℕ) → is_set kept k ≡ (nat_lt k depths && is_kept area first k)

-- where these depths are told they alone are kept, else all
abbrev pub keeps : Option ℕ → ℕ → Bool
keeps None k = true
keeps (Some kept) k = is_set kept k

-- a depth that is kept is left of a column where it, or a nearer one that is kept too, is full
abbrev pub IsLeftBit : ℕ → ℕ → ℕ → Type 0
IsLeftBit kept column k = (is_set kept k ≡ true) × ((m : ℕ) × (m ≤ k) × (is_set kept m ≡ true) × (is_set column m ≡ true))

-- a column that is left of another one, itself where nothing is cut
abbrev pub IsLeftOf : Option ℕ → ℕ → ℕ → Type 0
IsLeftOf None column left = left ≡ column
IsLeftOf (Some kept) column left = (k : ℕ) → (is_set left k ≡ true) ↔ IsLeftBit kept column k

-- columns that are left of others
abbrev pub AreLeftOf : Option ℕ → List ℕ → List ℕ → Type 0
AreLeftOf kept columns left = (p : ℕ) → p < length columns → IsLeftOf kept (slice_index_or columns p 0) (slice_index_or left p 0)

-- a column has no cell but at depths that are kept
abbrev pub HasOnlyKept : Option ℕ → ℕ → Type 0
HasOnlyKept kept column = (k : ℕ) → is_set column k ≡ true → keeps kept k ≡ true

-- each of these columns
abbrev pub HaveOnlyKept : Option ℕ → List ℕ → Type 0
HaveOnlyKept kept columns = (p : ℕ) → p < length columns → HasOnlyKept kept (slice_index_or columns p 0)

-- the bits of the depths that a cut keeps, seen as a layer
pub record KeepsDepths (coordinates : Coordinates) (x : Layer) (c : Cut) (kept : ℕ) : Type 0 where
  pub fits : kept < 2 ^ 64
  pub gap : ℕ
  pub left_from : IsLeftFrom (sight_frame x) coordinates c.at c.area gap
  pub bits : AreKept c.area (number_on (gaps_along coordinates) (sight_frame x).away gap) (gaps_along coordinates (sight_frame x).away.axis) kept

-- those of a layer that is cut; none of one that is whole
abbrev pub LayerKeeps : Coordinates → Layer → Option ℕ → Type 0
LayerKeeps coordinates x None = x.cut ≡ None
LayerKeeps coordinates x (Some kept) = (c : Cut) × (x.cut ≡ Some c) × KeepsDepths coordinates x c kept
