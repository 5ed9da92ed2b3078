-- What the cells of two columns leave each other that draw a style together.
use Rattle.std.specs.Prelude.{◌≡◌, Bool, true, false, ℕ, ℤ, pos, Option, None}
use Rattle.solid_model.specs.declared.segment.Style.{Style}
use Rattle.lemmas.specs.Bits.{is_set}
use Rattle.solid_model.specs.Columns.{ColumnsDraw}
use Rattle.solid_model.specs.Demands.{AgreesWith}

-- Some pair of columns that agree with what is known of them, of which the first one has the value at the depth, draws the style.
abbrev pub CanDrawWith : (ℤ → Option Bool) → (ℤ → Option Bool) → Style → ℕ → Bool → Type 0
CanDrawWith known other style depth value = (column beside : ℤ → Bool) × AgreesWith known column × AgreesWith other beside
    × (column (pos depth) ≡ value) × ColumnsDraw column beside style

-- These cells of a column are undecided, and each other undecided one can have either value beside another column.
pub record IsDoubted (known other : ℤ → Option Bool) (style : Style) (cells : ℕ) : Type 0 where
  pub undecided : (depth : ℕ) → is_set cells depth ≡ true → known (pos depth) ≡ None
  pub free : (depth : ℕ) (value : Bool) → known (pos depth) ≡ None → is_set cells depth ≡ false → CanDrawWith known other style depth value

-- each undecided cell of a column can have either value beside another column
abbrev pub IsFree : (ℤ → Option Bool) → (ℤ → Option Bool) → Style → Type 0
IsFree known other style = (depth : ℕ) (value : Bool) → known (pos depth) ≡ None → CanDrawWith known other style depth value

-- each undecided cell of two columns can have either value beside the other column
abbrev pub AreFree : (ℤ → Option Bool) → (ℤ → Option Bool) → Style → Type 0
AreFree known other style = IsFree known other style × IsFree other known style

-- those at these depths can,
abbrev pub IsFreeAt : (ℤ → Option Bool) → (ℤ → Option Bool) → Style → ℕ → Type 0
IsFreeAt known other style cells = (depth : ℕ) (value : Bool) → known (pos depth) ≡ None → is_set cells depth ≡ true → CanDrawWith known other style depth value

abbrev pub AreFreeAt : (ℤ → Option Bool) → (ℤ → Option Bool) → Style → ℕ → Type 0
AreFreeAt known other style cells = IsFreeAt known other style cells × IsFreeAt other known style cells

-- or those at all other depths
abbrev pub IsFreeBut : (ℤ → Option Bool) → (ℤ → Option Bool) → Style → ℕ → Type 0
IsFreeBut known other style cells = (depth : ℕ) (value : Bool) → known (pos depth) ≡ None → is_set cells depth ≡ false → CanDrawWith known other style depth value

abbrev pub AreFreeBut : (ℤ → Option Bool) → (ℤ → Option Bool) → Style → ℕ → Type 0
AreFreeBut known other style cells = IsFreeBut known other style cells × IsFreeBut other known style cells

-- Some pair of columns that agree with what is known of them draws the style, and both are empty at these depths.
abbrev pub CanDrawEmpty : (ℤ → Option Bool) → (ℤ → Option Bool) → Style → ℕ → Type 0
CanDrawEmpty known other style cells = (column beside : ℤ → Bool) × AgreesWith known column × AgreesWith other beside
    × ((depth : ℕ) → is_set cells depth ≡ true → (column (pos depth) ≡ false) × (beside (pos depth) ≡ false)) × ColumnsDraw column beside style
