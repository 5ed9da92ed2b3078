-- The ways between the nodes of a box's list of cells, which stand farther apart along each axis.
use Rattle.std.specs.Prelude.{◌≡◌, ◌⊎◌, ◌&&◌, not, Bool, false, ℕ, zero, suc, ◌+◌, ◌-◌, ◌<◌, nat_lt, nat_le, List, slice_index_or, Option, Some, None, if◌then◌else◌}
use Rattle.solid_model.specs.declared.cell.Axis.{Axis}
use Rattle.solid_model.specs.declared.cell.Axis.TheVariants.{X, Y, Z}
use Rattle.solid_model.specs.PerAxis.{numbers_of}
use Rattle.flood.specs.declared.cell_bars.CellBars.{CellBars}
use Rattle.flood.specs.declared.passages.Passages.{Passages}

-- nothing bars a way
abbrev pub no_bars : CellBars
no_bars = record { x = false; y = false; z = false }

-- whether something does along an axis
abbrev pub bar_along : Axis → CellBars → Bool
bar_along X bars = bars.x
bar_along Y bars = bars.y
bar_along Z bars = bars.z

-- how many nodes there are, how far neighbours along each axis stand apart in the list, and the bars before each node
pub record PassageParts : Type 0 where
  pub count : ℕ
  pub strides : Axis → ℕ
  pub bars : List CellBars

-- those that are kept
abbrev pub parts_of : Passages → PassageParts
parts_of g = record { count = g.count; strides = numbers_of g.strides; bars = g.bars.items }

-- a bar stands before a node along an axis
abbrev pub has_bar : PassageParts → Axis → ℕ → Bool
has_bar g a p = bar_along a (slice_index_or g.bars p no_bars)

-- q is the node before p along an axis, and nothing bars the way
pub record LeadsBack (g : PassageParts) (a : Axis) (p q : ℕ) : Type 0 where
  pub apart : p ≡ q + g.strides a
  pub free : has_bar g a p ≡ false

-- one step, back or forth
pub record StepsAlong (g : PassageParts) (p q : ℕ) : Type 0 where
  pub from : p < g.count
  pub to : q < g.count
  pub leads : (a : Axis) × (LeadsBack g a p q ⊎ LeadsBack g a q p)

-- the node before, if there is one and nothing bars the way
abbrev pub back : PassageParts → Axis → ℕ → Option ℕ
back g a p = if not (has_bar g a p) && nat_le (g.strides a) p then Some (p - g.strides a) else None

-- the node after it
abbrev pub forth : PassageParts → Axis → ℕ → Option ℕ
forth g a p = if nat_lt (p + g.strides a) g.count && not (has_bar g a (p + g.strides a)) then Some (p + g.strides a) else None

-- six ways lead from each node: back and forth along each axis
abbrev pub way_on : PassageParts → ℕ → ℕ → Option ℕ
way_on g p zero = back g Z p
way_on g p (suc zero) = forth g Z p
way_on g p (suc (suc zero)) = back g Y p
way_on g p (suc (suc (suc zero))) = forth g Y p
way_on g p (suc (suc (suc (suc zero)))) = back g X p
way_on g p (suc (suc (suc (suc (suc way))))) = forth g X p
