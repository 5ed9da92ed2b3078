-- The columns of a layer are those of its view, of the turned grid cells.
use Rattle.std.proofs.Common.{◌≡◌, Bool, true, false, ◌&&◌, nat_lt, ℕ, ◌+◌, ◌-◌, ◌*◌, ◌<◌, List, slice_index_or, ℤ, pos, negsuc, if◌then◌else◌, refl, ap, sym, subst, ◌∙◌, arith}
use Rattle.std.proofs.lemmas.Bool.{ltb-true}
use Rattle.solid_model.specs.declared.cell.Axis.{Axis}
use Rattle.solid_model.specs.declared.cell.Axis.TheVariants.{X, Y, Z}
use Rattle.solid_model.specs.declared.frame.Frame.{Frame}
use Rattle.solid_model.specs.declared.frame.View.{View}
use Rattle.solid_model.specs.declared.frame.View.TheVariants.{Front, Top, Side}
use Rattle.lemmas.specs.Bits.{bits}
use Rattle.solid_model.specs.Frames.{frame_of}
use Rattle.solid_model.specs.Grid.{GridCell}
use Rattle.solid_model.specs.WalledBoxes.{same_axis}
use Rattle.column_lanes.specs.declared.column.Column.{Column}
use Rattle.solid_model.specs.GridPlaces.{place_in, grid_cell_in}
use Rattle.column_laws.specs.GridColumns.{grid_column}
use Rattle.columns.specs.ColumnLists.{listed_column, AreColumns}
use Rattle.dxf_entities.specs.declared.layer.Layer.{Layer}
use Rattle.six_views.specs.SightFrames.{opposite_frame, sight_frame}
use Rattle.six_views.specs.Turned.{turn_axis, turned_numbers, AreTurnedCells}

-- along an axis from the other end, twice
twice : (size k : ℕ) → k < size → size - ((size - (k + 1)) + 1) ≡ k
twice size k l = omega arith

-- the grid cell of a layer at given places is the one there of its view, turned
cell_turned : (x : Layer) (sizes : Axis → ℕ) (i j k : ℕ) → k < sizes (sight_frame x).away.axis
    → (b : Axis) → grid_cell_in (sight_frame x) sizes i j k b ≡ turned_numbers x sizes (grid_cell_in (frame_of x.view) sizes i j k) b
cell_turned x sizes i j k = by x.opposite x.view
  where
    by : (opposite : Bool) (v : View) → k < sizes (if opposite then opposite_frame v else frame_of v).away.axis → (b : Axis)
        → grid_cell_in (if opposite then opposite_frame v else frame_of v) sizes i j k b
        ≡ (if (if opposite then same_axis (turn_axis v) b else true) then grid_cell_in (frame_of v) sizes i j k b
        else (sizes b - (grid_cell_in (frame_of v) sizes i j k b + 1)))
    by false v l b = refl
    by true Side l X = sym (twice (sizes X) k l)
    by true Side l Y = refl
    by true Side l Z = refl
    by true Front l X = refl
    by true Front l Y = refl
    by true Front l Z = refl
    by true Top l X = refl
    by true Top l Y = refl
    by true Top l Z = sym (twice (sizes Z) k l)

-- the cells of a view's columns lie in the box
within : (v : View) (sizes : Axis → ℕ) (i j k : ℕ) → i < sizes (frame_of v).right.axis → j < sizes (frame_of v).up.axis
    → k < sizes (frame_of v).away.axis → (b : Axis) → grid_cell_in (frame_of v) sizes i j k b < sizes b
within Side sizes i j k l m n X = omega arith
within Side sizes i j k l m n Y = l
within Side sizes i j k l m n Z = m
within Front sizes i j k l m n X = l
within Front sizes i j k l m n Y = n
within Front sizes i j k l m n Z = m
within Top sizes i j k l m n X = l
within Top sizes i j k l m n Y = m
within Top sizes i j k l m n Z = omega arith

-- both sides of a view have the same axes
same_axes : (opposite : Bool) (v : View) → ((if opposite then opposite_frame v else frame_of v).right.axis ≡ (frame_of v).right.axis)
    × (((if opposite then opposite_frame v else frame_of v).up.axis ≡ (frame_of v).up.axis)
    × ((if opposite then opposite_frame v else frame_of v).away.axis ≡ (frame_of v).away.axis))
same_axes false v = (refl, (refl, refl))
same_axes true Front = (refl, (refl, refl))
same_axes true Top = (refl, (refl, refl))
same_axes true Side = (refl, (refl, refl))

same_right : (x : Layer) → (sight_frame x).right.axis ≡ (frame_of x.view).right.axis
same_right x = (same_axes x.opposite x.view).0

same_up : (x : Layer) → (sight_frame x).up.axis ≡ (frame_of x.view).up.axis
same_up x = (same_axes x.opposite x.view).1.0

same_away : (x : Layer) → (sight_frame x).away.axis ≡ (frame_of x.view).away.axis
same_away x = (same_axes x.opposite x.view).1.1

module _ (x : Layer) (sizes : Axis → ℕ) (chosen turned : List Bool) (are : AreTurnedCells x sizes chosen turned) where
  abbrev f : Frame
  f = sight_frame x

  abbrev main : Frame
  main = frame_of x.view

  pub column_turned : (i j : ℕ) → i < sizes main.right.axis → j < sizes main.up.axis → (k : ℤ) → grid_column f sizes chosen i j k ≡ grid_column main sizes turned i j k
  column_turned i j l m (negsuc k) = refl
  column_turned i j l m (pos k) = by (nat_lt k (sizes main.away.axis)) refl
    where
      here : nat_lt k (sizes main.away.axis) ≡ true → slice_index_or chosen (place_in sizes (grid_cell_in f sizes i j k)) false
          ≡ slice_index_or turned (place_in sizes (grid_cell_in main sizes i j k)) false
      here e =
          let l_main : k < sizes main.away.axis = ltb-true k (sizes main.away.axis) e in
          let l_further : k < sizes f.away.axis = subst (λ (a : Axis). k < sizes a) (sym (same_away x)) l_main in
          ap (λ (n : GridCell). slice_index_or chosen (place_in sizes n) false) (λ t b. cell_turned x sizes i j k l_further b t)
          ∙ sym (are (grid_cell_in main sizes i j k) (within x.view sizes i j k l m l_main))

      by : (t : Bool) → nat_lt k (sizes main.away.axis) ≡ t → grid_column f sizes chosen i j (pos k) ≡ grid_column main sizes turned i j (pos k)
      by true e = (λ t. nat_lt k (sizes (same_away x t)) && here e t)
      by false e = ap (λ (a : Axis). nat_lt k (sizes a) && slice_index_or chosen (place_in sizes (grid_cell_in f sizes i j k)) false) (same_away x)
          ∙ ap (λ b. b && slice_index_or chosen (place_in sizes (grid_cell_in f sizes i j k)) false) e
          ∙ sym (ap (λ b. b && slice_index_or turned (place_in sizes (grid_cell_in main sizes i j k)) false) e)

  -- they are the same columns
  pub columns_turned : (columns : List Column) → AreColumns f sizes chosen columns → AreColumns main sizes turned columns
  columns_turned columns of = record {
    count = of.count ∙ (λ t. sizes (same_up x t) * sizes (same_right x t));
    each = λ i j l m k. listed i j k ∙ of.each i j (subst (λ (a : Axis). i < sizes a) (sym (same_right x)) l) (subst (λ (a : Axis). j < sizes a) (sym (same_up x)) m) k
        ∙ column_turned i j l m k;
  }
    where
      use_right : (i j : ℕ) → j * sizes main.right.axis + i ≡ j * sizes f.right.axis + i
      use_right i j = ap (λ (a : Axis). j * sizes a + i) (sym (same_right x))

      listed : (i j : ℕ) (k : ℤ) → listed_column main sizes columns i j k ≡ listed_column f sizes columns i j k
      listed i j k = ap (λ p. bits (slice_index_or columns p record { 0 = 0 }).0 k) (use_right i j)
