-- What a grid keeps of its coordinates.
use Rattle.std.proofs.Common.{◌<◌, ◌≤◌, length, ◌<ℤ◌, refl, arith}
use Rattle.lemmas.specs.Lists.{Ascends}
use Rattle.lemmas.proofs.Lists.{some_length}
use Rattle.solid_model.specs.declared.cell.Axis.{Axis}
use Rattle.solid_model.specs.Panels.{GridParts, coordinates_of, IsGrid}
use Rattle.solid_model.proofs.SomeLines.{some_coordinates}
use Rattle.redraw.proofs.DrawnRuns.{grid_ascends}
use Rattle.dxf_entities.specs.declared.layer.Layer.{Layer}
use Rattle.six_views.specs.Turned.{turned_coordinates}
use Rattle.six_views.proofs.TurnedGrid.{count-turned, counts-turned}

module _ (g : GridParts) (is : IsGrid g) where
  pub ordered : (a : Axis) → Ascends ◌<ℤ◌ (coordinates_of g a)
  ordered = grid_ascends g is

  pub some : (a : Axis) → 0 < length (coordinates_of g a)
  some a = some_length (coordinates_of g a) (some_coordinates is.0 is.1 g is.2 a)

  module _ (x : Layer) where
    pub turned_ordered : (a : Axis) → Ascends ◌<ℤ◌ (turned_coordinates x (coordinates_of g) a)
    turned_ordered = (counts-turned x (coordinates_of g) (λ a. length (coordinates_of g a)) (record { ordered = ordered; count = λ a. refl })).ordered

    pub turned_few : (a : Axis) → length (turned_coordinates x (coordinates_of g) a) ≤ 64
    turned_few a = let few = is.2.few a in omega (arith, count-turned x (coordinates_of g) a)
