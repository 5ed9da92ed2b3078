-- Coordinates and styles together are the grid of a drawing.
use Rattle.std.proofs.Common.{◌≡◌, ◌≤◌, List, length, ℤ, ◌<ℤ◌, refl, subst, arith}
use Rattle.std.proofs.lemmas.Int.{ints}
use Rattle.solid_model.specs.declared.cell.Axis.{Axis}
use Rattle.solid_model.specs.declared.cell.Axis.TheVariants.{X, Y, Z}
use Rattle.solid_model.specs.declared.segment.Segment.{Segment}
use Rattle.solid_model.specs.declared.segment.Style.{Style}
use Rattle.solid_model.specs.Grid.{AreGridCoordinates, IsFineEnough}
use Rattle.solid_model.specs.Limits.{most_grid_coordinates}
use Rattle.solid_model.specs.Panels.{PanelsStyles, GridParts, coordinates_of, AreGridStyles, IsGridOf}
use Rattle.solid_model.specs.Runs.{IsDrawing}
use Rattle.lemmas.proofs.Lists.{same_ascending}
use Rattle.grid.specs.declared.coordinates.Coordinates.{Coordinates}
use Rattle.grid.specs.AxisCoordinates.{coordinates_in, AreFewCoordinates}

-- an axis that has few enough coordinates doesn't have too many, since it has one list of them
pub few-fine_enough : (drawing : Segment → Style) (a : Axis) (zs : List ℤ) → AreFewCoordinates drawing a zs → IsFineEnough drawing a
few-fine_enough drawing a zs own count (ws, are, long, many) =
    let same : zs ≡ ws = same_ascending ◌<ℤ◌ (λ x y l m. omega (arith, ints)) zs ws own.exact.ordered are.ordered
    (λ z k. (are.exact z).1 ((own.exact.exact z).0 k)) (λ z k. (own.exact.exact z).1 ((are.exact z).0 k)) in
    let few = subst (λ ys. length ys ≤ most_grid_coordinates) same own.few in
    omega (arith, few, long, many)

-- the grid with these coordinates and styles
abbrev pub parts_of : Coordinates → PanelsStyles → GridParts
parts_of c panels = record { xs = c.xs.items; ys = c.ys.items; zs = c.zs.items; panels = panels }

module _ (drawing : Segment → Style) (c : Coordinates) (panels : PanelsStyles) where
  -- has these coordinates along each axis
  along_each : (a : Axis) → coordinates_in c a ≡ coordinates_of (parts_of c panels) a
  along_each X = refl
  along_each Y = refl
  along_each Z = refl

  -- and is the grid of the drawing, where they are its own
  pub is_grid_of : IsDrawing drawing → ((a : Axis) → AreFewCoordinates drawing a (coordinates_in c a)) → AreGridStyles drawing (coordinates_in c) panels
      → IsGridOf drawing (parts_of c panels)
  is_grid_of is own styles = record {
    coordinates = λ a. subst (AreGridCoordinates drawing a) (along_each a) (own a).exact;
    few = λ a. subst (λ zs. length zs ≤ most_grid_coordinates) (along_each a) (own a).few;
    styles = subst (λ k. AreGridStyles drawing k panels) (λ i a. along_each a i) styles;
    sees = is.sees;
  }
