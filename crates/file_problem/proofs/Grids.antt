-- Grids of drawings: too fine in one way, and otherwise one list of coordinates.
use Rattle.std.proofs.Common.{◌≡◌, refl, Bool, true, false, ℕ, ◌≤◌, List, length, ℤ, sym, ap, ◌∙◌, arith}
use Rattle.solid_model.specs.declared.cell.Axis.{Axis}
use Rattle.solid_model.specs.declared.cell.Axis.TheVariants.{X, Y, Z}
use Rattle.solid_model.specs.declared.frame.View.{View}
use Rattle.solid_model.specs.declared.frame.View.TheVariants.{Front, Top, Side}
use Rattle.solid_model.specs.declared.segment.Segment.{Segment}
use Rattle.solid_model.specs.declared.segment.Style.{Style}
use Rattle.solid_model.specs.Grid.{Coordinates, AreGridCoordinates, IsTooFine, IsFineEnough, IsFirstTooFine}
use Rattle.solid_model.specs.Limits.{most_grid_coordinates}
use Rattle.solid_model.specs.Panels.{GridParts, coordinates_of, styles_along, grid_styles, IsGridOf}
use Rattle.solid_model.specs.PerView.{of_view}
use Rattle.solid_model.proofs.InGrid.{one_coordinates}

-- the coordinates of a drawing's grid, few enough along each axis
abbrev pub AreCoordinatesOf : (Segment → Style) → Coordinates → Type 0
AreCoordinatesOf drawing coordinates =
    (a : Axis) → AreGridCoordinates drawing a (coordinates a) × (length (coordinates a) ≤ most_grid_coordinates)

-- the first axis that is too fine, with its number of coordinates
abbrev Same : Axis → Axis → ℕ → ℕ → Type 0
Same a b count other = (a ≡ b) × (count ≡ other)

module _ (drawing : Segment → Style) where
  one_count : (a : Axis) (count other : ℕ) → IsTooFine drawing a count → IsTooFine drawing a other → count ≡ other
  one_count a count other (zs, are, long, _) (ws, are_too, long_too, _) =
      sym long ∙ ap (λ (ys : List ℤ). length ys) (one_coordinates drawing a zs ws are are_too) ∙ long_too

  -- there is one
  pub one_too_fine : (a b : Axis) (count other : ℕ) → IsFirstTooFine drawing a count → IsFirstTooFine drawing b other → Same a b count other
  one_too_fine X X count other p q = (refl, one_count X count other p q)
  one_too_fine X Y count other p q = absurd (q.0 count p)
  one_too_fine X Z count other p q = absurd (q.0 count p)
  one_too_fine Y X count other p q = absurd (p.0 other q)
  one_too_fine Y Y count other p q = (refl, one_count Y count other p.1 q.1)
  one_too_fine Y Z count other p q = absurd (q.1 count p.1)
  one_too_fine Z X count other p q = absurd (p.0 other q)
  one_too_fine Z Y count other p q = absurd (p.1 other q.1)
  one_too_fine Z Z count other p q = (refl, one_count Z count other p.2 q.2)

  -- where each axis has few enough coordinates, none is too fine
  pub fine_enough : (a : Axis) (zs : List ℤ) → AreGridCoordinates drawing a zs → length zs ≤ most_grid_coordinates → IsFineEnough drawing a
  fine_enough a zs are few count (ws, are_too, long, many) =
      let same = ap (λ (ys : List ℤ). length ys) (one_coordinates drawing a zs ws are are_too) in omega arith

  pub none_too_fine : (coordinates : Coordinates) → AreCoordinatesOf drawing coordinates → (a : Axis) (count : ℕ) → IsFirstTooFine drawing a count → ⊥
  none_too_fine coordinates are X count fine = fine_enough X (coordinates X) (are X).0 (are X).1 count fine
  none_too_fine coordinates are Y count fine = fine_enough Y (coordinates Y) (are Y).0 (are Y).1 count fine.1
  none_too_fine coordinates are Z count fine = fine_enough Z (coordinates Z) (are Z).0 (are Z).1 count fine.2

  -- and there is one grid
  pub one_grid : (g h : GridParts) → IsGridOf drawing g → IsGridOf drawing h → g ≡ h
  one_grid g h is is_too = λ t. record {
    xs = along X t;
    ys = along Y t;
    zs = along Z t;
    panels = record {
      front = record { level = shown Front false t; upright = shown Front true t };
      top = record { level = shown Top false t; upright = shown Top true t };
      side = record { level = shown Side false t; upright = shown Side true t };
    };
  }
    where
      along : (a : Axis) → coordinates_of g a ≡ coordinates_of h a
      along a = one_coordinates drawing a (coordinates_of g a) (coordinates_of h a) (is.coordinates a) (is_too.coordinates a)

      shown : (v : View) (upright : Bool) → styles_along upright (of_view v g.panels) ≡ styles_along upright (of_view v h.panels)
      shown v upright = is.styles v upright ∙ (λ t. grid_styles drawing (λ a. along a t) v upright) ∙ sym (is_too.styles v upright)

  -- a grid has a drawing's coordinates
  pub coordinates_from_grid : (g : GridParts) → IsGridOf drawing g → AreCoordinatesOf drawing (coordinates_of g)
  coordinates_from_grid g grid a = (grid.coordinates a, grid.few a)
