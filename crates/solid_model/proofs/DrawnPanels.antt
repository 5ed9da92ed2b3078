-- The styles that a drawing gives the segments of a grid, as panels.
use Rattle.std.proofs.Common.{Bool, true, false, refl}
use Rattle.solid_model.specs.declared.frame.View.{View}
use Rattle.solid_model.specs.declared.frame.View.TheVariants.{Front, Top, Side}
use Rattle.solid_model.specs.declared.segment.Segment.{Segment}
use Rattle.solid_model.specs.declared.segment.Style.{Style}
use Rattle.solid_model.specs.Grid.{Coordinates}
use Rattle.solid_model.specs.Panels.{PanelStyles, PanelsStyles, grid_styles, AreGridStyles}

module _ (drawing : Segment → Style) (coordinates : Coordinates) where
  -- those of one view
  abbrev drawn_panel : View → PanelStyles
  drawn_panel v = record { level = grid_styles drawing coordinates v false; upright = grid_styles drawing coordinates v true }

  abbrev pub drawn_panels : PanelsStyles
  drawn_panels = record { front = drawn_panel Front; top = drawn_panel Top; side = drawn_panel Side }

  pub drawn_panels_are : AreGridStyles drawing coordinates drawn_panels
  drawn_panels_are Front false = refl
  drawn_panels_are Front true = refl
  drawn_panels_are Top false = refl
  drawn_panels_are Top true = refl
  drawn_panels_are Side false = refl
  drawn_panels_are Side true = refl
