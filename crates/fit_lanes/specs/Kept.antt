-- What a view keeps, to draw choices.
use Rattle.std.specs.Prelude.{◌≡◌, ◌+◌, ◌*◌, ◌≤◌, true, false, ℕ, List, length, Option}
use Rattle.cell_rows.specs.declared.span.Span.{Span}
use Rattle.solid_model.specs.Blocks.{ProblemParts}
use Rattle.solid_model.specs.Panels.{coordinates_of, IsGrid}
use Rattle.solid_model.specs.GridBox.{grid_sizes}
use Rattle.dxf_entities.specs.declared.layer.Layer.{Layer}
use Rattle.fit_lanes.specs.Busy.{AreBusy, AreBlankBeyond, IsNoLater}
use Rattle.fit_lanes.specs.Cuts.{LayerKeeps}
use Rattle.fit_lanes.specs.Sights.{width, height, AreSights}

-- a byte for each point of a view of so many cells, which draws nothing beyond these
pub record AreBytesFor (w h : ℕ) (points bytes : List ℕ) : Type 0 where
  pub long : length bytes ≡ (h + 1) * (w + 1)
  pub blank : AreBlankBeyond points bytes

-- how many cells the view has, the depths that it keeps, the spans behind its points, those beside which there are some and the first
-- lines on which they stand, a column for each of the spans, and bytes of both kinds
pub record AreBuffersOf (p : ProblemParts) (x : Layer) (kept : Option ℕ) (w h : ℕ) (sights : List (List Span)) (points : List ℕ) (first_right first_up : ℕ) (columns level upright : List ℕ) : Type 0 where
  pub grid : IsGrid p.grid
  pub keeps : LayerKeeps (coordinates_of p.grid) x kept
  pub wide : w ≡ width x (grid_sizes p.grid)
  pub high : h ≡ height x (grid_sizes p.grid)
  pub few_wide : w ≤ 63
  pub few_high : h ≤ 63
  pub sights_of : AreSights x (grid_sizes p.grid) p.blocks.numbers kept sights
  pub busy : AreBusy sights (w + 1) ((h + 1) * (w + 1)) points
  pub right_of : IsNoLater (w + 1) true points first_right
  pub up_of : IsNoLater (w + 1) false points first_up
  pub columns_for : length columns ≡ length sights
  pub level_for : AreBytesFor w h points level
  pub upright_for : AreBytesFor w h points upright
