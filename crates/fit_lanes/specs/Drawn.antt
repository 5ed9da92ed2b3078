-- What a layer's view draws of a choice.
use Rattle.std.specs.Prelude.{◌≡◌, ◌≢◌, ◌↔◌, ◌+◌, ◌*◌, ◌<◌, ◌≤◌, Bool, true, false, ℕ, List, length, slice_index_or}
use Rattle.dxf_entities.specs.declared.layer.Layer.{Layer}
use Rattle.solid_model.specs.declared.cell.Cell.{Cell}
use Rattle.solid_model.specs.declared.segment.Segment.{Segment}
use Rattle.solid_model.specs.declared.segment.Style.{Style}
use Rattle.solid_model.specs.Blocks.{ProblemParts}
use Rattle.solid_model.specs.Cells.{is_full}
use Rattle.solid_model.specs.Choices.{cells_of_choice}
use Rattle.solid_model.specs.Grid.{Coordinates, IsUnionOf}
use Rattle.solid_model.specs.GridBox.{grid_sizes}
use Rattle.solid_model.specs.Panels.{coordinates_of, IsGrid}
use Rattle.solid_model.specs.Segments.{across_of}
use Rattle.six_views.specs.Fits.{ShowsLayer, ShowsMoved}
use Rattle.six_views.specs.SightFrames.{sight_frame}
use Rattle.fit_lanes.specs.Sights.{width, height, AreSeenColumns}
use Rattle.fit_lanes.specs.Tests.{AreDrawn}

-- a layer of a problem, and the bytes of the level and of the upright segments of its view
pub record DrawnParts : Type 0 where
  pub problem : ProblemParts
  pub layer : Layer
  pub level : List ℕ
  pub upright : List ℕ

abbrev pub bytes_along : Bool → DrawnParts → List ℕ
bytes_along true v = v.upright
bytes_along false v = v.level

pub record IsViewOf (p : ProblemParts) (x : Layer) (v : DrawnParts) : Type 0 where
  pub problem : v.problem ≡ p
  pub layer : v.layer ≡ x

-- the solid of these grid cells shows whole what another one shows as the layer
pub record StandsFor (x : Layer) (coordinates : Coordinates) (cells : List Bool) (s : List Cell) : Type 0 where
  pub other : List Cell
  pub union : IsUnionOf coordinates cells (is_full other)
  pub shows : (shown : Segment → Style) → ShowsMoved (sight_frame x) (is_full other) shown x.view ↔ ShowsLayer x s shown

-- the bytes are those of what is seen of the solid that a choice fills
pub record DrawsChoice (v : DrawnParts) (choice : List Bool) : Type 0 where
  pub grid : IsGrid v.problem.grid
  pub cells : List Bool
  pub stand : (s : List Cell) → IsUnionOf (coordinates_of v.problem.grid) (cells_of_choice v.problem.blocks.numbers choice) (is_full s)
      → StandsFor v.layer (coordinates_of v.problem.grid) cells s
  pub columns : List ℕ
  pub seen : AreSeenColumns v.layer (grid_sizes v.problem.grid) cells columns
  pub long : (upright : Bool) → length (bytes_along upright v) ≡ (height v.layer (grid_sizes v.problem.grid) + 1) * (width v.layer (grid_sizes v.problem.grid) + 1)
  pub drawn : (upright : Bool) → AreDrawn columns (width v.layer (grid_sizes v.problem.grid) + 1) upright (bytes_along upright v)

-- ---- lines of a view of so many cells side by side and one above another

-- something is drawn at one of so many points, from this one on, each so far from the one before it
abbrev pub DrawsFrom : List ℕ → ℕ → ℕ → ℕ → Type 0
DrawsFrom bytes first apart points = (n : ℕ) × (n < points) × (slice_index_or bytes (first + n * apart) 0 ≢ 0)

-- something is drawn on the upright, or the level, line of this number
abbrev pub DrawsLine : ℕ → ℕ → Bool → List ℕ → ℕ → Type 0
DrawsLine w h true bytes line = DrawsFrom bytes line (w + 1) (h + 1)
DrawsLine w h false bytes line = DrawsFrom bytes (line * (w + 1)) 1 (w + 1)

-- on none
abbrev pub DrawsNoLine : ℕ → ℕ → Bool → List ℕ → Type 0
DrawsNoLine w h upright bytes = (line : ℕ) → line ≤ across_of upright w h → DrawsLine w h upright bytes line → ⊥

-- on this one first
pub record IsFirstLine (w h : ℕ) (upright : Bool) (bytes : List ℕ) (line : ℕ) : Type 0 where
  pub within : line ≤ across_of upright w h
  pub drawn : DrawsLine w h upright bytes line
  pub first : (m : ℕ) → m < line → DrawsLine w h upright bytes m → ⊥
