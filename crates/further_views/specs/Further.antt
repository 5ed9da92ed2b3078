-- The layers that ask for something beside the three main views, told by lines and by runs.
use Rattle.std.specs.Prelude.{◌≡◌, Bool, List, [], map}
use Rattle.std.specs.List.{filter}
use Rattle.dxf_entities.specs.declared.layer.Layer.{Layer}
use Rattle.dxf_entities.specs.declared.layer_line.LayerLine.{LayerLine}
use Rattle.dxf_entities.specs.Reading.{same_layer}
use Rattle.lemmas.specs.Lists.{Ascends, Each, Member}
use Rattle.solid_model.specs.declared.segment.Segment.{Segment}
use Rattle.solid_model.specs.declared.segment.Style.{Style}
use Rattle.solid_model.specs.Drawings.{drawing_of, IsEmptyView}
use Rattle.solid_model.specs.Line.{Line}
use Rattle.solid_model.specs.Runs.{AreRuns, ViewRuns, run_style, runs_along}
use Rattle.solid_model.specs.Segments.{start_of, line_of}

-- ---- by lines

-- the lines of each layer, as lines of its view
abbrev pub further_lines : List LayerLine → Layer → List Line
further_lines ls layer = map (λ l. l.line) (filter (λ l. same_layer l.layer layer) ls)

-- ---- by runs

-- what a layer shows, as runs of its view
pub record AskedRuns : Type 0 where
  pub layer : Layer
  pub runs : ViewRuns

-- the layers that are asked for, each with what it shows
abbrev pub FurtherRuns : Type 0
FurtherRuns = List AskedRuns

-- none is asked for
abbrev pub AsksForNone : FurtherRuns → Type 0
AsksForNone e = e ≡ []

-- each that is asked for has lists of runs
abbrev pub HasRuns : FurtherRuns → Type 0
HasRuns e = Each (λ v. (upright : Bool) → AreRuns (runs_along upright v.runs)) e

-- what the runs of a view show
abbrev pub view_style : ViewRuns → Segment → Style
view_style v g = run_style (runs_along g.upright v) (line_of g) (start_of g)

-- a layer is asked for where its lines cover something of its view
abbrev pub IsAsked : (Layer → List Line) → Layer → Type 0
IsAsked further l = IsEmptyView (further l) l.view → ⊥

-- it is, and these are the runs of its lines
pub record IsAskedOf (further : Layer → List Line) (v : AskedRuns) : Type 0 where
  pub asked : IsAsked further v.layer
  pub drawn : (g : Segment) → g.view ≡ v.layer.view → view_style v.runs g ≡ drawing_of (further v.layer) g

-- they are those of these lines: each layer that is asked for, once
pub record AreFurtherOf (further : Layer → List Line) (e : FurtherRuns) : Type 0 where
  pub each : Each (IsAskedOf further) e
  pub once : Ascends (λ v w. v.layer ≡ w.layer → ⊥) e
  pub complete : (l : Layer) → IsAsked further l → (v : AskedRuns) × Member e v × (v.layer ≡ l)
