-- What is told of bytes is told of a layer, what is told of each solid of a choice, and what is told of each layer of all.
use Rattle.std.proofs.Common.{◌≡◌, ◌↔◌, ◌&&◌, Bool, true, false, ℕ, ◌+◌, ◌*◌, List, [], ◌∷◌, length, slice_index_or, Option, Some, None, IsTrue, refl, sym, subst, ◌∙◌}
use Rattle.std.specs.Prelude.{MatchOption}
use Rattle.std.proofs.lemmas.Bool.{and_parts, and_from, false≢true}
use Rattle.lemmas.specs.Lists.{Each}
use Rattle.cell_rows.specs.declared.span.Span.{Span}
use Rattle.cell_rows.specs.Spans.{AreFilled}
use Rattle.solid_model.specs.declared.runs.Run.{Run}
use Rattle.solid_model.specs.Blocks.{ProblemParts}
use Rattle.solid_model.specs.Choices.{cells_of_choice}
use Rattle.solid_model.specs.Grid.{Coordinates}
use Rattle.solid_model.specs.GridBox.{grid_sizes}
use Rattle.solid_model.specs.Panels.{coordinates_of, IsGrid}
use Rattle.solid_model.specs.Runs.{ViewRuns}
use Rattle.solid_model.proofs.Unions.{some_union}
use Rattle.redraw.proofs.DrawnRuns.{grid_ascends}
use Rattle.dxf_entities.specs.declared.layer.Cut.{Cut}
use Rattle.dxf_entities.specs.declared.layer.Layer.{Layer}
use Rattle.further_views.specs.Further.{FurtherRuns, view_style}
use Rattle.section_laws.specs.Shaded.{AreLeftCells}
use Rattle.six_views.specs.Fits.{ShowsCut}
use Rattle.six_views.specs.Further.{FitsChoice}
use Rattle.six_views.specs.SightFrames.{sight_frame}
use Rattle.six_views.proofs.ShownCuts.{left_shown}
use Rattle.six_views.proofs.SomeLeft.{some_left_cells}
use Rattle.six_views.proofs.Turned.{sights_are_frames}
use Rattle.fit_lanes.specs.Cuts.{AreLeftOf, LayerKeeps}
use Rattle.fit_lanes.specs.Drawn.{bytes_along, DrawnParts, DrawsChoice, DrawsNoLine, IsFirstLine, IsViewOf}
use Rattle.fit_lanes.specs.Sights.{width, height, AreSights}
use Rattle.fit_lanes.specs.Tests.{AreDrawn, AreRunsAsked, LayerAsked, layers_asked, ShowsIn, TellsLayer}
use Rattle.fit_lanes.specs.Wanted.{AreNeverDrawn, ArePlaced, AreWantedBytes, TellRuns, TellsPlaced, WantedParts}
use Rattle.fit_lanes.proofs.LeftBits.{some_left}
use Rattle.fit_lanes.proofs.LeftColumns.{filled_kept, left_seen, whole_seen}
use Rattle.fit_lanes.proofs.Told.{none_shown, shows_told}

-- ---- bytes that are wanted

told_one : {A : Type 0} (items : A → List ℕ) (wanted : Option A) (coordinates : Coordinates) (x : Layer) (shown : ViewRuns) (right up : ℕ) (upright : Bool)
    → MatchOption wanted (AreNeverDrawn coordinates x shown right up upright) (λ b. AreWantedBytes coordinates x shown right up upright (items b))
    → (bytes : List ℕ) (told : Bool) → (IsTrue told ↔ MatchOption wanted ⊥ (λ b. bytes ≡ items b))
    → (runs : List Run) → TellRuns coordinates x upright bytes runs → IsTrue told ↔ ArePlaced coordinates x shown right up upright runs
told_one items None coordinates x shown right up upright never bytes told is runs tell = ((λ yes. absurd (is.0 yes)), (λ placed. absurd (never bytes runs tell placed)))
told_one items (Some b) coordinates x shown right up upright are bytes told is runs tell =
    let both = are bytes runs tell in
    ((λ yes. both.1 (is.0 yes)), (λ placed. is.1 (both.0 placed)))

-- both kinds tell what is wanted where each does
pub told_both : {A : Type 0} (items : A → List ℕ) (w : WantedParts) (wanted_level wanted_upright : Option A)
    → MatchOption wanted_level (AreNeverDrawn (coordinates_of w.asked.problem.grid) w.asked.asked.layer w.asked.asked.runs w.right w.up false)
    (λ b. AreWantedBytes (coordinates_of w.asked.problem.grid) w.asked.asked.layer w.asked.asked.runs w.right w.up false (items b))
    → MatchOption wanted_upright (AreNeverDrawn (coordinates_of w.asked.problem.grid) w.asked.asked.layer w.asked.asked.runs w.right w.up true)
    (λ b. AreWantedBytes (coordinates_of w.asked.problem.grid) w.asked.asked.layer w.asked.asked.runs w.right w.up true (items b))
    → (level upright : List ℕ) (told_level told_upright : Bool) → (IsTrue told_level ↔ MatchOption wanted_level ⊥ (λ b. level ≡ items b))
    → (IsTrue told_upright ↔ MatchOption wanted_upright ⊥ (λ b. upright ≡ items b)) → TellsPlaced w level upright (told_level && told_upright)
told_both items w wanted_level wanted_upright of_level of_upright level upright told_level told_upright is_level is_upright level_runs upright_runs tell tell_too =
    let c = coordinates_of w.asked.problem.grid in let x = w.asked.asked.layer in let shown = w.asked.asked.runs in
    let one = told_one items wanted_level c x shown w.right w.up false of_level level told_level is_level level_runs tell in
    let other = told_one items wanted_upright c x shown w.right w.up true of_upright upright told_upright is_upright upright_runs tell_too in (
      (λ yes. let p = and_parts told_level told_upright yes in (one.0 p.0, other.0 p.1)),
      (λ placed. and_from told_level told_upright (one.1 placed.0) (other.1 placed.1)),
    )

-- ---- what is told of a layer

-- a view's own layer, with these runs
abbrev asked_of : DrawnParts → ViewRuns → LayerAsked
asked_of v runs = record { problem = v.problem; asked = record { layer = v.layer; runs = runs } }

own_layer : (a : LayerAsked) (v : DrawnParts) → IsViewOf a.problem a.asked.layer v → asked_of v a.asked.runs ≡ a
own_layer a v of = λ t. record { problem = of.problem t; asked = record { layer = of.layer t; runs = a.asked.runs } }

-- a view of what is the same layer still
pub still_of : (p : ProblemParts) (x : Layer) (v new : DrawnParts) → IsViewOf p x v → IsViewOf v.problem v.layer new → IsViewOf p x new
still_of p x v new of same = record { problem = same.problem ∙ of.problem; layer = same.layer ∙ of.layer }

-- where what is drawn begins, its bytes tell whether the layer is shown
pub line_tells : (a : LayerAsked) (v : DrawnParts) → IsViewOf a.problem a.asked.layer v → AreRunsAsked a → (choice : List Bool) → DrawsChoice v choice → (right up : ℕ)
    → IsFirstLine (width v.layer (grid_sizes v.problem.grid)) (height v.layer (grid_sizes v.problem.grid)) true (bytes_along true v) right
    → IsFirstLine (width v.layer (grid_sizes v.problem.grid)) (height v.layer (grid_sizes v.problem.grid)) false (bytes_along false v) up
    → (told : Bool) → TellsPlaced (record { asked = a; right = right; up = up }) (bytes_along false v) (bytes_along true v) told → TellsLayer a choice told
line_tells a v of kept choice draws right up first_right first_up told tells = subst (λ (b : LayerAsked). TellsLayer b choice told) (own_layer a v of) (λ s fills.
    let stands = draws.stand s fills in
    let own = subst (λ (b : LayerAsked). TellsPlaced (record { asked = b; right = right; up = up }) (bytes_along false v) (bytes_along true v) told) (sym (own_layer a v of)) tells in
    let both = shows_told v.problem.grid draws.grid v.layer draws.cells draws.columns draws.seen stands.other stands.union (λ u. bytes_along u v) draws.long draws.drawn
    right up first_right first_up a.asked.runs kept told own in
    let shows = stands.shows (view_style a.asked.runs) in
    ((λ yes. shows.0 (both.0 yes)), (λ shown. both.1 (shows.1 shown))))

-- where nothing is drawn it isn't
pub none_tells : (a : LayerAsked) (v : DrawnParts) → IsViewOf a.problem a.asked.layer v → (choice : List Bool) → DrawsChoice v choice → (upright : Bool)
    → DrawsNoLine (width v.layer (grid_sizes v.problem.grid)) (height v.layer (grid_sizes v.problem.grid)) upright (bytes_along upright v) → TellsLayer a choice false
none_tells a v of choice draws upright none = subst (λ (b : LayerAsked). TellsLayer b choice false) (own_layer a v of) (λ s fills.
    let stands = draws.stand s fills in (
      (λ e. absurd (false≢true e)),
      (λ shown. absurd (none_shown v.problem.grid draws.grid v.layer draws.cells draws.columns draws.seen stands.other stands.union (λ u. bytes_along u v) draws.long draws.drawn
          upright (view_style a.asked.runs) none ((stands.shows (view_style a.asked.runs)).1 shown))),
    ))

-- ---- what a view draws

-- of a layer without a cut it draws the solid itself; of one with a cut, the solid of the cells that are left
pub draws_choice : (p : ProblemParts) (x : Layer) (kept : Option ℕ) → IsGrid p.grid → LayerKeeps (coordinates_of p.grid) x kept → (choice : List Bool) (sights : List (List Span))
    → AreSights x (grid_sizes p.grid) p.blocks.numbers kept sights → (columns : List ℕ) → AreFilled choice sights columns → length columns ≡ length sights
    → (level upright : List ℕ)
    → length level ≡ (height x (grid_sizes p.grid) + 1) * (width x (grid_sizes p.grid) + 1) → length upright ≡ (height x (grid_sizes p.grid) + 1) * (width x (grid_sizes p.grid) + 1)
    → ((left : List ℕ) → AreLeftOf kept columns left → AreDrawn left (width x (grid_sizes p.grid) + 1) false level)
    → ((left : List ℕ) → AreLeftOf kept columns left → AreDrawn left (width x (grid_sizes p.grid) + 1) true upright)
    → DrawsChoice (record { problem = p; layer = x; level = level; upright = upright }) choice
draws_choice p x None is whole choice sights are columns fill long level upright long_level long_upright level_drawn upright_drawn = record {
  grid = is;
  cells = cells_of_choice p.blocks.numbers choice;
  stand = λ s fills. record {
    other = s;
    union = fills;
    shows = λ shown. (
      subst (λ (cut : Option Cut). ShowsCut cut (sight_frame x) s shown x.view) (sym whole),
      subst (λ (cut : Option Cut). ShowsCut cut (sight_frame x) s shown x.view) whole,
    );
  };
  columns = columns;
  seen = whole_seen x (grid_sizes p.grid) (cells_of_choice p.blocks.numbers choice) columns
      (filled_kept x (grid_sizes p.grid) p.blocks.numbers None sights are choice columns fill long);
  long = long_of;
  drawn = drawn_of;
}
  where
    long_of : (u : Bool) → length (bytes_along u (record { problem = p; layer = x; level = level; upright = upright })) ≡ (height x (grid_sizes p.grid) + 1) * (width x (grid_sizes p.grid) + 1)
    long_of true = long_upright
    long_of false = long_level

    drawn_of : (u : Bool) → AreDrawn columns (width x (grid_sizes p.grid) + 1) u (bytes_along u (record { problem = p; layer = x; level = level; upright = upright }))
    drawn_of true = upright_drawn columns (λ q l. refl)
    drawn_of false = level_drawn columns (λ q l. refl)
draws_choice p x (Some depths) is (c, cut, keeps) choice sights are columns fill long level upright long_level long_upright level_drawn upright_drawn = record {
  grid = is;
  cells = cells.0;
  stand = λ s fills.
      let other = some_union (coordinates_of p.grid) (grid_ascends p.grid is) cells.0 in record {
        other = other.0;
        union = other.1;
        shows = λ shown.
            let both = left_shown (sight_frame x) (sights_are_frames x) (coordinates_of p.grid) (cells_of_choice p.blocks.numbers choice) c s fills shown x.view cells.0
            (keeps.left_from.draws (cells_of_choice p.blocks.numbers choice) cells.0 cells.1) other.0 other.1 in (
              (λ whole. subst (λ (o : Option Cut). ShowsCut o (sight_frame x) s shown x.view) (sym cut) (both.0 whole)),
              (λ shows. both.1 (subst (λ (o : Option Cut). ShowsCut o (sight_frame x) s shown x.view) cut shows)),
            );
      };
  columns = left.0;
  seen = left_seen x (coordinates_of p.grid) c depths keeps (cells_of_choice p.blocks.numbers choice) cells.0 cells.1 columns left.0
      (filled_kept x (grid_sizes p.grid) p.blocks.numbers (Some depths) sights are choice columns fill long) left.1 left.2;
  long = long_of;
  drawn = drawn_of;
}
  where
    cells : (kept : List Bool) × AreLeftCells c.area (sight_frame x).away (coordinates_of p.grid) keeps.gap (cells_of_choice p.blocks.numbers choice) kept
    cells = some_left_cells c.area (sight_frame x).away (coordinates_of p.grid) keeps.gap (cells_of_choice p.blocks.numbers choice)

    left : (others : List ℕ) × AreLeftOf (Some depths) columns others × (length others ≡ length columns)
    left = some_left (Some depths) keeps.fits columns

    long_of : (u : Bool) → length (bytes_along u (record { problem = p; layer = x; level = level; upright = upright })) ≡ (height x (grid_sizes p.grid) + 1) * (width x (grid_sizes p.grid) + 1)
    long_of true = long_upright
    long_of false = long_level

    drawn_of : (u : Bool) → AreDrawn left.0 (width x (grid_sizes p.grid) + 1) u (bytes_along u (record { problem = p; layer = x; level = level; upright = upright }))
    drawn_of true = upright_drawn left.0 left.1
    drawn_of false = level_drawn left.0 left.1

-- a choice has a solid
pub of_solids : (a : LayerAsked) → IsGrid a.problem.grid → (choice : List Bool) (told : Bool) → TellsLayer a choice told → IsTrue told ↔ ShowsIn a choice
of_solids a is choice told tells =
    let s = some_union (coordinates_of a.problem.grid) (grid_ascends a.problem.grid is) (cells_of_choice a.problem.blocks.numbers choice) in (
      (λ y t fills. (tells t fills).0 y),
      (λ all. (tells s.0 s.1).1 (all s.0 s.1)),
    )

-- the choice fits where its solid shows each layer
pub all_shown : (p : ProblemParts) (e : FurtherRuns) (choice : List Bool) → Each (λ a. ShowsIn a choice) (layers_asked p e) ↔ FitsChoice p e choice
all_shown p e choice = (there e, back e)
  where
    there : (e : FurtherRuns) → Each (λ a. ShowsIn a choice) (layers_asked p e) → FitsChoice p e choice
    there [] shown s fills = tt
    there (v ∷ vs) (first, rest) s fills = (first s fills, there vs rest s fills)

    back : (e : FurtherRuns) → FitsChoice p e choice → Each (λ a. ShowsIn a choice) (layers_asked p e)
    back [] fits = tt
    back (v ∷ vs) fits = ((λ s fills. (fits s fills).0), back vs (λ s fills. (fits s fills).1))
