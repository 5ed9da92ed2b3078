-- Small lists of runs, written out.
use Rattle.std.specs.Prelude.{List, [], ◌∷◌, map, ℕ, ℤ, pos, negsuc}
use Rattle.solid_model.specs.declared.runs.Run.{Run}
use Rattle.solid_model.specs.declared.segment.Style.{Style}
use Rattle.solid_model.specs.declared.segment.Style.TheVariants.{Dashed, Solid}
use Rattle.solid_model.specs.Runs.{run_style}

-- a run on a line, from a place to a place
abbrev pub run_on : ℕ → ℕ → ℕ → Style → Run
run_on at from to style = record { at = pos at; from = pos from; to = pos to; style = style }

-- a solid piece between two dashed ones on line 0, and a dashed run on line 2
abbrev pub four_runs : List Run
four_runs = run_on 0 0 1 Dashed ∷ run_on 0 1 3 Solid ∷ run_on 0 3 4 Dashed ∷ run_on 2 1 3 Dashed ∷ []

-- a solid run in two halves, which is no list of runs
abbrev pub two_halves : List Run
two_halves = run_on 0 0 1 Solid ∷ run_on 0 1 2 Solid ∷ []

-- the styles of the unit lengths of a line that begin at the places
abbrev pub styles_on : List Run → ℤ → List ℤ → List Style
styles_on rs j zs = map (run_style rs j) zs

-- the places from -1 to 4
abbrev pub first_places : List ℤ
first_places = negsuc 0 ∷ pos 0 ∷ pos 1 ∷ pos 2 ∷ pos 3 ∷ pos 4 ∷ []
