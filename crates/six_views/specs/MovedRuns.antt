-- The runs of one view, and the same moved.
use Rattle.std.specs.Prelude.{◌≡◌, Bool, List, [], ◌∷◌, map, Option, Some, None, ℤ, ◌+ℤ◌}
use Rattle.solid_model.specs.declared.runs.Run.{Run}
use Rattle.solid_model.specs.Runs.{ViewRuns, runs_along}
use Rattle.solid_model.specs.Segments.{along_of, across_of}

-- a run that stands so much farther across and along
abbrev pub moved_run : ℤ → ℤ → Run → Run
moved_run across along r = record { at = r.at +ℤ across; from = r.from +ℤ along; to = r.to +ℤ along; style = r.style }

-- the runs of a view are those of another one, so much farther to the right and upwards
abbrev pub AreMovedRuns : ℤ → ℤ → ViewRuns → ViewRuns → Type 0
AreMovedRuns right up shown own = (upright : Bool)
    → runs_along upright own ≡ map (moved_run (across_of upright right up) (along_of upright right up)) (runs_along upright shown)

-- the line of the first run, if there is one
abbrev pub first_line : List Run → Option ℤ
first_line [] = None
first_line (r ∷ rs) = Some r.at
