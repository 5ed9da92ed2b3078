-- The texts of the first solids are written, and the buffers stay as large.
use Rattle.std.proofs.Common.{◌≡◌, ℕ, ◌≤◌, List, take}
use Rattle.std.specs.Io.KnownBytes.{Appends}
use Rattle.recon_run.specs.Answers.{TellsSolids}
use Rattle.recon_run.specs.Searched.{FillSolids}
use Rattle.solid_model.specs.declared.cell.Cell.{Cell}
use Rattle.recon_run.proofs.all_solids.write_solids.Given as goal

abbrev pub invariant-loop-place : goal.invariant-loop-place
invariant-loop-place g l = (l.buffers.rows.sizes ≡ l.texts.problem.blocks.sizes) × (g.K.Sink.faults l.initial.sink ≤ g.K.Sink.faults l.sink)
    × ((solids : List (List Cell)) → FillSolids l.texts.problem l.choices solids → (text : List ℕ)
    × TellsSolids l.texts.decimals 1 (take l.place l.choices) (take l.place solids) text × Appends (g.K.Sink.held l.initial.sink) (g.K.Sink.held l.sink) text)
