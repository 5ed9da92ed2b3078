-- The name of the layer stays text.
use denote.Text.{Utf8}
use denote.Shadow.{shadow}
use Rattle.test_files.proofs.files.file_of.Given as goal

abbrev pub invariant-loop-step : goal.invariant-loop-step
invariant-loop-step l = shadow (Utf8 l.layer)
