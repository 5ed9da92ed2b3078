-- The first corners are told.
use Rattle.std.proofs.Common.{◌≡◌, ◌++◌, take}
use Rattle.std.specs.List.{flat_map}
use Rattle.report.specs.Texts.{corner_text}
use Rattle.report.proofs.solid.push_corners.Given as goal

abbrev pub invariant-loop-corner : goal.invariant-loop-corner
invariant-loop-corner l = l.text.items ≡ l.initial.text.items ++ flat_map (corner_text l.decimals) (take l.corner-index l.corners)
