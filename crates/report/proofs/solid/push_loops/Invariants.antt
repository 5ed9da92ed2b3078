-- The first loops are told.
use Rattle.std.proofs.Common.{◌≡◌, ◌++◌, take}
use Rattle.std.specs.List.{flat_map}
use Rattle.report.specs.Texts.{loop_text}
use Rattle.report.proofs.solid.push_loops.Given as goal

abbrev pub invariant-loop-border : goal.invariant-loop-border
invariant-loop-border l = l.text.items ≡ l.initial.text.items ++ flat_map (loop_text l.decimals) (take l.border-index l.loops)
