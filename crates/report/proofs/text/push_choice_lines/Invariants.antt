-- The first choices are told.
use Rattle.std.proofs.Common.{◌≡◌, ◌++◌, take}
use Rattle.std.specs.List.{flat_map}
use Rattle.report.specs.Texts.{choice_line}
use Rattle.report.proofs.text.push_choice_lines.Given as goal

abbrev pub invariant-loop-choice : goal.invariant-loop-choice
invariant-loop-choice l = l.text.items ≡ l.initial.text.items ++ flat_map choice_line (take l.choice-index l.choices)
