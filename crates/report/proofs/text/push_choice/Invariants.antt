-- What is told so far, and what is left, are all.
use Rattle.std.proofs.Common.{◌≡◌, ◌++◌, drop}
use Rattle.report.specs.Texts.{choice_text}
use Rattle.report.proofs.text.push_choice.Given as goal

abbrev pub invariant-loop-block : goal.invariant-loop-block
invariant-loop-block l = l.text.items ++ choice_text (drop l.block l.choice) ≡ l.initial.text.items ++ choice_text l.choice
