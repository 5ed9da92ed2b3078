-- The cells so far.
use Rattle.std.proofs.Common.{◌≡◌, take}
use Rattle.solid_model.specs.Choices.{cells_of_choice}
use Rattle.solid_model.proofs.problem.Problem.cells.Given as goal

abbrev pub invariant-loop-block : goal.invariant-loop-block
invariant-loop-block l = l.cells.items ≡ cells_of_choice (take l.block-index l.block-items) l.choice
