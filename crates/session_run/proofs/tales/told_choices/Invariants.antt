-- The choices so far are different solutions, and those of the tales so far are among them.
use Rattle.std.proofs.Common.{take}
use Rattle.lemmas.specs.Lists.{Each}
use Rattle.solid_model.specs.Blocks.{ProblemParts}
use Rattle.solid_model.specs.Solutions.{AreSolutions}
use Rattle.search_end.specs.Handed.{AreFewSolutions}
use Rattle.session_run.specs.Session.{AreAmong}
use Rattle.session_run.proofs.tales.told_choices.Given as goal

abbrev pub invariant-loop-tale : goal.invariant-loop-tale
invariant-loop-tale l = record {
  solutions : (p : ProblemParts) → Each (λ t. AreSolutions p t.last.items) l.tales → AreFewSolutions p l.most l.told.items;
  all : Each (λ t. AreAmong l.most l.told.items t.last.items) (take l.tale-index l.tales);
}
