use Rattle.std.proofs.Common.{◌≡◌, inl, inr, ℕ, List, Some}
use Rattle.file_problem.specs.Inputs.{IsFileFault}
use Rattle.recon_run.specs.Endings.{LeavesOpen, OfInput, owed_to}
use Rattle.recon_run.specs.Owed.{Owed, alone, read}
use Rattle.replies.specs.declared.status.Answer.{Answer}
use Rattle.solid_model.specs.declared.fault.Fault.{Fault}
use Rattle.recon_run.proofs.laws.little_is_left_open.Goals as goal

none_open : (o : Owed) (t : List ℕ) (a b : Answer)
    → OfInput o (Some t) (λ input. (fault : Fault) → IsFileFault input fault → LeavesOpen o t a b → ⊥)
none_open (read profile asked) t a b = λ fault at both. both.0 fault at
none_open (alone right tells) t a b = tt

pub returns-clause-faulty : goal.returns-clause-faulty
returns-clause-faulty c words input a b = none_open (owed_to words) input a b

pub returns-clause-searched : goal.returns-clause-searched
returns-clause-searched c paged limits t (cut, other) = cut

pub returns-clause-asked : goal.returns-clause-asked
returns-clause-asked c limits t (inl (cut, other)) = cut
returns-clause-asked c limits t (inr (asks, inl stopped)) = cc
returns-clause-asked c limits t (inr (asks, inr stopped)) = cc
