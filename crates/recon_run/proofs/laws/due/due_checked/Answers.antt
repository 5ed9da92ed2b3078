use Rattle.std.proofs.Common.{◌≡◌, ◌∙◌, inl, inr, refl, sym, subst, ap, ℕ, List, Some}
use Rattle.dxf_groups.specs.Pairs.{rest_of_text}
use Rattle.file_problem.specs.Inputs.{HasProblem, Input}
use Rattle.file_problem.proofs.Faults.{no_fault}
use Rattle.file_problem.proofs.Problems.{one_problem}
use Rattle.recon_run.specs.Answers.{IsSomeLog, TellsChecked}
use Rattle.recon_run.specs.Owed.{AnswersInput, input_of, layers_or, log_profile}
use Rattle.recon_run.proofs.Checked.{is_right, yes_or_refused}
use Rattle.dxf_entities.specs.declared.layer_set.LayerSet.TheVariants.{Main}
use Rattle.replies.specs.declared.status.Answer.{Answer}
use Rattle.replies.specs.declared.status.Answer.TheVariants as answers
use Rattle.solid_model.specs.Blocks.{ProblemParts}
use Rattle.recon_run.proofs.laws.due.due_checked.Goals as goal

module _ (t : Input) (p : ProblemParts) (has : HasProblem t p) (log : List ℕ) (behind : rest_of_text t.bytes ≡ Some log) (answer : Answer) (text : List ℕ) where
  same_log : (other : List ℕ) → rest_of_text t.bytes ≡ Some other → other ≡ log
  same_log other e = let same : Some other ≡ Some log = sym e ∙ behind in cc

  right : IsSomeLog p log → AnswersInput TellsChecked t answer text → answer ≡ answers.Done
  right is (inl (faulty, (fault, at, told))) = absurd (no_fault has fault at)
  right is (inr (none, (q, has_too, other, behind_too, inl (done, says)))) = done
  right is (inr (none, (q, has_too, other, behind_too, inr (refused, says)))) = absurd (yes_or_refused q other text text
      (subst (λ l. IsSomeLog q l) (sym (same_log other behind_too)) (subst (λ (r : ProblemParts). IsSomeLog r log) (one_problem has has_too).problem is)) says)

  refused : (IsSomeLog p log → ⊥) → AnswersInput TellsChecked t answer text → answer ≡ answers.Refused
  refused never (inl (faulty, (fault, at, told))) = absurd (no_fault has fault at)
  refused never (inr (none, (q, has_too, other, behind_too, inr (is, says)))) = is
  refused never (inr (none, (q, has_too, other, behind_too, inl (done, says)))) = absurd (never
      (subst (λ (r : ProblemParts). IsSomeLog r log) (sym (one_problem has has_too).problem)
      (subst (λ l. IsSomeLog q l) (same_log other behind_too) (is_right t.layers has_too other text says))))

pub returns-clause-right : goal.returns-clause-right
returns-clause-right c two sections bytes rest answer text p has log behind is (t, (same, reads), told) =
    right (input_of (log_profile (layers_or sections Main) two) bytes) p has log behind answer text is
    (subst (λ b. AnswersInput TellsChecked (input_of (log_profile (layers_or sections Main) two) b) answer text) (sym same) told)

pub returns-clause-refused : goal.returns-clause-refused
returns-clause-refused c two sections bytes rest answer text p has log behind never (t, (same, reads), told) =
    refused (input_of (log_profile (layers_or sections Main) two) bytes) p has log behind answer text never
    (subst (λ b. AnswersInput TellsChecked (input_of (log_profile (layers_or sections Main) two) b) answer text) (sym same) told)
