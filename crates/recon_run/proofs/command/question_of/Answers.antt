-- Each question is what the job's input is asked.
use Rattle.std.proofs.Common.{◌≡◌, sym, subst}
use Rattle.recon_run.specs.Owed.{owed_for}
use Rattle.recon_run.specs.Searched.{AsksFor}
use Rattle.recon_run.specs.declared.question.Question.{Question}
use Rattle.words.specs.declared.job.Job.{Job}
use Rattle.recon_run.proofs.command.question_of.Goals as goal

asked_so : (given job : Job) (q : Question) → given ≡ job → AsksFor (owed_for job) q → AsksFor (owed_for given) q
asked_so given job q same asks = subst (λ (j : Job). AsksFor (owed_for j) q) (sym same) asks

pub returns-in-Solve : goal.returns-in-Solve
returns-in-Solve c = asked_so _ _ _ c.in-Solve.is (λ left rest held now a b x y status ends. ends)

pub returns-in-Redraw : goal.returns-in-Redraw
returns-in-Redraw c = asked_so _ _ _ c.in-Redraw.is (λ left rest held now a b x y status ends. ends)

pub returns-in-Stl : goal.returns-in-Stl
returns-in-Stl c = asked_so _ _ _ c.in-Stl.is (λ left rest held now a b x y status ends. ends)

pub returns-in-Prove : goal.returns-in-Prove
returns-in-Prove c = asked_so _ _ _ c.in-Prove.is (λ left rest held now a b x y status ends. ends)

pub returns-in-Check : goal.returns-in-Check
returns-in-Check c = asked_so _ _ _ c.in-Check.is (λ left rest held now a b x y status ends. ends)

pub returns-in-Ask : goal.returns-in-Ask
returns-in-Ask c = asked_so _ _ _ c.in-Ask.is (λ left rest held now a b x y status ends. ends)

pub returns-in-Blocks : goal.returns-in-Blocks
returns-in-Blocks c = asked_so _ _ _ c.in-Blocks.is (λ left rest held now a b x y status ends. ends)
