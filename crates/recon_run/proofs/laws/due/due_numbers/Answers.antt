use Rattle.std.proofs.Common.{◌≡◌, ℕ, List, Option, Ok, Err, arith}
use Rattle.recon_run.specs.Endings.{Ends, owed_to}
use Rattle.recon_run.specs.Owed.{Owed}
use Rattle.recon_run.proofs.DueAnswers.{faultless_ends, faulty_ends, reply_is_due, whole_ends}
use Rattle.replies.specs.declared.status.Answer.{Answer}
use Rattle.replies.specs.declared.status.Answer.TheVariants as answers
use Rattle.replies.specs.declared.status.Failure.{Failure}
use Rattle.replies.specs.declared.status.Failure.TheVariants.{ReadFault, WriteFault, Memory}
use Rattle.replies.specs.Status.{Status, answer_code, failure_code, status_code}
use Rattle.tv_base.specs.Faults.{Rose}
use Rattle.recon_run.proofs.laws.due.due_numbers.Goals as goal

pub returns-clause-whole : goal.returns-clause-whole
returns-clause-whole c words left rest held now a b x y status ends =
    whole_ends (owed_to words) left rest held now (Rose a b) (Rose x y) status ends

pub returns-clause-ended : goal.returns-clause-ended
returns-clause-ended c words left rest held now a b x y status ends =
    faultless_ends (owed_to words) left rest held now (Rose a b) (Rose x y) status ends

pub returns-clause-fault : goal.returns-clause-fault
returns-clause-fault c words left rest held now a b x y status ends =
    faulty_ends (owed_to words) left rest held now (Rose a b) (Rose x y) status ends

pub returns-clause-alone : goal.returns-clause-alone
returns-clause-alone c words left rest held now a b x y status ends =
    reply_is_due (owed_to words) left rest held now (Rose a b) (Rose x y) status ends

-- no answer has the number of a fault of the sink
no_answer : (answer : Answer) → answer_code answer ≡ 6 → ⊥
no_answer answers.Done e = omega (arith, e)
no_answer answers.Faulty e = omega (arith, e)
no_answer answers.Usage e = omega (arith, e)
no_answer answers.CutNodes e = omega (arith, e)
no_answer answers.CutSolids e = omega (arith, e)
no_answer answers.NoSolid e = omega (arith, e)
no_answer answers.Refused e = omega (arith, e)
no_answer answers.Stopped e = omega (arith, e)
no_answer answers.NotAsked e = omega (arith, e)

by_sink : (o : Owed) (left rest held now : Option (List ℕ)) (read_rose rose : Type 0) (status : Status)
    → Ends o left rest held now read_rose rose status → status_code status ≡ failure_code WriteFault → rose
by_sink o left rest held now read_rose rose (Ok answer) ends e = absurd (no_answer answer e)
by_sink o left rest held now read_rose rose (Err ReadFault) ends e = absurd (omega (arith, e))
by_sink o left rest held now read_rose rose (Err WriteFault) ends e = ends.0
by_sink o left rest held now read_rose rose (Err Memory) ends e = absurd (omega (arith, e))

pub returns-clause-write_fault : goal.returns-clause-write_fault
returns-clause-write_fault c words left rest held now a b x y status ends e =
    by_sink (owed_to words) left rest held now (Rose a b) (Rose x y) status ends e
