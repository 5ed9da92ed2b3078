-- How a run ends, by what was answered and how its text was written.
use Rattle.std.proofs.Common.{◌≡◌, refl, inl, inr, ℕ, List, Option, Some, None, Result, Ok, Err, subst₂, sym}
use Rattle.std.specs.Io.KnownBytes.{Keeps}
use Rattle.file_problem.specs.Inputs.{HasProblem, IsFileFault}
use Rattle.file_problem.proofs.Faults.{no_fault}
use Rattle.replies.specs.declared.status.Answer.{Answer}
use Rattle.replies.specs.declared.status.Answer.TheVariants as answers
use Rattle.replies.specs.declared.status.Failure.{Failure}
use Rattle.replies.specs.declared.status.Failure.TheVariants.{ReadFault, WriteFault, Memory}
use Rattle.recon_run.specs.Endings.{Ends}
use Rattle.replies.specs.Writings.{EndsWriting, IsReply}
use Rattle.recon_run.specs.Owed.{AnswersOwed, Asked, BeginsOwed, HasRead, Owed, ProfileParts, input_of, judgement_of, read}
use Rattle.report.specs.FaultText.{fault_text}
use Rattle.solid_model.specs.declared.fault.Fault.{Fault}
use Rattle.solid_model.specs.Blocks.{ProblemParts}
use Rattle.replies.specs.Status.{Status}

-- known bytes stay as they are where nothing is done
pub keeps_itself : (held : Option (List ℕ)) → Keeps held held
keeps_itself None = tt
keeps_itself (Some bytes) = refl

module _ (o : Owed) (left rest held now : Option (List ℕ)) (source_rose sink_rose : Type 0) where
  -- what is written of right answers ends a run to which they are owed
  pub written_ends : (tells begins : Answer → List ℕ → Type 0)
      → ((answer : Answer) (text : List ℕ) → tells answer text → AnswersOwed o left rest answer text)
      → ((answer : Answer) (text : List ℕ) → begins answer text → BeginsOwed o left rest answer text)
      → (status : Status) → EndsWriting tells begins held now sink_rose status → Ends o left rest held now source_rose sink_rose status
  written_ends tells begins right rightly (Ok answer) (text, told, appends) = (text, right answer text told, appends)
  written_ends tells begins right rightly (Err ReadFault) ends = absurd ends
  written_ends tells begins right rightly (Err WriteFault) (rises, answer, text, told, prefix) =
      (rises, (answer, text, rightly answer text told, prefix))
  written_ends tells begins right rightly (Err Memory) (inl keeps) = inl keeps
  written_ends tells begins right rightly (Err Memory) (inr (answer, text, told, prefix)) =
      inr (answer, text, rightly answer text told, prefix)

  -- so does a right answer that is written in one piece
  pub reply_ends : (answer : Answer) (text : List ℕ) → AnswersOwed o left rest answer text → BeginsOwed o left rest answer text
      → (status : Status) → EndsWriting (IsReply answer text) (IsReply answer text) held now sink_rose status
      → Ends o left rest held now source_rose sink_rose status
  reply_ends answer text right rightly = written_ends (IsReply answer text) (IsReply answer text)
      (λ told other is. subst₂ (AnswersOwed o left rest) (sym is.0) (sym is.1) right)
      (λ told other is. subst₂ (BeginsOwed o left rest) (sym is.0) (sym is.1) rightly)

module _ (profile : ProfileParts) (asked : Asked) (left rest : Option (List ℕ)) (source_rose sink_rose : Type 0) (t : List ℕ)
    (reads : HasRead profile.most left rest t) (held now : Option (List ℕ)) (status : Status) where
  -- what is judged of an input that has a problem ends a run over it
  pub judged_ends : (p : ProblemParts) → HasProblem (input_of profile t) p
      → EndsWriting ((judgement_of asked).tells (input_of profile t)) ((judgement_of asked).begins (input_of profile t)) held now sink_rose status
      → Ends (read profile asked) left rest held now source_rose sink_rose status
  judged_ends p has = written_ends (read profile asked) left rest held now source_rose sink_rose
      ((judgement_of asked).tells (input_of profile t)) ((judgement_of asked).begins (input_of profile t))
      (λ answer text told. (t, reads, inr (no_fault has, told))) (λ answer text told. (t, reads, inr (no_fault has, told))) status

  -- so does its fault
  pub fault_ends : (fault : Fault) → IsFileFault (input_of profile t) fault
      → EndsWriting (IsReply answers.Faulty (fault_text fault)) (IsReply answers.Faulty (fault_text fault)) held now sink_rose status
      → Ends (read profile asked) left rest held now source_rose sink_rose status
  fault_ends fault is = reply_ends (read profile asked) left rest held now source_rose sink_rose answers.Faulty (fault_text fault)
      (t, reads, inl (refl, (fault, is, refl))) (t, reads, inl (refl, (fault, is, refl))) status

-- ---- faults

-- a writing doesn't fail by the source
pub never_unread : {A : Type 0} (tells begins : A → List ℕ → Type 0) (held now : Option (List ℕ)) (rose : Type 0) (r : Result A Failure)
    → EndsWriting tells begins held now rose r → r ≡ Err ReadFault → ⊥
never_unread tells begins held now rose (Ok given) ends e = cc
never_unread tells begins held now rose (Err ReadFault) ends e = ends
never_unread tells begins held now rose (Err WriteFault) ends e = cc
never_unread tells begins held now rose (Err Memory) ends e = cc

-- where a run ends by a fault of the source, its count rose
pub counts_source : (o : Owed) (left rest held now : Option (List ℕ)) (source_rose sink_rose : Type 0) (status : Status)
    → Ends o left rest held now source_rose sink_rose status → status ≡ Err ReadFault → source_rose
counts_source o left rest held now source_rose sink_rose (Ok answer) ends e = cc
counts_source o left rest held now source_rose sink_rose (Err ReadFault) ends e = ends.0
counts_source o left rest held now source_rose sink_rose (Err WriteFault) ends e = cc
counts_source o left rest held now source_rose sink_rose (Err Memory) ends e = cc

-- and by one of the sink, the sink's
pub counts_sink : (o : Owed) (left rest held now : Option (List ℕ)) (source_rose sink_rose : Type 0) (status : Status)
    → Ends o left rest held now source_rose sink_rose status → status ≡ Err WriteFault → sink_rose
counts_sink o left rest held now source_rose sink_rose (Ok answer) ends e = cc
counts_sink o left rest held now source_rose sink_rose (Err ReadFault) ends e = cc
counts_sink o left rest held now source_rose sink_rose (Err WriteFault) ends e = ends.0
counts_sink o left rest held now source_rose sink_rose (Err Memory) ends e = cc
