-- What is made from a number is owed.
use Rattle.std.proofs.Common.{◌≡◌, ◌+◌, ℕ, List, Option, refl, sym, subst}
use Rattle.tv_base.specs.Faults.{Rose}
use Rattle.tv_base.specs.Pieces.{ReadsWithin}
use Rattle.drawing_maker.specs.Made.{made_solid}
use Rattle.replies.specs.declared.status.Answer.TheVariants as answers
use Rattle.recon_run.specs.Answers.{IsTried}
use Rattle.recon_run.specs.Endings.{Ends}
use Rattle.replies.specs.Status.{Status}
use Rattle.replies.specs.Writings.{IsReply}
use Rattle.recon_run.specs.Owed.{Owed, ProfileParts, alone, most_read, owed_for, read}
use Rattle.recon_run.specs.Searched.{AsksFor, ReadsIn, asked_of}
use Rattle.recon_run.specs.declared.question.Question.{Question}
use Rattle.recon_run.proofs.Endings.{never_unread, reply_ends}
use Rattle.redraw.specs.Files.{IsFileOf}
use Rattle.words.specs.declared.job.Job.{Job}
use Rattle.words.specs.declared.job.Job.TheVariants as job
use Rattle.recon_run.proofs.command.do_job.Goals as goal

pub returns-in_ok-made_file-in-Make-clause-ends : goal.returns-in_ok-made_file-in-Make-clause-ends
returns-in_ok-made_file-in-Make-clause-ends g c =
    let left = g.S.Source.left c.args.source.now in let n = c.in-Make.n in
    let held = g.K.Sink.held c.args.sink.now in let now = g.K.Sink.held c.write_reply.new.sink in
    let source_rose = Rose (g.S.Source.faults c.args.source.now) (g.S.Source.faults c.args.source.now) in
    let sink_rose = Rose (g.K.Sink.faults c.args.sink.now) (g.K.Sink.faults c.write_reply.new.sink) in
    let told = subst (IsFileOf 0 (made_solid n)) (sym c.as_slice.ensures.value) c.in_ok-made_file-in-Make.ensures in
    subst (λ j. Ends (owed_for j) left left held now source_rose sink_rose c.write_reply.result) (sym c.in-Make.is)
    (reply_ends (owed_for (job.Make n)) left left held now source_rose sink_rose answers.Done c.as_slice.result.now (refl, refl, told) (refl, refl, told)
    c.write_reply.result c.write_reply.ensures)

pub returns-in_ok-made_file-in-Make-clause-unwritten : goal.returns-in_ok-made_file-in-Make-clause-unwritten
returns-in_ok-made_file-in-Make-clause-unwritten g c failed =
    let right = IsReply answers.Done c.as_slice.result.now in
    absurd (never_unread right right (g.K.Sink.held c.args.sink.now) (g.K.Sink.held c.write_reply.new.sink)
    (Rose (g.K.Sink.faults c.args.sink.now) (g.K.Sink.faults c.write_reply.new.sink)) c.write_reply.result c.write_reply.ensures failed)

pub returns-in_ok-trial-in-Trial-clause-ends : goal.returns-in_ok-trial-in-Trial-clause-ends
returns-in_ok-trial-in-Trial-clause-ends g c =
    let left = g.S.Source.left c.args.source.now in let n = c.in-Trial.n in
    let held = g.K.Sink.held c.args.sink.now in let now = g.K.Sink.held c.write_reply-in-Trial.new.sink in
    let source_rose = Rose (g.S.Source.faults c.args.source.now) (g.S.Source.faults c.args.source.now) in
    let sink_rose = Rose (g.K.Sink.faults c.args.sink.now) (g.K.Sink.faults c.write_reply-in-Trial.new.sink) in
    let told = subst (IsTried n) (sym c.as_slice-in-Trial.ensures.value) c.in_ok-trial-in-Trial.ensures in
    subst (λ j. Ends (owed_for j) left left held now source_rose sink_rose c.write_reply-in-Trial.result) (sym c.in-Trial.is)
    (reply_ends (owed_for (job.Trial n c.in-Trial.workers)) left left held now source_rose sink_rose answers.Done c.as_slice-in-Trial.result.now (refl, refl, told) (refl, refl, told)
    c.write_reply-in-Trial.result c.write_reply-in-Trial.ensures)

pub returns-in_ok-trial-in-Trial-clause-unwritten : goal.returns-in_ok-trial-in-Trial-clause-unwritten
returns-in_ok-trial-in-Trial-clause-unwritten g c failed =
    let right = IsReply answers.Done c.as_slice-in-Trial.result.now in
    absurd (never_unread right right (g.K.Sink.held c.args.sink.now) (g.K.Sink.held c.write_reply-in-Trial.new.sink)
    (Rose (g.K.Sink.faults c.args.sink.now) (g.K.Sink.faults c.write_reply-in-Trial.new.sink)) c.write_reply-in-Trial.result c.write_reply-in-Trial.ensures failed)

-- what ends as it is read and asked ends as it is owed
module _ (left rest held now : Option (List ℕ)) (read_before read_after written_before written_after : ℕ) (status : Status) where
  abbrev EndsSo : Owed → Type 0
  EndsSo o = Ends o left rest held now (Rose read_before read_after) (Rose written_before written_after) status

  ends_owed : (o : Owed) (made : ProfileParts) (q : Question) → ReadsIn o made → AsksFor o q → EndsSo (read made (asked_of q)) → EndsSo o
  ends_owed (read profile asked) made q reads asks ends =
      asks left rest held now read_before read_after written_before written_after status (subst (λ (p : ProfileParts). EndsSo (read p (asked_of q))) reads ends)
  ends_owed (alone answer tells) made q reads asks ends = absurd reads

-- so many bytes are read as it is owed
within_owed : (left rest : Option (List ℕ)) (o : Owed) (made : ProfileParts) → ReadsIn o made → ReadsWithin left rest (made.most + 1) → ReadsWithin left rest (most_read o)
within_owed left rest (read profile asked) made reads within = subst (λ (p : ProfileParts). ReadsWithin left rest (p.most + 1)) reads within
within_owed left rest (alone answer tells) made reads within = absurd reads

pub returns-in_default-clause-ends : goal.returns-in_default-clause-ends
returns-in_default-clause-ends g c =
    ends_owed (g.S.Source.left c.args.source.now) (g.S.Source.left c.answer_source.new.source) (g.K.Sink.held c.args.sink.now) (g.K.Sink.held c.answer_source.new.sink)
    (g.S.Source.faults c.args.source.now) (g.S.Source.faults c.answer_source.new.source) (g.K.Sink.faults c.args.sink.now) (g.K.Sink.faults c.answer_source.new.sink)
    c.answer_source.result (owed_for c.args.job) c.profile_of-profile.result c.question_of-question.result c.profile_of-profile.ensures c.question_of-question.ensures c.answer_source.ensures.ends

pub returns-in_default-clause-within : goal.returns-in_default-clause-within
returns-in_default-clause-within g c =
    within_owed (g.S.Source.left c.args.source.now) (g.S.Source.left c.answer_source.new.source) (owed_for c.args.job) c.profile_of-profile.result c.profile_of-profile.ensures c.answer_source.ensures.within
