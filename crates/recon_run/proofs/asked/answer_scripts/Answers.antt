-- Readers tell first, and how the search ended is told then.
use Rattle.std.proofs.Common.{◌≡◌, ◌∙◌, ◌++◌, List, ℕ, Ok, [], map, length, take, refl, subst, subst₂, sym}
use Rattle.std.proofs.Math.Seq.{take-length}
use Rattle.std.proofs.lemmas.Result.{err_from_is_err_and}
use Rattle.std.specs.Io.KnownBytes.{Appends}
use Rattle.recon_run.specs.Answers.{BeginsAll, TellsAll}
use Rattle.recon_run.specs.Readers.{AnswersScripts, BeginsScripts, TellsSession, tales_text}
use Rattle.recon_run.specs.Searched.{FillSolids, TellsEndOf}
use Rattle.recon_run.proofs.AskedEnds.{session_told}
use Rattle.recon_run.proofs.AskedTexts.{prefix_in, whole_in}
use Rattle.recon_run.proofs.TextByText.{given_after, refused, rose_since}
use Rattle.replies.specs.declared.status.Answer.{Answer}
use Rattle.replies.specs.Writings.{EndsWriting}
use Rattle.search_end.specs.Stopped.{end_solids}
use Rattle.session_run.specs.Session.{IsSession}
use Rattle.solid_model.specs.declared.cell.Cell.{Cell}
use Rattle.solid_model.specs.Blocks.{ProblemParts}
use Rattle.tv_base.specs.Faults.{Rose}
use Rattle.recon_run.proofs.asked.answer_scripts.Goals as goal

pub returns-in_err-write_tales : goal.returns-in_err-write_tales
returns-in_err-write_tales g c t has decimals =
    let p = c.args.problem in let limits = c.args.limits in let scripts = map (λ v. v.items) c.args.scripts.now in let session = c.in_ok-session.session in
    let tales = tales_text 0 c.as_slice.result.now in
    let is = subst (λ (q : ProblemParts). IsSession q limits scripts session) (c.in-Ok-try_clone.ensures ∙ c.in-Ok.ensures.ok) c.in_ok-session.ensures in
    let (solids, filled, told, (first, rest, begun)) = session_told limits t p has scripts session is in
    let before : tales_text 0 session.tales.items ≡ tales = subst (λ ts. tales_text 0 ts ≡ tales) c.as_slice.ensures.value refl in
    let begins = subst (λ text. TellsSession BeginsAll limits t scripts first text rest) before (told BeginsAll first rest begun) in
    let failed = err_from_is_err_and c.from_residual-in_err-write_tales.result c.from_residual-in_err-write_tales.ensures.1 in
    rw (failed.1, failed.2) (refused (Unit {0}) Answer (λ _ text. text ≡ tales) (λ _ text. (n : ℕ) × (text ≡ take n tales))
    (AnswersScripts limits t (Ok scripts)) (BeginsScripts limits t (Ok scripts)) (g.K.Sink.held c.args.sink.now) (g.K.Sink.held c.write_tales.new.sink)
    (Rose (g.K.Sink.faults c.args.sink.now) (g.K.Sink.faults c.write_tales.new.sink))
    (λ _ text is_part. let (m, part) = prefix_in [] tales rest is_part.0 in (first, (tales, rest, begins, (m, is_part.1 ∙ part))))
    c.in_err-write_tales.field-0.0 c.in_err-write_tales.ensures.ends)

pub returns : goal.returns
returns g c t has decimals =
    let p = c.args.problem in let limits = c.args.limits in let scripts = map (λ v. v.items) c.args.scripts.now in let session = c.in_ok-session.session in
    let tales = tales_text 0 session.tales.items in
    let held = g.K.Sink.held c.args.sink.now in let mid = g.K.Sink.held c.write_tales.new.sink in let now = g.K.Sink.held c.write_end.new.sink in
    let start = g.K.Sink.faults c.args.sink.now in let half = g.K.Sink.faults c.write_tales.new.sink in let last = g.K.Sink.faults c.write_end.new.sink in
    let is = subst (λ (q : ProblemParts). IsSession q limits scripts session) (c.in-Ok-try_clone.ensures ∙ c.in-Ok.ensures.ok) c.in_ok-session.ensures in
    let (solids, filled, told, (first, rest, begun)) = session_told limits t p has scripts session is in
    let (text, tales_told, appends) = c.in_ok-write_tales.ensures.ends in
    let first_part : text ≡ tales = subst (λ ts. text ≡ tales_text 0 ts) c.as_slice.ensures.value tales_told in
    let ends = subst₂ (λ (q : ProblemParts) (d : ℕ). (ss : List (List Cell)) → FillSolids q (end_solids session.end) ss
    → EndsWriting (TellsEndOf TellsAll d q limits session.end ss) (TellsEndOf BeginsAll d q limits session.end ss) mid now (Rose half last) c.write_end.result)
    c.in-Ok.ensures.ok (sym decimals) c.write_end.ensures.ends solids filled in
    given_after {A = Answer} (TellsEndOf TellsAll t.decimals p limits session.end solids) (AnswersScripts limits t (Ok scripts))
    (TellsEndOf BeginsAll t.decimals p limits session.end solids) (BeginsScripts limits t (Ok scripts)) tales held mid now (Rose half last) (Rose start last)
    (subst (λ bytes. Appends held mid bytes) first_part appends) (rose_since start half last c.in_ok-write_tales.ensures.later)
    (λ a more is_begun. (tales, more, told BeginsAll a more is_begun, (length (tales ++ more), sym (take-length (tales ++ more)))))
    first (tales, rest, told BeginsAll first rest begun, whole_in tales rest)
    (λ a more is_told. (tales, more, told TellsAll a more is_told, refl)) c.write_end.result ends
