-- What is asked is read from the bytes behind the drawing.
use Rattle.std.proofs.Common.{◌≡◌, ◌∙◌, ap, arith, codes, List, ℕ, Ok, Result, map, length, subst, sym}
use Rattle.std.proofs.lemmas.List.{length-map}
use Rattle.std.specs.Prelude.{Vec}
use Rattle.dxf_groups.specs.TextLines.{text_lines}
use Rattle.query_session.specs.declared.ask.Ask.{Ask}
use Rattle.query_session.specs.declared.ask.AskFault.{AskFault}
use Rattle.recon_run.specs.Owed.{input_of}
use Rattle.recon_run.specs.Readers.{AnswersScripts, BeginsScripts, BeginsAsked, TellsAsked, ask_kind_name}
use Rattle.recon_run.proofs.ScriptsRead.{few_readers}
use Rattle.recon_run.proofs.TextByText.{writing_weaker}
use Rattle.report.specs.Texts.{refusal_text}
use Rattle.replies.specs.declared.status.Answer.{Answer}
use Rattle.replies.specs.declared.status.Answer.TheVariants as answers
use Rattle.replies.specs.Writings.{IsReply}
use Rattle.tv_base.specs.Faults.{Rose}
use Rattle.recon_run.proofs.asked.answer_asked.Goals as goal

pub answer_scripts-requires-clause-readers : goal.answer_scripts-requires-clause-readers
answer_scripts-requires-clause-readers g c κs within =
    let (some, few) = few_readers (text_lines c.args.rest.now) (map (λ v. v.items) c.in-Ok.scripts.items) c.in-Ok.ensures in
    let same = length-map c.in-Ok.scripts.items (λ v. v.items) in let own = ap length c.as_slice-scripts.ensures.value in (omega (arith, some, same, own), omega (arith, few, same, own))

pub returns-in-Ok : goal.returns-in-Ok
returns-in-Ok g c t by behind =
    let rest = c.args.rest.now in let input = input_of c.args.profile.now t in let limits = c.args.limits.now in
    let scripts = map (λ v. v.items) c.as_slice-scripts.result.now in
    let read = c.in-Ok.ensures ∙ ap Ok (ap (λ (vs : List (Vec Ask _)). map (λ v. v.items) vs) (sym c.as_slice-scripts.ensures.value)) in
    writing_weaker Answer (AnswersScripts limits input (Ok scripts)) (BeginsScripts limits input (Ok scripts)) (TellsAsked limits input) (BeginsAsked limits input)
    (g.K.Sink.held c.args.sink.now) (g.K.Sink.held c.answer_scripts.new.sink) (Rose (g.K.Sink.faults c.args.sink.now) (g.K.Sink.faults c.answer_scripts.new.sink))
    (λ a text said. (rest, behind, subst (λ (r : Result (List (List Ask)) AskFault). AnswersScripts limits input r a text) (sym read) said))
    (λ a text said. (rest, behind, subst (λ (r : Result (List (List Ask)) AskFault). BeginsScripts limits input r a text) (sym read) said))
    c.answer_scripts.result (c.answer_scripts.ensures input by.0 (sym c.decimals-decimals.ensures.decimals))

pub returns-in-Err-Fault : goal.returns-in-Err-Fault
returns-in-Err-Fault g c t by behind =
    let rest = c.args.rest.now in let input = input_of c.args.profile.now t in let limits = c.args.limits.now in let fault = c.in-Err-Fault.fault in
    let told = c.as_slice.result.now in
    let read = c.in-Err-Fault.ensures fault c.in-Err-Fault.field-0-is in
    let text_is : told ≡ refusal_text (codes "ask") (ask_kind_name fault.kind) fault.line =
    c.as_slice.ensures.value ∙ c.in_ok-text-in-Err-Fault.ensures ∙ ap (λ (name : List ℕ). refusal_text (codes "ask") name fault.line) c.ask_kind_name.ensures in
    let weaken : (a : Answer) (text : List ℕ) → IsReply answers.NotAsked told a text → TellsAsked limits input a text =
    λ a text said. (rest, behind, subst (λ (r : Result (List (List Ask)) AskFault). AnswersScripts limits input r a text) (sym read) (said.0, said.1 ∙ text_is)) in
    let begun : (a : Answer) (text : List ℕ) → IsReply answers.NotAsked told a text → BeginsAsked limits input a text =
    λ a text said. (rest, behind, subst (λ (r : Result (List (List Ask)) AskFault). BeginsScripts limits input r a text) (sym read) (said.0, said.1 ∙ text_is)) in
    writing_weaker Answer (IsReply answers.NotAsked told) (IsReply answers.NotAsked told) (TellsAsked limits input) (BeginsAsked limits input) (g.K.Sink.held c.args.sink.now)
    (g.K.Sink.held c.write_reply.new.sink) (Rose (g.K.Sink.faults c.args.sink.now) (g.K.Sink.faults c.write_reply.new.sink)) weaken begun c.write_reply.result c.write_reply.ensures
