-- What the check tells is said of the bytes behind the drawing.
use Rattle.std.proofs.Common.{codes, ◌≡◌, ◌∙◌, inl, inr, List, ℕ, ap, subst, sym}
use Rattle.replies.specs.declared.status.Answer.{Answer}
use Rattle.replies.specs.declared.status.Answer.TheVariants as answers
use Rattle.replies.specs.Writings.{IsReply}
use Rattle.proof_check.specs.Refusals.{IsLogRefused, TellsRefusal}
use Rattle.dxf_entities.specs.declared.layer_set.LayerSet.{LayerSet}
use Rattle.recon_run.specs.Answers.{SaysRight, TellsChecked, log_kind_name}
use Rattle.recon_run.specs.Searched.{TellsRight}
use Rattle.report.specs.Texts.{refusal_text}
use Rattle.recon_run.specs.Owed.{input_of}
use Rattle.recon_run.proofs.Checked.{listed_match, told_right}
use Rattle.recon_run.proofs.TextByText.{writing_weaker}
use Rattle.tv_base.specs.Faults.{Rose}
use Rattle.recon_run.proofs.check.answer_check.Goals as goal

pub returns-in_ok-text-in-Ok : goal.returns-in_ok-text-in-Ok
returns-in_ok-text-in-Ok g c t by behind =
    let sought = c.args.sought.now in let p = sought.problem in let log = c.args.rest.now in let input = input_of c.args.profile.now t in
    let told = c.as_slice-in-Ok.result.now in let cs = c.in-Ok.choices.items in
    let (listed, is, permuted, ascends) = c.in-Ok.ensures.ok in
    let layers : c.layers-layers.result ≡ input.layers = c.layers-layers.ensures ∙ c.form.ensures.layers in
    let tells : TellsRight input.layers sought cs told =
    subst (λ (l : LayerSet). TellsRight l sought cs told) layers
    (subst (λ choices. TellsRight c.layers-layers.result sought choices told) c.as_slice.ensures.value
    (subst (λ text. TellsRight c.layers-layers.result sought c.as_slice.result.now text) (sym c.as_slice-in-Ok.ensures.value) c.in_ok-text-in-Ok.ensures)) in
    let matching = listed_match input p by.0 log listed cs is permuted ascends in
    let weaken : (a : Answer) (text : List ℕ) → IsReply answers.Done told a text → TellsChecked input a text =
    λ a text said. (p, by.0, log, behind, inl (said.0, subst (SaysRight input.layers by.0 log) (sym said.1) (told_right input.layers input sought by log (listed, is) cs matching told tells))) in
    writing_weaker Answer (IsReply answers.Done told) (IsReply answers.Done told) (TellsChecked input) (TellsChecked input) (g.K.Sink.held c.args.sink.now) (g.K.Sink.held c.write_reply.new.sink)
    (Rose (g.K.Sink.faults c.args.sink.now) (g.K.Sink.faults c.write_reply.new.sink)) weaken weaken c.write_reply.result c.write_reply.ensures

pub returns-in_ok-text-in-Err-Fault : goal.returns-in_ok-text-in-Err-Fault
returns-in_ok-text-in-Err-Fault g c t by behind =
    let p = c.args.sought.now.problem in let log = c.args.rest.now in let input = input_of c.args.profile.now t in
    let told = c.as_slice-in-Err-Fault.result.now in let fault = c.in-Err-Fault.fault in
    let refused : IsLogRefused p log fault.kind fault.line = subst (TellsRefusal (IsLogRefused p log)) c.in-Err-Fault.field-0-is c.in-Err-Fault.ensures.refused in
    let text_is : told ≡ refusal_text (codes "log") (log_kind_name fault.kind) fault.line =
    c.as_slice-in-Err-Fault.ensures.value ∙ c.in_ok-text-in-Err-Fault.ensures ∙ ap (λ (name : List ℕ). refusal_text (codes "log") name fault.line) c.log_kind_name.ensures in
    let weaken : (a : Answer) (text : List ℕ) → IsReply answers.Refused told a text → TellsChecked input a text =
    λ a text said. (p, by.0, log, behind, inr (said.0, (fault.kind, fault.line, refused, said.1 ∙ text_is))) in
    writing_weaker Answer (IsReply answers.Refused told) (IsReply answers.Refused told) (TellsChecked input) (TellsChecked input) (g.K.Sink.held c.args.sink.now)
    (g.K.Sink.held c.write_reply-in-Err-Fault.new.sink) (Rose (g.K.Sink.faults c.args.sink.now) (g.K.Sink.faults c.write_reply-in-Err-Fault.new.sink)) weaken weaken
    c.write_reply-in-Err-Fault.result c.write_reply-in-Err-Fault.ensures
