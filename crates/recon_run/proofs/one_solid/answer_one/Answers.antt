-- What is written of one of the solids answers the input.
use Rattle.std.proofs.Common.{◌≡◌, ◌∙◌, ℕ, List, ap, subst, sym}
use Rattle.replies.specs.declared.status.Answer.{Answer}
use Rattle.replies.specs.Status.{end_answer}
use Rattle.replies.specs.Writings.{EndsWriting, IsReply}
use Rattle.recon_run.specs.Owed.{IsAnEnd, input_of, search_for_one}
use Rattle.recon_run.specs.Searched.{AnswersNumbered, writes_of}
use Rattle.recon_run.proofs.OnePiece.{cut_told}
use Rattle.recon_run.proofs.OneSolid.{whole_told}
use Rattle.recon_run.specs.Answers.{TellsNumbered, numbered_answer}
use Rattle.recon_run.proofs.TextByText.{writing_weaker}
use Rattle.solid_model.specs.declared.ended.EndKind.TheVariants.{Whole}
use Rattle.solid_model.specs.SearchEnds.{SearchEnd}
use Rattle.tv_base.specs.Faults.{Rose}
use Rattle.recon_run.proofs.one_solid.answer_one.Goals as goal

pub returns-in-Whole : goal.returns-in-Whole
returns-in-Whole g c t by =
    let s = c.in_ok-searched.searched in let one = c.args.one in let input = input_of c.args.profile.now t in
    let held = g.K.Sink.held c.args.sink.now in let now = g.K.Sink.held c.write_numbered.new.sink in
    let rose = Rose (g.K.Sink.faults c.args.sink.now) (g.K.Sink.faults c.write_numbered.new.sink) in
    let s_tells = IsAnEnd (search_for_one (writes_of one.export) one.which one.limits) (search_for_one (writes_of one.export) one.which one.limits).tells input in
    let whole : s.ended.kind ≡ Whole = sym (ap (λ (e : SearchEnd). e.kind) (c.behind-searched.view_is ∙ c.ended.ensures.same)) ∙ c.in-Whole.is in
    let (solids, filled, weaken) = whole_told (writes_of one.export) one.which one.limits input c.args.sought by s c.in_ok-searched.ensures whole in
    let written = subst (λ (d : ℕ). EndsWriting (AnswersNumbered (writes_of one.export d) one.which solids) (AnswersNumbered (writes_of one.export d) one.which solids)
    held now rose c.write_numbered.result) c.decimals.ensures.decimals (c.write_numbered.ensures solids filled) in
    writing_weaker Answer (AnswersNumbered (writes_of one.export input.decimals) one.which solids) (AnswersNumbered (writes_of one.export input.decimals) one.which solids)
    s_tells s_tells held now rose weaken weaken c.write_numbered.result written

pub returns : goal.returns
returns g c t by =
    let s = c.in_ok-searched.searched in let one = c.args.one in let input = input_of c.args.profile.now t in
    let told = c.as_slice.result.now in let answer = c.at_end.result in
    let s_tells = IsAnEnd (search_for_one (writes_of one.export) one.which one.limits) (search_for_one (writes_of one.export) one.which one.limits).tells input in
    let kind : s.ended.kind ≡ c.in_default.kind = sym (ap (λ (e : SearchEnd). e.kind) (c.behind-searched.view_is ∙ c.ended.ensures.same)) ∙ c.in_default.kind-is in
    let weaken : (a : Answer) (text : List ℕ) → IsReply answer told a text → s_tells a text =
    λ a text is. cut_told one.limits (λ t. numbered_answer one.which) (λ t found. TellsNumbered (writes_of one.export t.decimals) one.which found.solids) (λ t one_text other. one_text ≡ other) input c.args.sought by s c.in_ok-searched.ensures c.in_default.kind kind
    (λ whole. c.in_default.not-Whole (c.in_default.kind-is ∙ whole)) a text (is.0 ∙ c.at_end.ensures ∙ ap end_answer c.in_default.kind-is) (is.1 ∙ c.as_slice.ensures.value ∙ c.in_ok-text-in_default.ensures) in
    writing_weaker Answer (IsReply answer told) (IsReply answer told) s_tells s_tells (g.K.Sink.held c.args.sink.now) (g.K.Sink.held c.write_reply.new.sink)
    (Rose (g.K.Sink.faults c.args.sink.now) (g.K.Sink.faults c.write_reply.new.sink)) weaken weaken c.write_reply.result c.write_reply.ensures
