-- What is written of a search that is shown to be complete answers the input.
use Rattle.std.proofs.Common.{◌≡◌, ◌∙◌, inl, List, ℕ, ap, subst, sym, refl}
use Rattle.std.proofs.lemmas.Result.{err_from_is_err_and}
use Rattle.replies.specs.declared.status.Answer.{Answer}
use Rattle.replies.specs.declared.status.Answer.TheVariants as answers
use Rattle.replies.specs.Status.{end_answer}
use Rattle.replies.specs.Writings.{IsReply}
use Rattle.proof_log.specs.Few.{HasFewMatching}
use Rattle.recon_run.specs.Answers.{AreSomeLogs, IsSomeLog}
use Rattle.recon_run.specs.Owed.{IsAnEnd, input_of, search_for_log}
use Rattle.recon_run.proofs.Endings.{keeps_itself}
use Rattle.recon_run.proofs.FewMatching.{few_matching}
use Rattle.recon_run.proofs.OnePiece.{cut_told, whole_listed}
use Rattle.recon_run.proofs.TextByText.{refused, writing_weaker}
use Rattle.solid_model.specs.declared.ended.EndKind.TheVariants.{Whole}
use Rattle.solid_model.specs.Blocks.{ProblemParts, IsBlocksOf}
use Rattle.solid_model.specs.Forcing.{is_live}
use Rattle.solid_model.specs.SearchEnds.{EndsAs, SearchEnd}
use Rattle.tv_base.specs.Faults.{Rose}
use Rattle.recon_run.proofs.log.answer_log.Goals as goal

-- a whole search found few solids
pub write_log-requires : goal.write_log-requires
write_log-requires g c =
    let s = c.in_ok-searched.searched in let limits = c.args.limits.now in let p = c.args.sought.problem in
    let all = c.in_ok-found.found in let search = c.in_ok-found.ensures in let fit = c.in_ok-searched.ensures in
    let whole : all.ended.kind ≡ Whole = sym fit.kind ∙ sym (ap (λ (e : SearchEnd). e.kind) (c.behind-searched.view_is ∙ c.ended.ensures.same)) ∙ c.in-Whole.is in
    let (few_nodes, few_solids, counted, is_whole) = subst (λ k. EndsAs (is_live p) p.blocks.count limits k all.ended.opened all.ended.solids) whole search.1 in
    let same : c.problem-in-Whole.result.now ≡ p = c.problem-in-Whole.ensures ∙ fit.problem ∙ search.0 in
    let blocks = subst (λ (q : ProblemParts). IsBlocksOf q.grid q.blocks) (c.problem.ensures ∙ fit.problem ∙ search.0) c.known-in-Whole.ensures.blocks in
    subst HasFewMatching (sym same) (few_matching p blocks all.ended.solids is_whole c.known.ensures)

pub returns-in_err-write_log-in-Whole : goal.returns-in_err-write_log-in-Whole
returns-in_err-write_log-in-Whole g c t by =
    let s = c.in_ok-searched.searched in let limits = c.args.limits.now in let input = input_of c.args.profile.now t in
    let whole : s.ended.kind ≡ Whole = sym (ap (λ (e : SearchEnd). e.kind) (c.behind-searched.view_is ∙ c.ended.ensures.same)) ∙ c.in-Whole.is in
    let is = whole_listed limits (λ t solids. answers.Done) (λ t found. IsSomeLog found.problem) AreSomeLogs input c.args.sought by s (c.in_ok-found.found, c.in_ok-found.ensures, c.in_ok-searched.ensures) whole in
    let tells = IsAnEnd (search_for_log limits) (search_for_log limits).tells input in
    let p = c.problem-in-Whole.result.now in
    let failed = err_from_is_err_and c.from_residual-in_err-write_log-in-Whole.result c.from_residual-in_err-write_log-in-Whole.ensures.1 in
    rw (failed.1, failed.2) (refused (Unit {0}) Answer (λ _. IsSomeLog p) (λ _. IsSomeLog p) tells tells (g.K.Sink.held c.args.sink.now) (g.K.Sink.held c.write_log.new.sink)
    (Rose (g.K.Sink.faults c.args.sink.now) (g.K.Sink.faults c.write_log.new.sink))
    (λ _ text log. (answers.Done, (Whole, is.can, refl, subst (λ (q : ProblemParts). IsSomeLog q text) (c.problem-in-Whole.ensures ∙ sym is.problem) log)))
    c.in_err-write_log-in-Whole.field-0.0 c.in_err-write_log-in-Whole.ensures)

pub returns-in-Whole : goal.returns-in-Whole
returns-in-Whole g c t by =
    let s = c.in_ok-searched.searched in let limits = c.args.limits.now in let input = input_of c.args.profile.now t in
    let whole : s.ended.kind ≡ Whole = sym (ap (λ (e : SearchEnd). e.kind) (c.behind-searched.view_is ∙ c.ended.ensures.same)) ∙ c.in-Whole.is in
    let is = whole_listed limits (λ t solids. answers.Done) (λ t found. IsSomeLog found.problem) AreSomeLogs input c.args.sought by s (c.in_ok-found.found, c.in_ok-found.ensures, c.in_ok-searched.ensures) whole in
    let (text, log, appends) = c.in_ok-write_log-in-Whole.ensures in
    (text, (Whole, is.can, refl, subst (λ (q : ProblemParts). IsSomeLog q text) (c.problem-in-Whole.ensures ∙ sym is.problem) log), appends)

pub returns-in_err-text-in_default : goal.returns-in_err-text-in_default
returns-in_err-text-in_default g c t by =
    let failed = err_from_is_err_and c.from_residual-in_err-text-in_default.result c.from_residual-in_err-text-in_default.ensures.1 in
    rw (failed.1, failed.2) (inl (keeps_itself (g.K.Sink.held c.args.sink.now)))

pub returns : goal.returns
returns g c t by =
    let s = c.in_ok-searched.searched in let limits = c.args.limits.now in let input = input_of c.args.profile.now t in
    let told = c.as_slice.result.now in
    let tells = IsAnEnd (search_for_log limits) (search_for_log limits).tells input in
    let kind : s.ended.kind ≡ c.in_default.kind = sym (ap (λ (e : SearchEnd). e.kind) (c.behind-searched.view_is ∙ c.ended.ensures.same)) ∙ c.in_default.kind-is in
    let weaken : (a : Answer) (text : List ℕ) → IsReply c.at_end.result told a text → tells a text =
    λ a text is. cut_told limits (λ t solids. answers.Done) (λ t found. IsSomeLog found.problem) AreSomeLogs input c.args.sought by s (c.in_ok-found.found, c.in_ok-found.ensures, c.in_ok-searched.ensures) c.in_default.kind kind
    (λ whole. c.in_default.not-Whole (c.in_default.kind-is ∙ whole)) a text (is.0 ∙ c.at_end.ensures ∙ ap end_answer c.in_default.kind-is) (is.1 ∙ c.as_slice.ensures.value ∙ c.in_ok-text-in_default.ensures) in
    writing_weaker Answer (IsReply c.at_end.result told) (IsReply c.at_end.result told) tells tells (g.K.Sink.held c.args.sink.now) (g.K.Sink.held c.write_reply.new.sink)
    (Rose (g.K.Sink.faults c.args.sink.now) (g.K.Sink.faults c.write_reply.new.sink)) weaken weaken c.write_reply.result c.write_reply.ensures
