-- What is written is told of the solid of the number.
use Rattle.std.proofs.Common.{◌≡◌, ◌<◌, ◌∙◌, Bool, List, ℕ, ap, inr, length, refl, subst₂, sym, Some, ◌-◌, arith}
use Rattle.std.specs.List.{slice_get}
use Rattle.std.proofs.lemmas.Option.{slice_get_read}
use Rattle.std.proofs.lemmas.Result.{err_from_is_err_and}
use Rattle.replies.specs.declared.status.Answer.{Answer}
use Rattle.replies.specs.declared.status.Answer.TheVariants as answers
use Rattle.recon_run.specs.Searched.{AnswersNumbered, FillSolids, writes_of}
use Rattle.recon_run.proofs.Filled.{filled_at, filled_count}
use Rattle.recon_run.proofs.OneSolid.{numbered, numbered_lacks}
use Rattle.recon_run.proofs.TextByText.{refused, writing_weaker}
use Rattle.replies.specs.Writings.{IsReply}
use Rattle.report.specs.Texts.{no_solid_text}
use Rattle.solid_model.specs.Blocks.{ProblemParts}
use Rattle.solid_model.specs.SearchEnds.{SearchEnd}
use Rattle.tv_base.specs.Faults.{Rose}
use Rattle.recon_run.proofs.one_solid.write_numbered.Goals as goal

pub returns-in_err-write : goal.returns-in_err-write
returns-in_err-write g c solids filled =
    let writes = writes_of c.args.one.export c.args.decimals in let which = c.args.one.which in
    let p = c.problem.result.now in let choices = c.as_slice-solids.result.now in
    let same : choices ≡ c.args.searched.now.ended.solids =
    c.as_slice-solids.ensures.value ∙ ap (λ (e : SearchEnd). e.solids) (c.behind-searched.view_is ∙ c.ended.ensures.same) in
    let are = subst₂ (λ (q : ProblemParts) (cs : List (List Bool)). FillSolids q cs solids) (sym c.problem.ensures) (sym same) filled in
    let choice = c.index-solids-place.result in
    let at : slice_get choices (which - 1) ≡ Some choice = slice_get_read choices (length choices) (which - 1) choice refl c.if-place-solids.true c.index-solids-place.is in
    let failed = err_from_is_err_and c.from_residual.result c.from_residual.ensures.1 in
    let (s, there, one) = filled_at p choices solids are (which - 1) choice at in
    rw (failed.1, failed.2) (refused (Unit {0}) Answer (λ _. writes s) (λ _. writes s)
    (AnswersNumbered writes which solids) (AnswersNumbered writes which solids) (g.K.Sink.held c.args.sink.now) (g.K.Sink.held c.write.new.sink)
    (Rose (g.K.Sink.faults c.args.sink.now) (g.K.Sink.faults c.write.new.sink))
    (λ _ text told. (answers.Done, numbered writes which p choices solids are choice c.args.one.some c.if-place-solids.true at text told))
    c.in_err-write.field-0.0 (c.in_err-write.ensures s one))

pub returns-in_ok-write : goal.returns-in_ok-write
returns-in_ok-write g c solids filled =
    let writes = writes_of c.args.one.export c.args.decimals in let which = c.args.one.which in
    let p = c.problem.result.now in let choices = c.as_slice-solids.result.now in
    let same : choices ≡ c.args.searched.now.ended.solids =
    c.as_slice-solids.ensures.value ∙ ap (λ (e : SearchEnd). e.solids) (c.behind-searched.view_is ∙ c.ended.ensures.same) in
    let are = subst₂ (λ (q : ProblemParts) (cs : List (List Bool)). FillSolids q cs solids) (sym c.problem.ensures) (sym same) filled in
    let choice = c.index-solids-place.result in
    let at : slice_get choices (which - 1) ≡ Some choice = slice_get_read choices (length choices) (which - 1) choice refl c.if-place-solids.true c.index-solids-place.is in
    let (s, there, one) = filled_at p choices solids are (which - 1) choice at in
    let (text, told, appends) = c.in_ok-write.ensures s one in
    (text, numbered writes which p choices solids are choice c.args.one.some c.if-place-solids.true at text told, appends)

pub returns-in_ok-text : goal.returns-in_ok-text
returns-in_ok-text g c solids filled =
    let writes = writes_of c.args.one.export c.args.decimals in let which = c.args.one.which in
    let s = c.args.searched.now in let choices = c.as_slice-solids.result.now in
    let same : choices ≡ s.ended.solids =
    c.as_slice-solids.ensures.value ∙ ap (λ (e : SearchEnd). e.solids) (c.behind-searched.view_is ∙ c.ended.ensures.same) in
    let many : length choices ≡ length solids = ap (λ (cs : List (List Bool)). length cs) same ∙ filled_count s.problem s.ended.solids solids filled in
    let few : length solids < which = (let some = c.args.one.some in omega (arith, c.if-place-solids.false, many, some)) in
    let told : (answer : Answer) (text : List ℕ) → IsReply answers.NoSolid c.as_slice.result.now answer text → AnswersNumbered writes which solids answer text =
    λ answer text is. (
      is.0 ∙ numbered_lacks which (length solids) few,
      inr (few, is.1 ∙ c.as_slice.ensures.value ∙ c.in_ok-text.ensures ∙ ap (no_solid_text which) many),
    ) in
    writing_weaker Answer (IsReply answers.NoSolid c.as_slice.result.now) (IsReply answers.NoSolid c.as_slice.result.now) (AnswersNumbered writes which solids)
    (AnswersNumbered writes which solids) (g.K.Sink.held c.args.sink.now) (g.K.Sink.held c.write_reply.new.sink)
    (Rose (g.K.Sink.faults c.args.sink.now) (g.K.Sink.faults c.write_reply.new.sink)) told told c.write_reply.result c.write_reply.ensures
