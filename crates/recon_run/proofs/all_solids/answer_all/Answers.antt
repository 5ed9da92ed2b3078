-- Pages, and then how the search ended with its solids, answer the input.
use Rattle.std.proofs.Common.{◌∙◌, ℕ, List, Ok, Err, ap, refl, subst}
use Rattle.std.proofs.lemmas.Result.{err_from_is_err_and}
use Rattle.replies.specs.Status.{end_answer}
use Rattle.replies.specs.Writings.{EndsText}
use Rattle.recon_run.specs.Answers.{BeginsAll, TellsAll}
use Rattle.recon_run.specs.Owed.{input_of}
use Rattle.recon_run.specs.Searched.{FillSolids, search_head}
use Rattle.recon_run.proofs.Searching.{search_refused, solids_refused, solids_written}
use Rattle.recon_run.proofs.TextByText.{rose_since}
use Rattle.solid_model.specs.declared.cell.Cell.{Cell}
use Rattle.solid_model.specs.SearchEnds.{SearchEnd}
use Rattle.tv_base.specs.Faults.{Rose}
use Rattle.recon_run.proofs.all_solids.answer_all.Goals as goal

pub returns-in_err-searched : goal.returns-in_err-searched
returns-in_err-searched g c t by =
    let all = c.args.all.now in
    let held = g.K.Sink.held c.args.sink.now in let now = g.K.Sink.held c.search_telling.new.sink in
    let rose = Rose (g.K.Sink.faults c.args.sink.now) (g.K.Sink.faults c.search_telling.new.sink) in
    let failed = err_from_is_err_and c.from_residual.result c.from_residual.ensures.1 in
    rw (failed.1, failed.2) (search_refused all.pages all.limits (input_of c.args.profile.now t) c.args.sought by held held now rose rose
    c.in_err-searched.field-0.0 c.in_err-searched.ensures.ends)

pub returns-in_err-write_searched : goal.returns-in_err-write_searched
returns-in_err-write_searched g c t by =
    let all = c.args.all.now in let limits = all.limits in let s = c.in_ok-searched.searched in
    let (before, (is_of, pages), appends) = c.in_ok-searched.ensures.ends in
    let first = g.K.Sink.faults c.args.sink.now in let mid = g.K.Sink.faults c.search_telling.new.sink in let last = g.K.Sink.faults c.write_searched.new.sink in
    let failed = err_from_is_err_and c.from_residual-in_err-write_searched.result c.from_residual-in_err-write_searched.ensures.1 in
    rw (failed.1, failed.2) (solids_refused all.pages limits (input_of c.args.profile.now t) c.args.sought by (g.K.Sink.held c.args.sink.now)
    (g.K.Sink.held c.search_telling.new.sink) (g.K.Sink.held c.write_searched.new.sink) (Rose mid last) (Rose first last) s is_of before pages appends
    (rose_since first mid last c.in_ok-searched.ensures.later) (end_answer s.ended.kind) refl c.in_err-write_searched.field-0.0
    (subst (λ (d : ℕ). (solids : List (List Cell)) → FillSolids s.problem s.ended.solids solids
    → EndsText (TellsAll (search_head limits s) d s.ended.solids solids) (BeginsAll (search_head limits s) d s.ended.solids solids)
    (g.K.Sink.held c.search_telling.new.sink) (g.K.Sink.held c.write_searched.new.sink) (Rose mid last) (Err c.in_err-write_searched.field-0.0))
    c.decimals.ensures.decimals c.in_err-write_searched.ensures.ends))

pub returns : goal.returns
returns g c t by =
    let all = c.args.all.now in let limits = all.limits in let s = c.in_ok-searched.searched in
    let (before, (is_of, pages), appends) = c.in_ok-searched.ensures.ends in
    let first = g.K.Sink.faults c.args.sink.now in let mid = g.K.Sink.faults c.search_telling.new.sink in let last = g.K.Sink.faults c.write_searched.new.sink in
    solids_written all.pages limits (input_of c.args.profile.now t) c.args.sought by (g.K.Sink.held c.args.sink.now)
    (g.K.Sink.held c.search_telling.new.sink) (g.K.Sink.held c.write_searched.new.sink) (Rose mid last) (Rose first last) s is_of before pages appends
    (rose_since first mid last c.in_ok-searched.ensures.later) c.at_end.result
    (c.at_end.ensures ∙ ap (λ (e : SearchEnd). end_answer e.kind) (c.behind-searched.view_is ∙ c.ended.ensures.same)) tt
    (subst (λ (d : ℕ). (solids : List (List Cell)) → FillSolids s.problem s.ended.solids solids
    → EndsText (TellsAll (search_head limits s) d s.ended.solids solids) (BeginsAll (search_head limits s) d s.ended.solids solids)
    (g.K.Sink.held c.search_telling.new.sink) (g.K.Sink.held c.write_searched.new.sink) (Rose mid last) (Ok tt))
    c.decimals.ensures.decimals c.in_ok-write_searched.ensures.ends)
