-- How the search ended is told, and the solids that are listed.
use Rattle.std.proofs.Common.{◌≡◌, ◌∙◌, List, ℕ, Bool, Err, length, ap, inl, refl, subst, subst₂, sym}
use Rattle.std.proofs.KnownBytes.{Keeps-refl}
use Rattle.std.proofs.lemmas.Result.{err_from_is_err_and}
use Rattle.std.specs.Arc.{arc_value}
use Rattle.std.specs.Io.KnownBytes.{Appends}
use Rattle.recon_run.specs.Answers.{BeginsAll, TellsAll}
use Rattle.recon_run.specs.Searched.{FillSolids, SearchedParts, TellsEndOf, search_head}
use Rattle.recon_run.proofs.TextByText.{refused}
use Rattle.replies.specs.declared.status.Answer.{Answer}
use Rattle.replies.specs.declared.status.Answer.TheVariants as answers
use Rattle.replies.specs.Status.{end_answer}
use Rattle.replies.specs.Writings.{EndsText, EndsWriting}
use Rattle.report.specs.Texts.{stopped_text}
use Rattle.search_end.specs.declared.ending.SearchEnd.{SearchEnd as EndOfSearch}
use Rattle.search_end.specs.Stopped.{end_solids}
use Rattle.solid_model.specs.declared.cell.Cell.{Cell}
use Rattle.solid_model.specs.Blocks.{ProblemParts}
use Rattle.solid_model.specs.SearchEnds.{SearchEnd}
use Rattle.tv_base.specs.Faults.{Rose}
use Rattle.recon_run.proofs.asked.write_end.Goals as goal

pub returns-in_err-write_searched-in-Ended-clause-ends : goal.returns-in_err-write_searched-in-Ended-clause-ends
returns-in_err-write_searched-in-Ended-clause-ends g c solids filled =
    let p = arc_value c.args.problem in let d = c.args.decimals in let limits = c.args.limits in let ended = c.in-Ended.ended in
    let own : SearchedParts = record { problem = p; ended = ended } in
    let held = g.K.Sink.held c.args.sink.now in let now = g.K.Sink.held c.write_searched.new.sink in
    let rose = Rose (g.K.Sink.faults c.args.sink.now) (g.K.Sink.faults c.write_searched.new.sink) in
    let here = subst (λ (e : EndOfSearch). FillSolids p (end_solids e) solids) c.in-Ended.is filled in
    let written = subst (λ (s : SearchedParts). (ss : List (List Cell)) → FillSolids s.problem s.ended.solids ss
    → EndsText (TellsAll (search_head limits s) d s.ended.solids ss) (BeginsAll (search_head limits s) d s.ended.solids ss) held now rose (Err c.in_err-write_searched-in-Ended.field-0.0))
    c.of-searched.ensures c.in_err-write_searched-in-Ended.ensures.ends solids here in
    let failed = err_from_is_err_and c.from_residual.result c.from_residual.ensures.1 in
    rw (failed.1, failed.2) (subst (λ (e : EndOfSearch). EndsWriting (TellsEndOf TellsAll d p limits e solids) (TellsEndOf BeginsAll d p limits e solids) held now rose
    (Err c.in_err-write_searched-in-Ended.field-0.0)) (sym c.in-Ended.is)
    (refused (Unit {0}) Answer (λ _. TellsAll (search_head limits own) d ended.solids solids) (λ _. BeginsAll (search_head limits own) d ended.solids solids)
    (λ a text. (a ≡ end_answer ended.kind) × TellsAll (search_head limits own) d ended.solids solids text)
    (λ a text. (a ≡ end_answer ended.kind) × BeginsAll (search_head limits own) d ended.solids solids text) held now rose
    (λ _ text begun. (end_answer ended.kind, (refl, begun))) c.in_err-write_searched-in-Ended.field-0.0 written))

pub returns-in_ok-write_searched-in-Ended-clause-ends : goal.returns-in_ok-write_searched-in-Ended-clause-ends
returns-in_ok-write_searched-in-Ended-clause-ends g c solids filled =
    let p = arc_value c.args.problem in let d = c.args.decimals in let limits = c.args.limits in let ended = c.in-Ended.ended in
    let held = g.K.Sink.held c.args.sink.now in let now = g.K.Sink.held c.write_searched.new.sink in
    let here = subst (λ (e : EndOfSearch). FillSolids p (end_solids e) solids) c.in-Ended.is filled in
    let (text, told, appends) = subst (λ (s : SearchedParts). (ss : List (List Cell)) → FillSolids s.problem s.ended.solids ss
    → (text : List ℕ) × TellsAll (search_head limits s) d s.ended.solids ss text × Appends held now text)
    c.of-searched.ensures c.in_ok-write_searched-in-Ended.ensures.ends solids here in
    let right : c.at_end.result ≡ end_answer ended.kind = c.at_end.ensures ∙ ap (λ (e : SearchEnd). end_answer e.kind) c.ended.view_is in
    (text, subst (λ (e : EndOfSearch). TellsEndOf TellsAll d p limits e solids c.at_end.result text) (sym c.in-Ended.is) (right, told), appends)

pub returns-in_err-head-in-Stopped-clause-ends : goal.returns-in_err-head-in-Stopped-clause-ends
returns-in_err-head-in-Stopped-clause-ends g c solids filled =
    let failed = err_from_is_err_and c.from_residual-in_err-head-in-Stopped.result c.from_residual-in_err-head-in-Stopped.ensures.1 in
    rw (failed.1, failed.2) (inl (Keeps-refl (g.K.Sink.held c.args.sink.now)))

pub returns-in_err-write_listed-in-Stopped-clause-ends : goal.returns-in_err-write_listed-in-Stopped-clause-ends
returns-in_err-write_listed-in-Stopped-clause-ends g c solids filled =
    let p = arc_value c.args.problem in let d = c.args.decimals in let limits = c.args.limits in let choices = c.in-Stopped.solids.items in
    let line = stopped_text (length choices) in
    let held = g.K.Sink.held c.args.sink.now in let now = g.K.Sink.held c.write_listed.new.sink in
    let rose = Rose (g.K.Sink.faults c.args.sink.now) (g.K.Sink.faults c.write_listed.new.sink) in
    let here = subst (λ (q : ProblemParts). FillSolids q c.as_slice-choices.result.now solids) (sym c.deref.ensures)
    (subst (λ (cs : List (List Bool)). FillSolids p cs solids) (sym c.as_slice-choices.ensures.value)
    (subst (λ (e : EndOfSearch). FillSolids p (end_solids e) solids) c.in-Stopped.is filled)) in
    let head : c.as_slice.result.now ≡ line = c.as_slice.ensures.value ∙ c.in_ok-head-in-Stopped.ensures ∙ ap (λ (cs : List (List Bool)). stopped_text (length cs)) c.as_slice-choices.ensures.value in
    let written = subst₂ (λ (h : List ℕ) (cs : List (List Bool)). EndsText (TellsAll h d cs solids) (BeginsAll h d cs solids) held now rose (Err c.in_err-write_listed-in-Stopped.field-0.0))
    head c.as_slice-choices.ensures.value (c.in_err-write_listed-in-Stopped.ensures.ends solids here) in
    let failed = err_from_is_err_and c.from_residual-in_err-write_listed-in-Stopped.result c.from_residual-in_err-write_listed-in-Stopped.ensures.1 in
    rw (failed.1, failed.2) (subst (λ (e : EndOfSearch). EndsWriting (TellsEndOf TellsAll d p limits e solids) (TellsEndOf BeginsAll d p limits e solids) held now rose
    (Err c.in_err-write_listed-in-Stopped.field-0.0)) (sym c.in-Stopped.is)
    (refused (Unit {0}) Answer (λ _. TellsAll line d choices solids) (λ _. BeginsAll line d choices solids)
    (λ a text. (a ≡ answers.Stopped) × TellsAll line d choices solids text) (λ a text. (a ≡ answers.Stopped) × BeginsAll line d choices solids text) held now rose
    (λ _ text begun. (answers.Stopped, (refl, begun))) c.in_err-write_listed-in-Stopped.field-0.0 written))

pub returns-in_ok-write_listed-in-Stopped-clause-ends : goal.returns-in_ok-write_listed-in-Stopped-clause-ends
returns-in_ok-write_listed-in-Stopped-clause-ends g c solids filled =
    let p = arc_value c.args.problem in let d = c.args.decimals in let limits = c.args.limits in let choices = c.in-Stopped.solids.items in
    let line = stopped_text (length choices) in
    let held = g.K.Sink.held c.args.sink.now in let now = g.K.Sink.held c.write_listed.new.sink in
    let here = subst (λ (q : ProblemParts). FillSolids q c.as_slice-choices.result.now solids) (sym c.deref.ensures)
    (subst (λ (cs : List (List Bool)). FillSolids p cs solids) (sym c.as_slice-choices.ensures.value)
    (subst (λ (e : EndOfSearch). FillSolids p (end_solids e) solids) c.in-Stopped.is filled)) in
    let head : c.as_slice.result.now ≡ line = c.as_slice.ensures.value ∙ c.in_ok-head-in-Stopped.ensures ∙ ap (λ (cs : List (List Bool)). stopped_text (length cs)) c.as_slice-choices.ensures.value in
    let (text, told, appends) = subst₂ (λ (h : List ℕ) (cs : List (List Bool)). (text : List ℕ) × TellsAll h d cs solids text × Appends held now text)
    head c.as_slice-choices.ensures.value (c.in_ok-write_listed-in-Stopped.ensures.ends solids here) in
    (text, subst (λ (e : EndOfSearch). TellsEndOf TellsAll d p limits e solids answers.Stopped text) (sym c.in-Stopped.is) (refl, told), appends)
