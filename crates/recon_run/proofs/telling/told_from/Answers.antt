-- What the sink gained are pages of those choices that fit.
use Rattle.std.proofs.Common.{◌↔◌, ◌∙◌, ℕ, List, [], Option, Some, Err, true, ap, subst, subst₂, sym}
use Rattle.std.specs.Arc.{arc_value}
use Rattle.std.specs.Io.KnownBytes.{Appends}
use Rattle.page_calls.specs.Those.{AreThose}
use Rattle.page_calls.proofs.Those.{those_alike}
use Rattle.replies.specs.declared.status.Failure.{Failure}
use Rattle.recon_run.specs.Pages.{BeginsPages, TellsPages}
use Rattle.recon_run.specs.Searched.{IsSearchOf, TellsSearch, run_failure}
use Rattle.replies.specs.Writings.{EndsWriting}
use Rattle.recon_run.proofs.Paged.{all_paged, all_told, failed_ends}
use Rattle.page_calls.specs.declared.page_out.RunFault.TheVariants as run_fault
use Rattle.page_calls.specs.Pages.{HasAllPaged, HasPaged}
use Rattle.sink_pages.specs.Gained.{PagesState}
use Rattle.six_views.specs.Further.{FitsChoice, SieveParts}
use Rattle.solid_model.specs.Blocks.{ProblemParts}
use Rattle.tv_base.specs.Faults.{Rose}
use Rattle.recon_run.proofs.telling.told_from.Goals as goal

pub begin-pages-requires-clause-fits : goal.begin-pages-requires-clause-fits
begin-pages-requires-clause-fits g c = λ choice.
    subst (λ (s : SieveParts). FitsChoice s.problem s.further choice ↔ g.B.Begun.fits choice) (sym c.in-Ok-of.ensures)
    (subst (λ (q : ProblemParts). FitsChoice q c.args.sought.further choice ↔ g.B.Begun.fits choice) (sym (c.deref.ensures ∙ c.in-Ok.ensures.ok)) (c.requires.fits choice))

pub returns-in-Ok-fitting-clause-ends : goal.returns-in-Ok-fitting-clause-ends
returns-in-Ok-fitting-clause-ends g c =
    let p = c.args.sought.problem in let all = c.in-Ok-found.searched in let s = c.in-Ok-fitting.fitting in let pages = c.search_by-found.new.pages in
    let e = c.args.sought.further in let fits = g.B.Begun.fits in
    let (refused, number, total, kept) = c.into_sink-sink.ensures.told in
    let search : IsSearchOf c.args.limits p all = subst (λ (q : ProblemParts). IsSearchOf c.args.limits q all) c.in-Ok.ensures.ok c.in-Ok-found.ensures.search in
    let paged : HasAllPaged p (Some []) (Some pages.calls) all.ended.solids = subst (λ (q : ProblemParts). HasAllPaged q (Some []) (Some pages.calls) all.ended.solids) c.in-Ok.ensures.ok
    (subst (λ (before : PagesState). HasAllPaged (arc_value c.in-Ok.problem) (Some before.calls) (Some pages.calls) all.ended.solids) c.begin-pages.ensures c.in-Ok-found.ensures.paged) in
    let fit = c.in-Ok-fitting.ensures in
    let those = those_alike (FitsChoice p e) fits c.requires.fits all.ended.solids s.ended.solids
    (subst (λ (q : ProblemParts). AreThose (FitsChoice q e) all.ended.solids s.ended.solids) search.0 fit.those) in
    let (text, told, appends) = all_told fits p g.B.Begun.held pages.held refused pages.calls number total all.ended.solids s.ended.solids kept paged those in
    (text, ((all, search, fit), told), subst (λ (now : Option (List ℕ)). Appends g.B.Begun.held now text) (sym c.into_sink-sink.ensures.held) appends)

pub returns-in-Ok-found-clause-ends : goal.returns-in-Ok-found-clause-ends
returns-in-Ok-found-clause-ends g c =
    let sought = c.args.sought in let p = sought.problem in let limits = c.args.limits in let all = c.in-Ok-found.searched in let pages = c.search_by-found.new.pages in
    let (refused, number, total, kept) = c.into_sink-sink.ensures.told in
    let first = g.K.Sink.faults c.args.sink in let last = g.K.Sink.faults c.into_sink-sink.result in
    let search : IsSearchOf limits p all = subst (λ (q : ProblemParts). IsSearchOf limits q all) c.in-Ok.ensures.ok c.in-Ok-found.ensures.search in
    let paged : HasAllPaged p (Some []) (Some pages.calls) all.ended.solids = subst (λ (q : ProblemParts). HasAllPaged q (Some []) (Some pages.calls) all.ended.solids) c.in-Ok.ensures.ok
    (subst (λ (before : PagesState). HasAllPaged (arc_value c.in-Ok.problem) (Some before.calls) (Some pages.calls) all.ended.solids) c.begin-pages.ensures c.in-Ok-found.ensures.paged) in
    let some = all_paged p limits (Some []) (Some pages.calls) all.ended.kind all.ended.opened all.ended.solids search.1 paged in
    let ends = failed_ends sought limits c.known.ensures.blocks c.known.ensures.grid c.known-2.ensures g.B.Begun.fits c.requires.fits g.B.Begun.held pages.held refused pages.calls
    number total (Rose first last) kept some run_fault.Memory (λ is. cc) in
    subst (λ (now : Option (List ℕ)). EndsWriting (TellsSearch limits sought (TellsPages true)) (TellsSearch limits sought (BeginsPages true)) g.B.Begun.held now
    (Rose first last) (Err (run_failure run_fault.Memory))) (sym c.into_sink-sink.ensures.held) ends

pub returns-clause-ends : goal.returns-clause-ends
returns-clause-ends g c =
    let sought = c.args.sought in let p = sought.problem in let limits = c.args.limits in let pages = c.search_by-found.new.pages in
    let (refused, number, total, kept) = c.into_sink-sink.ensures.told in
    let first = g.K.Sink.faults c.args.sink in let last = g.K.Sink.faults c.into_sink-sink.result in
    let paged : HasPaged p limits.solids (Some []) (Some pages.calls) = subst (λ (q : ProblemParts). HasPaged q limits.solids (Some []) (Some pages.calls)) c.in-Ok.ensures.ok
    (subst (λ (before : PagesState). HasPaged (arc_value c.in-Ok.problem) limits.solids (Some before.calls) (Some pages.calls)) c.begin-pages.ensures c.in-Err.ensures.paged) in
    let ends = failed_ends sought limits c.known.ensures.blocks c.known.ensures.grid c.known-2.ensures g.B.Begun.fits c.requires.fits g.B.Begun.held pages.held refused pages.calls
    number total (Rose first last) kept paged c.in-Err.fault
    (λ is. subst₂ (λ (a b : ℕ). Rose a b) (ap (λ (before : PagesState). before.faults) c.begin-pages.ensures) (sym c.into_sink-sink.ensures.faults)
    (c.in-Err.ensures.faults.1 (ap Err is))) in
    subst₂ (λ (now : Option (List ℕ)) (failure : Failure).
    EndsWriting (TellsSearch limits sought (TellsPages true)) (TellsSearch limits sought (BeginsPages true)) g.B.Begun.held now (Rose first last) (Err failure))
    (sym c.into_sink-sink.ensures.held) (sym c.failure_of.ensures) ends
