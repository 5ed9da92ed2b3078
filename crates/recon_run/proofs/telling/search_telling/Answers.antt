-- Where no pages are asked for, none are written.
use Rattle.std.proofs.Common.{Bool, [], refl, sym, subst}
use Rattle.recon_run.specs.Pages.{TellsPages}
use Rattle.sink_pages.proofs.Gained.{appends_none}
use Rattle.recon_run.proofs.telling.search_telling.Goals as goal

pub returns-in_ok-search_fitting-clause-ends : goal.returns-in_ok-search_fitting-clause-ends
returns-in_ok-search_fitting-clause-ends g c = (
  [],
  (
    c.in_ok-search_fitting.ensures,
    subst (λ (paged : Bool). TellsPages paged c.in_ok-search_fitting.field-0.ended.solids []) (sym c.if-pages.false) ([], refl, refl),
  ),
  appends_none (g.K.Sink.held c.args.sink.now),
)
