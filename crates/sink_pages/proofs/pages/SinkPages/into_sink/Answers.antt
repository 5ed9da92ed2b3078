-- What was gained is kept in the type.
use Rattle.std.proofs.Common.{subst}
use Rattle.sink_pages.specs.Gained.{HasGained, PagesState}
use Rattle.sink_pages.proofs.pages.SinkPages.into_sink.Goals as goal

pub returns-clause-told : goal.returns-clause-told
returns-clause-told g c =
    let own = c.self.inside in (
      own.refused,
      own.written,
      own.choices,
      subst (λ (s : PagesState). HasGained g.B.Begun.fits own.refused g.B.Begun.held s.held s.calls own.written own.choices)
          c.self.view_is c.self.invariant.0,
    )
