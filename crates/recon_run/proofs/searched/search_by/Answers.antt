-- Before the search no page is handed out.
use Rattle.std.specs.Arc.{arc_value}
use Rattle.search_end.proofs.PageCalls.{unpaged}
use Rattle.recon_run.proofs.searched.search_by.Goals as goal

pub returns-in_default-clause-paged : goal.returns-in_default-clause-paged
returns-in_default-clause-paged g c = unpaged (arc_value c.args.problem.now) c.args.limits.solids (g.P.PageOut.calls c.args.pages.now)

pub returns-in_default-try_clone-clause-paged : goal.returns-in_default-try_clone-clause-paged
returns-in_default-try_clone-clause-paged g c = unpaged (arc_value c.args.problem.now) c.args.limits.solids (g.P.PageOut.calls c.args.pages.now)
