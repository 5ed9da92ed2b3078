-- What was handed out are solutions.
use Rattle.std.specs.Arc.{arc_value}
use Rattle.search_run.proofs.ReadPages.{read_solutions}
use Rattle.search_run.proofs.paging.page_on.Goals as goal

pub returns-then-last-clause-paged : goal.returns-then-last-clause-paged
returns-then-last-clause-paged g c = (
  (read_solutions (arc_value c.args.shop.now.problem.now) c.page_new.new.reader c.page_new.new.handed.choices c.in-Ok-false.ensures.read, c.in-Ok-false.ensures.few),
  λ before out. c.in-Ok-false.ensures.out before (c.loop.invariant.out before out),
)
