-- What is left out has no cell.
use Rattle.fit_lanes.proofs.SightRows.{bare_without}
use Rattle.fit_lanes.proofs.sights.put_seen.Goals as goal

pub returns-else-span-ne0 : goal.returns-else-span-ne0
returns-else-span-ne0 c choice k = bare_without choice c.args.spans.now.items c.args.span k c.if-span-ne0.false
