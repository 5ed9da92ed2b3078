use Rattle.search_run.proofs.Work.{took}
use Rattle.search_run.proofs.bench.take.Goals as goal

pub returns : goal.returns
returns c = took c.args.seat.now.owner c.take.new.self c.args.seat.now.thieves.items c.take.result c.take.ensures.taken
