use Rattle.search_run.proofs.Work.{gave}
use Rattle.search_run.proofs.bench.put.Goals as goal

pub returns : goal.returns
returns c = gave c.args.seat.now.owner c.put.new.self c.args.seat.now.thieves.items c.args.piece c.put.result c.put.ensures.put
