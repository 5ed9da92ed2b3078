-- The last page is the whole list, which goes on from all that was taken.
use Rattle.query_session.proofs.Taken.{told_tale}
use Rattle.query_session.proofs.telling.tale_of.Goals as goal

pub returns : goal.returns
returns g c p before script reads taken =
    let (e, look, is) = c.in_ok-page.ensures in
    told_tale p before c.args.reader.now c.page.new.self script _ e reads taken look (c.in_ok-last.ensures _ e.solids is)
