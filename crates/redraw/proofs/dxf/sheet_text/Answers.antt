-- The head, the three views, and the end.
use Rattle.redraw.proofs.Texts.{file_pushed}
use Rattle.redraw.proofs.dxf.sheet_text.Goals as goal

pub returns : goal.returns
returns c =
    let d = c.args.sheet.now in
    file_pushed c.args.decimals d _ _ _ _ _ _ _ _ c.in_ok-text.ensures.items c.in_ok-push_pair.ensures c.in_ok-push_pair-2.ensures c.in_ok-push_placed.ensures c.in_ok-push_placed-2.ensures
    c.in_ok-push_placed-3.ensures c.in_ok-push_pair-3.ensures c.in_ok-push_pair-4.ensures
