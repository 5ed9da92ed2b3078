-- The readers that have played are written back.
use Rattle.std.proofs.Common.{◌≡◌, length, sym, subst, arith}
use Rattle.std.proofs.lemmas.List.{with_items_is}
use Rattle.lemmas.specs.Lists.{Each}
use Rattle.query_session.specs.Tales.{IsReaderOf}
use Rattle.session_run.proofs.together.fn.play_together.scope.Goals as goal

pub returns : goal.returns
returns g c p each =
    let players = c.captures.players in
    let after = c.play_all.new.players in
    let whole : length after ≡ players.len = omega (arith, c.play_all.auto.players, c.as_mut_slice.ensures.len) in
    rw (with_items_is players after whole) (c.play_all.ensures p (subst (Each (λ x. IsReaderOf p x.reader)) (sym c.as_mut_slice.ensures.value) each))
