-- The readers that play are those that are given.
use Rattle.std.proofs.Common.{List, map, subst, sym}
use Rattle.std.proofs.lemmas.Result.{IfOk-weaker}
use Rattle.lemmas.specs.Lists.{Each}
use Rattle.lemmas.proofs.Lists.{each-from_map}
use Rattle.query_session.specs.Tales.{IsReaderOf}
use Rattle.session_run.specs.Players.{PlayerParts}
use Rattle.session_run.proofs.together.tell_together.Goals as goal

pub returns : goal.returns
returns g c = IfOk-weaker c.tales_by.result _ _ (λ tales tell p reads.
    let players : List PlayerParts = c.in_ok-players.players.items in
    let same = subst (Each (IsReaderOf p)) (sym c.in_ok-players.ensures.readers) reads in
    tell p (map (λ v. v.items) c.args.scripts.now) (c.play_together-players.ensures p (each-from_map (λ x. x.reader) (IsReaderOf p) players same))) c.tales_by.ensures
