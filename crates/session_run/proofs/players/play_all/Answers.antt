-- Each reader has done what its script asks, place by place.
use Rattle.std.proofs.Common.{[], map, subst, sym, slice_index_or, arith}
use Rattle.std.proofs.lemmas.List.{length-map}
use Rattle.query_session.specs.Tales.{IsReaderOf}
use Rattle.lemmas.proofs.Lists.{each-at}
use Rattle.lemmas.proofs.ListPlaces.{member-at}
use Rattle.session_run.specs.Players.{HasPlayed}
use Rattle.session_run.proofs.Told.{all_played}
use Rattle.session_run.proofs.players.play_all.Goals as goal

pub returns : goal.returns
returns g c p each =
    let scripts = map (λ v. v.items) c.args.scripts.now in
    let before = c.args.players.now in
    let after = c.for_each_mut.new.s in
    let long = c.requires.one_each in
    let as_many = length-map c.args.scripts.now (λ v. v.items) in
    let same = c.for_each_mut.auto.s in
    all_played p scripts after (omega (arith, long, as_many, same)) (λ k d lt.
    let call = (c.for_each_mut.ensures k d (omega (arith, lt, same))).1 in
    let reads = each-at (λ x. IsReaderOf p x.reader) before (slice_index_or before k d) each (member-at before k d (omega (arith, lt, same))) in
    subst (HasPlayed p (slice_index_or scripts k [])) {y = slice_index_or after k d} call.left (call.call p (subst (λ x. IsReaderOf p x.reader) (sym call.argument_is) reads)))
