-- What was stolen is written back.
use Rattle.std.proofs.Common.{length, ◌≡◌, vec_len, ◌∙◌, subst}
use Rattle.std.proofs.lemmas.List.{with_items_is}
use Rattle.search_run.specs.Worked.{StealsOn}
use Rattle.search_run.proofs.Work.{steals_long, stole}
use Rattle.search_run.proofs.bench.steal_one.Goals as goal

pub returns : goal.returns
returns g c =
    let s = c.args.seat.now in
    let after = c.steal.new.thieves in
    let whole : length after ≡ vec_len s.thieves = steals_long c.as_mut_slice.result.now after c.steal.ensures ∙ c.as_mut_slice.ensures.len in
    rw (with_items_is s.thieves after whole) (stole s.owner s.thieves.items after (subst (λ ts. StealsOn ts after) c.as_mut_slice.ensures.value c.steal.ensures))
