-- One loop more.
use Rattle.std.proofs.Common.{◌∙◌, ◌++◌, [], ◌∷◌, ap, ap₂, sym, subst}
use Rattle.faces.specs.Border.{loop_along, side_count, is_border_at, following_number}
use Rattle.rounds.specs.Succession.{IsInsideRound}
use Rattle.faces.proofs.LoopParts.{map-twice_next, each-place}
use Rattle.faces.proofs.loops.loops_along.Goals as goal

pub loop_along-requires : goal.loop_along-requires
loop_along-requires c =
    let t = c.args.border.now.squares.now in
    let up_first = c.args.border.now.up_first in
    let P = IsInsideRound (side_count) (is_border_at t up_first) (following_number t up_first) in
    subst P (sym (c.as_slice.ensures.value ∙ ap (λ r. r.items) c.round-item.is))
    (each-place (λ r. r.items) P c.args.rounds.now c.loop-round.round-index c.round-item.result c.loop-round-test.true c.requires)

pub loop-round-preserved : goal.loop-round-preserved
loop-round-preserved c =
    let t = c.args.border.now.squares.now in
    let along = loop_along t c.args.border.now.up_first in
    let rounds = c.args.rounds.now in
    let i = c.loop-round.round-index in
    let is = c.in_ok-loop_along.ensures ∙ ap along (c.as_slice.ensures.value ∙ ap (λ r. r.items) c.round-item.is) in
    rw (c.in_ok-push.ensures.items, map-twice_next (λ r. r.items) along rounds i c.round-item.result c.loop-round-test.true)
    (ap₂ (λ ls l. ls ++ l ∷ []) c.loop-round.invariant is)
