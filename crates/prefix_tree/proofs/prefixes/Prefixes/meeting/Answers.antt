-- No more steps back are made than the list to the place has values.
use Rattle.std.proofs.Common.{◌≤◌, List, Bool, length, ap, subst, arith}
use Rattle.std.proofs.lemmas.List.{length-append}
use Rattle.prefix_tree.specs.Places.{prefix_at}
use Rattle.prefix_tree.proofs.prefixes.Prefixes.meeting.Goals as goal

pub overflow_add-more : goal.overflow_add-more
overflow_add-more c =
    let v = c.args.self.now in
    let led = c.loop-from.invariant.led in
    let short : length (prefix_at v c.args.to) ≤ c.args.to = subst (λ (w : List (List Bool)). length (prefix_at w c.args.to) ≤ c.args.to) c.self.view_is (c.known.ensures.short c.args.to (rw c.self.view_is c.requires.to)) in
    omega (arith, short, ap length led.1, length-append (prefix_at v c.loop-from.to) led.0, led.2, c.ranges.to.fits)
