-- The bytes of the eight are those of the pairs there.
use Rattle.std.proofs.Common.{◌≡◌, ◌+◌, ◌<◌, ℕ, List, map, get_or, refl, ap, ◌∙◌}
use Rattle.std.proofs.lemmas.Simd.{get_or-chunk}
use Rattle.column_lanes.specs.Meets.{met_at}
use Rattle.column_lanes.proofs.EightLanes.{map_self}
use Rattle.column_lanes.proofs.met_bytes.put_met.Goals as goal
use lib.Lanes.{chunk}

there : (fl ml fr mr want : List ℕ) (at k : ℕ) → k < 8
    → met_at (chunk at 8 fl) (chunk at 8 ml) (chunk at 8 fr) (chunk at 8 mr) (map (λ (x : ℕ). x) (chunk at 8 want)) k ≡ met_at fl ml fr mr want (at + k)
there fl ml fr mr want at k l =
    rw (
      get_or-chunk at 8 fl k 0 l,
      get_or-chunk at 8 ml k 0 l,
      get_or-chunk at 8 fr k 0 l,
      get_or-chunk at 8 mr k 0 l,
      ap (λ xs. get_or xs k 0) (map_self (chunk at 8 want)) ∙ get_or-chunk at 8 want k 0 l,
    ) refl

pub returns-clause-put : goal.returns-clause-put
returns-clause-put c =
    let fl = c.args.full_l.now in
    let ml = c.args.may_l.now in
    let fr = c.args.full_r.now in
    let mr = c.args.may_r.now in
    let want = c.args.want.now in
    c.put_lanes.ensures.put (met_at fl ml fr mr want) c.requires.so_far (λ k l. c.met_lanes-met.ensures.each k l ∙ there fl ml fr mr want c.args.at k l)
