-- The bytes of the lanes are put behind those that are there.
use Rattle.std.proofs.Common.{◌+◌, ◌<◌, Fits, w8, sym, subst}
use Rattle.std.proofs.lemmas.Simd.{Each1-from_get_or}
use Rattle.column_lanes.specs.Lanes.{AreBytes}
use Rattle.column_lanes.proofs.EightLanes.{map_self, bytes_on}
use lib.Lanes.{put_chunk}
use Rattle.column_lanes.proofs.lanes.put_lanes.Goals as goal

pub overflow_cast-out : goal.overflow_cast-out
overflow_cast-out c = Each1-from_get_or (Fits w8) c.args.lanes 0 (λ k l. record { fits = c.requires.small k (subst (λ n. k < n) c.requires.lanes l) })

pub returns-clause-put : goal.returns-clause-put
returns-clause-put c = λ value so_far put.
    subst (λ bytes. AreBytes value (put_chunk c.args.at c.args.out.now bytes) (c.args.at + 8)) (sym (map_self c.args.lanes))
    (bytes_on c.args.lanes c.args.out.now c.args.at c.requires.lanes c.requires.there value so_far put)
