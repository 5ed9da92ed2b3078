use Rattle.std.proofs.Common.{w64, rules}
use Rattle.std.proofs.lemmas.Int.{to_z-of_z}
use Rattle.std.proofs.lemmas.List.Sorted.{IsPartitionPoint-from_clause}
use Rattle.grid.specs.Positions.{begins_by}
use Rattle.grid.proofs.BegunRuns.{runs-parted}
use Rattle.grid.proofs.panels.begun_by.Goals as goal

pub returns-clause-parted : goal.returns-clause-parted
returns-clause-parted c =
    let runs = c.args.runs.now in
    let line = to_z-of_z w64 c.args.line (search rules) in
    let place = to_z-of_z w64 c.args.place (search rules) in
    IsPartitionPoint-from_clause (begins_by c.args.line c.args.place) runs c.partition_point.result c.partition_point.ensures.partitioned
    (runs-parted runs c.requires c.args.line c.args.place) (λ a r g h. search (rules, line, place))
