-- The last run's line is near.
use Rattle.std.proofs.Common.{◌≡◌, w64, to_z, of_z, arith, rules}
use Rattle.std.proofs.lemmas.Int.{ints, to_z-of_z}
use Rattle.redraw.proofs.DrawnRuns.{near_last}
use Rattle.redraw.proofs.dxf.beyond.Goals as goal

pub overflow_add-result : goal.overflow_add-result
overflow_add-result c =
    let near = near_last c.args.runs.now c.requires in
    let last = c.last_line.ensures in
    let whole : to_z w64 (of_z w64 c.last_line.result) ≡ c.last_line.result = to_z-of_z w64 c.last_line.result (search rules) in
    omega (arith, ints, near.0, near.1, last, whole)

pub returns-clause-value : goal.returns-clause-value
returns-clause-value c =
    let near = near_last c.args.runs.now c.requires in
    let last = c.last_line.ensures in
    let whole : to_z w64 (of_z w64 c.last_line.result) ≡ c.last_line.result = to_z-of_z w64 c.last_line.result (search rules) in
    omega (arith, ints, near.0, near.1, last, whole)

pub returns-clause-near : goal.returns-clause-near
returns-clause-near c =
    let near = near_last c.args.runs.now c.requires in
    let last = c.last_line.ensures in
    let whole : to_z w64 (of_z w64 c.last_line.result) ≡ c.last_line.result = to_z-of_z w64 c.last_line.result (search rules) in
    (omega (arith, ints, near.0, near.1, last, whole), omega (arith, ints, near.0, near.1, last, whole))
