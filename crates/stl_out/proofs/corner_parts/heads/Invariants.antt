-- The rows so far.
use Rattle.std.proofs.Common.{◌≡◌, map, take}
use Rattle.stl_out.specs.CornerParts.{all_heads}
use Rattle.stl_out.proofs.corner_parts.heads.Given as goal

abbrev pub invariant-loop-y : goal.invariant-loop-y
invariant-loop-y l = map (λ row. row.items) l.rows.items ≡ all_heads l.xs (take l.y-index l.ys)
