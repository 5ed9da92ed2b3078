-- The beginnings so far.
use Rattle.std.proofs.Common.{◌≡◌, take}
use Rattle.stl_out.specs.CornerParts.{heads_in_row}
use Rattle.stl_out.proofs.corner_parts.row_of_heads.Given as goal

abbrev pub invariant-loop-x : goal.invariant-loop-x
invariant-loop-x l = l.row.items ≡ heads_in_row (take l.x-index l.xs) l.y
