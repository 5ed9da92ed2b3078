-- The values so far.
use Rattle.std.proofs.Common.{◌≡◌, ◌≤◌, not, length, map, take, vec_len, vec_capacity}
use Rattle.virtual_faces.proofs.faces.contraries.Given as goal

abbrev pub invariant-loop-value : goal.invariant-loop-value
invariant-loop-value l = record {
  told : l.contraries.items ≡ map not (take l.value-index l.values);
  count : vec_len l.contraries ≡ l.value-index;
  room : length l.values ≤ vec_capacity l.contraries;
}
