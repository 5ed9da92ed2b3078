-- A number is told for each of the first ones.
use Rattle.std.proofs.Common.{◌≡◌, ◌+◌, ◌<◌, ℕ, suc, length, get_or}
use Rattle.prefix_tree.specs.Alike.{IsAlike}
use Rattle.prefix_tree.specs.Places.{prefix_at}
use Rattle.prefix_tree.proofs.beginnings.alike.Given as goal

abbrev pub invariant-loop-at : goal.invariant-loop-at
invariant-loop-at l = record {
  count : length l.alike.items + 1 ≡ l.at;
  told : (k : ℕ) → suc k < l.at → IsAlike (prefix_at l.prefixes k) (prefix_at l.prefixes (suc k)) (get_or l.alike.items k 0);
}
