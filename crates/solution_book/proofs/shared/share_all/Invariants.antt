use Rattle.std.proofs.Common.{◌≡◌, take, map}
use Rattle.std.specs.Arc.{arc_value}
use Rattle.solution_book.proofs.shared.share_all.Given as goal

abbrev pub invariant-loop-value : goal.invariant-loop-value
invariant-loop-value g l = map (λ v. arc_value v) l.same.items ≡ map (λ v. arc_value v) (take l.value-index l.values)
