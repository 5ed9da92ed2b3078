-- What the cell excludes, of its block if it has one.
use Rattle.std.proofs.Common.{Option, Some, None, ℕ, not, refl, sym, subst}
use Rattle.line_demands.specs.declared.known.KnownColumn.{KnownColumn}
use Rattle.line_demands.specs.Seen.{known_beside}
use Rattle.line_demands.specs.Excluding.{ExcludesAt}
use Rattle.line_demands.specs.Excluding.{CellExcludes}
use Rattle.propagate.specs.Looking.{IsLeastIn, TellsLeast}
use Rattle.propagate.proofs.line.forced_at.Goals as goal
use Rattle.solid_model.specs.declared.decision.Decision.{Decision}
use Rattle.solid_model.specs.Known.{known_bits}

pub returns-in_err-full : goal.returns-in_err-full
returns-in_err-full c =
    let s = c.args.seen in
    let a = c.args.of_after in
    let k = c.args.depth in
    let beyond = c.column_of-beyond.result in
    subst (TellsLeast (ExcludesAt c.args.problem.now s a k)) (sym c.from_residual.ensures)
    (λ b v (at, none, out). subst (λ (x : KnownColumn). TellsLeast (CellExcludes (known_beside s a) (known_bits x.full x.may) s.style k (Some b)) None) c.column_of-beyond.ensures.column
    (subst (λ (x : KnownColumn). TellsLeast (CellExcludes (known_bits x.full x.may) (known_bits beyond.full beyond.may) s.style k (Some b)) None) c.column_of-column.ensures.column (c.in_err-full.ensures b))
    b v (refl, none, out))

pub returns : goal.returns
returns c =
    let s = c.args.seen in
    let a = c.args.of_after in
    let k = c.args.depth in
    let b = c.in_ok-block.block in
    let beyond = c.column_of-beyond.result in
    let d : Decision = record { block = b; full = c.in_ok-full.full } in
    subst (λ (cell : Option ℕ). IsLeastIn (CellExcludes (known_beside s a) (known_beside s (not a)) s.style k cell) d) c.in_ok-block.ensures.block
    (subst (λ (x : KnownColumn). IsLeastIn (CellExcludes (known_beside s a) (known_bits x.full x.may) s.style k (Some b)) d) c.column_of-beyond.ensures.column
    (subst (λ (x : KnownColumn). IsLeastIn (CellExcludes (known_bits x.full x.may) (known_bits beyond.full beyond.may) s.style k (Some b)) d) c.column_of-column.ensures.column (c.in_ok-full.ensures b)))
