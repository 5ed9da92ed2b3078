-- Each decision is on a block that is there.
use Rattle.std.proofs.Common.{◌<◌, List, false, get_or, sym, subst}
use Rattle.std.proofs.lemmas.Option.{slice_get-get_or}
use Rattle.propagate.proofs.Chains.{decision_there}
use Rattle.propagate.proofs.closing.decided_block.Goals as goal
use Rattle.solid_model.specs.declared.decision.Decision.{Decision}

pub returns-clause-decision : goal.returns-clause-decision
returns-clause-decision c =
    let none : Decision = record { block = 0; full = false } in
    let ds = c.args.partial.now.decisions in
    (get_or ds c.args.at none, slice_get-get_or ds c.args.at none c.requires, (λ t. (get_or (sym c.decisions.ensures t) (sym c.from.ensures t) none).block))

pub returns-clause-there : goal.returns-clause-there
returns-clause-there c =
    let none : Decision = record { block = 0; full = false } in
    let ds = c.args.partial.now.decisions in
    subst (λ (xs : List Decision). (get_or xs c.from.result none).block < c.args.partial.now.problem.blocks.count) (sym c.decisions.ensures)
    (subst (λ n. (get_or ds n none).block < c.args.partial.now.problem.blocks.count) (sym c.from.ensures)
    (decision_there c.args.partial.now.problem.blocks.count ds c.args.at (get_or ds c.args.at none) c.known.ensures.decided (slice_get-get_or ds c.args.at none c.requires)))
