-- The frontier is empty where no place is counted.
use Rattle.std.proofs.Common.{◌≤◌, length, sym, ◌∙◌, ap, subst, arith}
use Rattle.solid_model.specs.Search.{SearchLimits}
use Rattle.search_core.specs.Core.{end_at}
use Rattle.prefix_tree.specs.Places.{prefix_at}
use Rattle.search_core.proofs.KeptFrontiers.{none-left, counted-member, end-within, end-open}
use Rattle.search_core.proofs.desk.end_after.Goals as goal

pub returns-in-Some : goal.returns-in-Some
returns-in-Some c frontier keeps =
    let ledger = c.args.ledger.now in
    let place = c.in-Some.field-0 in
    let few : length ledger.found.items ≤ c.args.limits.solids = subst (λ (v : SearchLimits). length ledger.found.items ≤ v.solids) c.limits.view_is (omega arith) in
    let short : c.args.opened ≤ c.args.limits.nodes = subst (λ (v : SearchLimits). c.args.opened ≤ v.nodes) c.limits.view_is c.if-opened-limits.false in
    sym (end-within c.args.limits (length ledger.found.items) c.args.opened frontier few short
    ∙ end-open frontier (prefix_at ledger.prefixes place) (counted-member ledger.prefixes ledger.frontier.counts frontier keeps place c.in-Some.ensures.first.counted))

pub returns-in-None : goal.returns-in-None
returns-in-None c frontier keeps =
    let ledger = c.args.ledger.now in
    let few : length ledger.found.items ≤ c.args.limits.solids = subst (λ (v : SearchLimits). length ledger.found.items ≤ v.solids) c.limits.view_is (omega arith) in
    let short : c.args.opened ≤ c.args.limits.nodes = subst (λ (v : SearchLimits). c.args.opened ≤ v.nodes) c.limits.view_is c.if-opened-limits.false in
    sym (end-within c.args.limits (length ledger.found.items) c.args.opened frontier few short
    ∙ ap end_at (none-left ledger.prefixes ledger.frontier.counts frontier keeps c.in-None.ensures.first))
