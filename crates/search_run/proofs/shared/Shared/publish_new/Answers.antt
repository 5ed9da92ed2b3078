-- What is published are solutions, none of them twice.
use Rattle.std.proofs.Common.{◌≢◌, ◌-◌, List, Bool, length, take, drop, ◌++◌, sym, ◌∙◌, ap, subst}
use Rattle.solid_model.specs.Blocks.{ProblemParts, IsBlocksOf}
use Rattle.lemmas.specs.Lists.{Each, Ascends}
use Rattle.solid_model.specs.Solutions.{IsSolutionOf}
use Rattle.search_run.proofs.Published.{others_each, others_once, others_shared}
use Rattle.search_run.proofs.shared.Shared.publish_new.Goals as goal

pub publish-requires-clause-each : goal.publish-requires-clause-each
publish-requires-clause-each g c =
    let d = c.self.inside.desk in
    let e = c.self.inside.book.edition in
    let n = c.published-published.result in
    let blocks : IsBlocksOf d.problem.grid d.problem.blocks = subst (λ (p : ProblemParts). IsBlocksOf p.grid p.blocks) (c.deref.ensures ∙ c.problem.ensures.problem) c.known.ensures.blocks in
    subst (λ (xs : List (List Bool)). Each (IsSolutionOf e.problem) (take (length xs - n) (drop n xs))) (sym c.found-found.ensures.found)
    (others_each d e c.self.invariant n c.published-published.ensures.published c.found-found.ensures.kept blocks)

pub publish-requires-clause-once : goal.publish-requires-clause-once
publish-requires-clause-once g c =
    let d = c.self.inside.desk in
    let e = c.self.inside.book.edition in
    let n = c.published-published.result in
    let blocks : IsBlocksOf d.problem.grid d.problem.blocks = subst (λ (p : ProblemParts). IsBlocksOf p.grid p.blocks) (c.deref.ensures ∙ c.problem.ensures.problem) c.known.ensures.blocks in
    subst (λ (xs : List (List Bool)). Ascends ◌≢◌ (e.solids ++ take (length xs - n) (drop n xs))) (sym c.found-found.ensures.found)
    (others_once d e c.self.invariant n c.published-published.ensures.published c.found-found.ensures.kept blocks)

pub invariant_of-self-then-published-found : goal.invariant_of-self-then-published-found
invariant_of-self-then-published-found g c =
    let d = c.self.inside.desk in
    let e = c.self.inside.book.edition in
    let n = c.published-published.result in
    others_shared d e c.self.invariant n c.published-published.ensures.published c.publish.new.self.edition
    (ap (λ b. b.edition) c.in_ok-publish.ensures.2
    ∙ ap (λ (xs : List (List Bool)). record { problem = e.problem; solids = e.solids ++ take (length xs - n) (drop n xs) }) c.found-found.ensures.found)
