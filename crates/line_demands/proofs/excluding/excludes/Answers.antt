-- One of the two columns excludes the value.
use Rattle.std.proofs.Common.{◌↔◌, IsTrue, sym, subst}
use Rattle.line_demands.specs.Seen.{IsSeen}
use Rattle.line_demands.proofs.ExcludedCells.{first_told, second_told}
use Rattle.solid_model.specs.Blocks.{ProblemParts}
use Rattle.solid_model.specs.Decisions.{decided_by}
use Rattle.solid_model.specs.Forcing.{LineExcludes}
use Rattle.line_demands.proofs.excluding.excludes.Goals as goal

pub returns-then-column_excludes : goal.returns-then-column_excludes
returns-then-column_excludes c =
    let known = decided_by c.args.partial.now.decisions in
    subst (λ (q : ProblemParts). IsTrue c.column_excludes.result ↔ LineExcludes q known c.args.line c.args.block c.args.value) c.problem-problem.ensures
    (first_told c.problem-problem.result.now c.known.ensures.blocks known c.seen_at-seen.result (subst (λ (q : ProblemParts). IsSeen q known c.seen_at-seen.result) (sym c.problem-problem.ensures) c.seen_at-seen.ensures.seen)
    c.args.line c.seen_at-seen.ensures.line c.args.block c.args.value c.requires.undecided c.column_excludes.result c.if-column_excludes.true c.column_excludes.ensures)

pub returns-else-column_excludes : goal.returns-else-column_excludes
returns-else-column_excludes c =
    let known = decided_by c.args.partial.now.decisions in
    let second = c.column_excludes-else-column_excludes in
    subst (λ (q : ProblemParts). IsTrue second.result ↔ LineExcludes q known c.args.line c.args.block c.args.value) c.problem-problem.ensures
    (second_told c.problem-problem.result.now c.known.ensures.blocks known c.seen_at-seen.result (subst (λ (q : ProblemParts). IsSeen q known c.seen_at-seen.result) (sym c.problem-problem.ensures) c.seen_at-seen.ensures.seen)
    c.args.line c.seen_at-seen.ensures.line c.args.block c.args.value c.requires.undecided c.column_excludes.result second.result c.if-column_excludes.false c.column_excludes.ensures second.ensures)
