-- No more live prefixes are opened than there are.
use Rattle.std.proofs.Common.{◌≡◌, ◌≤◌, [], sym, ◌∙◌, subst, arith}
use Rattle.solid_model.specs.Blocks.{ProblemParts}
use Rattle.solid_model.specs.Forcing.{is_live}
use Rattle.solid_model.specs.Tree.{live_count, IsClosed}
use Rattle.search_core.proofs.Desks.{few_opened}
use Rattle.column_laws.proofs.LiveTree.{problem_tree}
use Rattle.search_end.proofs.desk_search.go_on.Goals as goal

pub loop-kind-smaller : goal.loop-kind-smaller
loop-kind-smaller c =
    let now = c.step.new.desk in
    let same : now.problem ≡ c.args.problem.now = c.in_ok-step.ensures.problem ∙ c.loop-kind.invariant.problem in
    let closed = subst (λ p. IsClosed (is_live p)) (sym same) (problem_tree c.args.problem.now c.known.ensures.blocks).closed in
    let few : now.opened ≤ live_count (is_live c.args.problem.now) c.args.problem.now.blocks.count [] =
    subst (λ (p : ProblemParts). now.opened ≤ live_count (is_live p) p.blocks.count []) same (few_opened now c.in_ok-step.ensures.kept closed) in
    omega (arith, c.in_ok-step.ensures.opened, few)
