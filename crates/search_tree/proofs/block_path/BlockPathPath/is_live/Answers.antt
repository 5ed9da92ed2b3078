-- A prefix with a mark is closed, so every line can be met; one without a mark isn't live.
use Rattle.std.proofs.Common.{◌<◌, List, Bool, length, take, ap, sym, ◌∙◌, subst, arith}
use Rattle.std.proofs.lemmas.Bool.{eqb-true}
use Rattle.std.proofs.lemmas.List.{length-take-le}
use Rattle.column_laws.proofs.LiveTree.{problem_tree}
use Rattle.solid_model.specs.Forcing.{is_live}
use Rattle.solid_model.specs.Tree.{IsTree}
use Rattle.search_tree.proofs.Marked.{closed_here}
use Rattle.search_tree.proofs.ProblemTrees.{all_decided, live_here, not_live_here}
use Rattle.search_tree.proofs.block_path.BlockPathPath.is_live.Goals as goal

pub meets_all-requires : goal.meets_all-requires
meets_all-requires c = λ same.
    let kept = c.self.invariant.1 in
    let partial = c.self.inside.partial in
    let said : List Bool = c.self.inside.said in
    let values = take c.self.inside.depth said in
    let long = length-take-le c.self.inside.depth said c.self.invariant.0 in
    let all = eqb-true _ _ same in
    let live : length values < length c.self.inside.marks.items = omega (arith, long, c.len.ensures, c.self.inside.marks.ok.0, c.if-len-from.false, c.from.ensures) in
    all_decided partial.problem values (omega (arith, all, long, kept.count)) partial.decisions
    (closed_here partial.problem values partial.decisions c.self.inside.marks.items kept.marked live)

pub returns-clause-asked : goal.returns-clause-asked
returns-clause-asked c =
    let kept = c.self.invariant.1 in
    let partial = c.self.inside.partial in
    let said : List Bool = c.self.inside.said in
    let values = take c.self.inside.depth said in
    let long = length-take-le c.self.inside.depth said c.self.invariant.0 in
    let live : length values < length c.self.inside.marks.items = omega (arith, long, c.len.ensures, c.self.inside.marks.ok.0, c.if-len-from.false, c.from.ensures) in
    let closure = closed_here partial.problem values partial.decisions c.self.inside.marks.items kept.marked live in
    c.meets_all.ensures.met.1 closure.stable.met
    ∙ sym (live_here partial.problem kept.parts values (omega (arith, kept.within, kept.count)) partial.decisions closure)
    ∙ ap (λ v. is_live v.problem v.values) c.self.view_is

pub returns-then-len-from-clause-asked : goal.returns-then-len-from-clause-asked
returns-then-len-from-clause-asked c =
    let kept = c.self.invariant.1 in
    let partial = c.self.inside.partial in
    let said : List Bool = c.self.inside.said in
    let values = take c.self.inside.depth said in
    let long = length-take-le c.self.inside.depth said c.self.invariant.0 in
    sym (not_live_here partial.problem kept.parts values (omega (arith, kept.within, kept.count)) partial.decisions c.self.inside.marks.items kept.marked
    (omega (arith, long, c.len.ensures, c.self.inside.marks.ok.0, c.if-len-from.true, c.from.ensures)))
    ∙ ap (λ v. is_live v.problem v.values) c.self.view_is

pub returns-clause-tree : goal.returns-clause-tree
returns-clause-tree c =
    subst (λ p. IsTree (is_live p) p.blocks.count) (ap (λ v. v.problem) c.self.view_is) (problem_tree c.self.inside.partial.problem c.self.invariant.1.parts)

pub returns-then-len-from-clause-tree : goal.returns-then-len-from-clause-tree
returns-then-len-from-clause-tree c =
    subst (λ p. IsTree (is_live p) p.blocks.count) (ap (λ v. v.problem) c.self.view_is) (problem_tree c.self.inside.partial.problem c.self.invariant.1.parts)
