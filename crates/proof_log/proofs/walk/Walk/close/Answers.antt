-- Back before a split nothing was excluded, so no line is doubted but for what the empty side gives to doubt.
use Rattle.std.proofs.Common.{◌++◌, ◌∷◌, [], reverse, take, sym, subst, ◌∙◌}
use Rattle.propagate.specs.Doubting.{AreDoubtedBefore}
use Rattle.propagate.proofs.Doubting.{stable_doubted}
use Rattle.proof_log.specs.Walks.{AreStableAt}
use Rattle.proof_log.proofs.Walks.{stable_there, stable_back}
use Rattle.proof_log.proofs.walk.Walk.close.Goals as goal
use Rattle.solid_model.specs.Blocks.{ProblemParts}

pub doubt_last-requires : goal.doubt_last-requires
doubt_last-requires c =
    let p = c.self.inside.partial.problem in
    let ds = c.self.inside.partial.decisions in
    let rest = reverse c.close_tree-goes_on.new.marks.items in
    let doubted = c.clear_all.new.self in
    let (m, last, is, are) = c.close_tree-goes_on.ensures.back c.if-goes_on.true in
    subst (λ (q : ProblemParts). AreDoubtedBefore q c.close_tree-goes_on.new.partial.decisions doubted) (sym c.close_tree-goes_on.ensures.problem)
    (record {
      before = take m ds;
      last = last;
      are = are;
      doubted_lines = stable_doubted p (take m ds) doubted (c.clear_all.ensures.count ∙ c.self.invariant.2.count)
          (stable_there p ds (reverse c.self.inside.marks.items) m rest is c.self.invariant.0 c.self.invariant.1);
    })

pub invariant_of-self : goal.invariant_of-self
invariant_of-self c =
    let p = c.self.inside.partial.problem in
    let ds = c.self.inside.partial.decisions in
    let now = c.close_tree-goes_on.new.partial.decisions in
    let rest = reverse c.close_tree-goes_on.new.marks.items in
    let (m, last, is, are) = c.close_tree-goes_on.ensures.back c.if-goes_on.true in (
      c.close_tree-goes_on.ensures.marks,
      subst (λ (q : ProblemParts). AreStableAt q now rest) (sym c.close_tree-goes_on.ensures.problem)
          (subst (λ xs. AreStableAt p xs rest) (sym are) (stable_back p ds (reverse c.self.inside.marks.items) m rest is c.self.invariant.0 c.self.invariant.1 last)),
      c.doubt_last.ensures,
    )
