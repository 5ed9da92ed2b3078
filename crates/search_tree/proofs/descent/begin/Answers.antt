-- The decisions that the closing took close the empty prefix.
use Rattle.std.proofs.Common.{◌≡◌, ◌++◌, ◌∷◌, [], ℕ, List, ap, sym, subst, ◌∙◌}
use Rattle.propagate.specs.Closing.{Grows}
use Rattle.solid_model.specs.declared.decision.Decision.{Decision}
use Rattle.solid_model.specs.Decisions.{decided_by}
use Rattle.solid_model.specs.Forcing.{Lives}
use Rattle.search_tree.specs.BlockPaths.{AreMarks}
use Rattle.search_tree.proofs.Implied.{closed_first}
use Rattle.search_tree.proofs.Marked.{marks_live, marks_dead}
use Rattle.search_tree.proofs.descent.begin.Goals as goal

pub returns-in-Stable-clause-marked : goal.returns-in-Stable-clause-marked
returns-in-Stable-clause-marked c =
    let p = c.args.partial.now.problem in
    let new = c.close.new.partial.decisions in
    let grows = subst (λ (old : List Decision). Grows p old new) c.requires.none c.close.ensures.grows in
    let one : c.push_reserved.new.self.items ≡ 0 ∷ [] = c.push_reserved.ensures.items ∙ ap (λ (ms : List ℕ). ms ++ 0 ∷ []) c.requires.unmarked in
    subst (AreMarks p [] new) (sym one) (marks_live p new (closed_first p new grows c.in-Stable.ensures.closed.1))

pub returns-in-Conflict-clause-marked : goal.returns-in-Conflict-clause-marked
returns-in-Conflict-clause-marked c =
    let p = c.args.partial.now.problem in
    let lost = subst (λ (old : List Decision). Lives p (decided_by old) → ⊥) c.requires.none c.in-Conflict.ensures.closed.0 in
    subst (λ ms. AreMarks p [] c.undo_to.new.partial.decisions ms) (sym c.requires.unmarked) (marks_dead p c.undo_to.new.partial.decisions lost)
