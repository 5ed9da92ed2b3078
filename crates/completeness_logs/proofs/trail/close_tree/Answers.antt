-- The last split's block was undecided before it, and is so again.
use Rattle.std.proofs.Common.{◌<◌, ◌∷◌, ◌++◌, [], ℕ, List, subst, sym, ap, ap₂, ◌∙◌, true, false, reverse}
use Rattle.solid_model.specs.declared.decision.Decision.{Decision}
use Rattle.solid_model.specs.Blocks.{ProblemParts}
use Rattle.solid_model.specs.Decisions.{PartialParts, decided_by}
use Rattle.completeness_logs.specs.SplitMarks.{AreSplitMarks, all_to_come}
use Rattle.completeness_logs.proofs.SplitMarks.{newest_open, newest_marks, newest_standing, reversed}
use Rattle.completeness_logs.proofs.trail.close_tree.Goals as goal

pub decide-requires-clause-there : goal.decide-requires-clause-there
decide-requires-clause-there c =
    let p = c.args.partial.now.problem in
    let ds = c.args.partial.now.decisions in
    let open_ = newest_open p.blocks.count ds c.known.ensures.decided c.args.marks.now.items c.pop.new.self.items c.in-Some.mark c.in-Some.ensures.items c.requires in
    subst (λ n. c.decided_block-block.result < n) (ap (λ (q : ProblemParts). q.blocks.count) (sym (ap (λ (v : PartialParts). v.problem) c.undo_to.ensures)))
    (subst (λ b. b < p.blocks.count) (sym c.decided_block-block.ensures) open_.0)

pub decide-requires-clause-open : goal.decide-requires-clause-open
decide-requires-clause-open c =
    let p = c.args.partial.now.problem in
    let ds = c.args.partial.now.decisions in
    let open_ = newest_open p.blocks.count ds c.known.ensures.decided c.args.marks.now.items c.pop.new.self.items c.in-Some.mark c.in-Some.ensures.items c.requires in
    ap₂ (λ (xs : List Decision) (b : ℕ). decided_by xs b) (ap (λ (v : PartialParts). v.decisions) c.undo_to.ensures) c.decided_block-block.ensures ∙ open_.1

pub returns-in-Some-clause-marks : goal.returns-in-Some-clause-marks
returns-in-Some-clause-marks c =
    let p = c.args.partial.now.problem in
    let ds = c.args.partial.now.decisions in
    let now = ap (λ (v : PartialParts). v.decisions) c.decide.ensures.decided
    ∙ ap₂ (λ (xs : List Decision) (b : ℕ). xs ++ record { block = b; full = false } ∷ []) (ap (λ (v : PartialParts). v.decisions) c.undo_to.ensures) c.decided_block-block.ensures in
    subst (λ xs. AreSplitMarks xs (reverse c.pop.new.self.items)) (sym now)
    (newest_marks p.blocks.count ds c.known.ensures.decided c.args.marks.now.items c.pop.new.self.items c.in-Some.mark c.in-Some.ensures.items c.requires)

pub returns-in-Some-clause-coming : goal.returns-in-Some-clause-coming
returns-in-Some-clause-coming c =
    let p = c.args.partial.now.problem in
    let ds = c.args.partial.now.decisions in
    let now = ap (λ (v : PartialParts). v.decisions) c.decide.ensures.decided
    ∙ ap₂ (λ (xs : List Decision) (b : ℕ). xs ++ record { block = b; full = false } ∷ []) (ap (λ (v : PartialParts). v.decisions) c.undo_to.ensures) c.decided_block-block.ensures in
    ap (λ xs. all_to_come true xs (reverse c.pop.new.self.items)) now
    ∙ newest_standing p.blocks.count ds c.known.ensures.decided c.args.marks.now.items c.pop.new.self.items c.in-Some.mark c.in-Some.ensures.items c.requires

pub returns-in-Some-clause-back : goal.returns-in-Some-clause-back
returns-in-Some-clause-back c = λ _. (
  c.in-Some.mark,
  _,
  reversed c.args.marks.now.items c.pop.new.self.items c.in-Some.mark c.in-Some.ensures.items,
  ap (λ (v : PartialParts). v.decisions) c.decide.ensures.decided
      ∙ ap₂ (λ (xs : List Decision) (b : ℕ). xs ++ record { block = b; full = false } ∷ []) (ap (λ (v : PartialParts). v.decisions) c.undo_to.ensures) c.decided_block-block.ensures,
)
