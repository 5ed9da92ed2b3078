use Rattle.std.proofs.Common.{◌≡◌, ◌∷◌, [], ap, subst, sym, true, reverse}
use Rattle.solid_model.specs.Decisions.{PartialParts, decided_by}
use Rattle.completeness_logs.specs.Logs.{with_block}
use Rattle.completeness_logs.specs.SplitMarks.{AreSplitMarks, sides_to_come, all_to_come}
use Rattle.completeness_logs.proofs.SplitMarks.{marks_more, standing_decided}
use Rattle.completeness_logs.proofs.trail.go_force.Goals as goal

pub returns-clause-marks : goal.returns-clause-marks
returns-clause-marks c =
    let ds = c.args.partial.now.decisions in
    subst (λ xs. AreSplitMarks xs (reverse c.args.marks.now)) (sym (ap (λ (v : PartialParts). v.decisions) c.decide.ensures.decided)) (marks_more ds (_ ∷ []) (reverse c.args.marks.now) c.requires.marks)

pub returns-clause-coming : goal.returns-clause-coming
returns-clause-coming c =
    let ds = c.args.partial.now.decisions in
    subst (λ xs. all_to_come true xs (reverse c.args.marks.now) ≡ with_block (decided_by ds) c.args.block c.args.full ∷ sides_to_come ds (reverse c.args.marks.now)) (sym (ap (λ (v : PartialParts). v.decisions) c.decide.ensures.decided))
    (standing_decided ds (record { block = c.args.block; full = c.args.full }) (reverse c.args.marks.now) c.requires.undecided c.requires.marks)
