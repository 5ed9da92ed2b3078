use Rattle.std.proofs.Common.{◌∷◌, ◌++◌, [], ap, ap₂, ◌∙◌, true, reverse, length}
use Rattle.std.proofs.lemmas.List.{reverse-append}
use Rattle.solid_model.specs.Decisions.{PartialParts}
use Rattle.completeness_logs.specs.SplitMarks.{all_to_come}
use Rattle.completeness_logs.proofs.SplitMarks.{standing_split}
use Rattle.completeness_logs.proofs.trail.go_split.Goals as goal

pub returns-clause-coming : goal.returns-clause-coming
returns-clause-coming c =
    let ds = c.args.partial.now.decisions in
    let ms = c.args.marks.now.items in
    ap₂ (λ ns xs. all_to_come true xs (reverse ns)) (c.in_ok-push.ensures.items ∙ ap (λ n. ms ++ n ∷ []) c.decided-mark.ensures.count) (ap (λ (v : PartialParts). v.decisions) c.decide.ensures.decided)
    ∙ ap (λ ns. all_to_come true (ds ++ record { block = c.args.block; full = true } ∷ []) ns) (reverse-append ms (length ds ∷ []))
    ∙ standing_split ds (record { block = c.args.block; full = true }) (reverse ms) c.requires.undecided

pub returns-clause-split : goal.returns-clause-split
returns-clause-split c = (
  c.in_ok-push.ensures.items ∙ ap (λ n. c.args.marks.now.items ++ n ∷ []) c.decided-mark.ensures.count,
  ap (λ (v : PartialParts). v.decisions) c.decide.ensures.decided,
)
