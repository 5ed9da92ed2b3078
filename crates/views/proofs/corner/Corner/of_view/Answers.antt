use Rattle.std.proofs.Common.{◌+◌, Bool, true, false, drop, take, sym, ◌∙◌, arith}
use Rattle.std.proofs.lemmas.List.{take_more}
use Rattle.solid_model.specs.Drawings.{covering_lines}
use Rattle.solid_model.specs.Line.{IsKept}
use Rattle.lemmas.specs.Lists.{Each}
use Rattle.lemmas.proofs.Lists.{each-push}
use Rattle.views.proofs.CornerSteps.{lines_left, brings_first, brings_next, reached}
use Rattle.views.proofs.corner.Corner.of_view.Goals as goal
use Rattle.views.proofs.corner.Corner.of_view.Goals.{then-covers_in+in-None, then-covers_in+in-Some, else-covers_in}

pub loop-line-preserved : goal.loop-line-preserved
loop-line-preserved c =
    let v = c.args.view in
    let lines = c.args.lines.now in
    let i = c.loop-line.line-index in
    let l = c.line-item.result in
    let rest = drop (i + 1) lines in
    let left = λ (shows : Bool). lines_left v lines i l shows (omega arith) c.line-item.is in
    let kept : Each IsKept (take (i + 1) lines) =
    rw (take_more lines i l c.loop-line-test.true, ← c.line-item.is) (each-push IsKept (take i lines) l c.loop-line.invariant.kept c.covers_in.ensures.kept) in
    elim c.if-covers_in.branch [
      | then-covers_in+in-None w ↦
          let shown = left true (sym c.covers_in.ensures.value ∙ w.if-covers_in.true) in
          rw w.corner-is (record { none = tt; some = brings_first l (covering_lines v rest) v lines _ (sym shown ∙ (rw w.in-None.is at c.loop-line.invariant.none)) w.of_line-own.ensures; kept = kept })
      | then-covers_in+in-Some w ↦
          let shown = left true (sym c.covers_in.ensures.value ∙ w.if-covers_in.true) in
          let so_far = rw (w.in-Some.is, shown) at c.loop-line.invariant.some in
          rw w.corner-is (record { none = tt; some = brings_next l (covering_lines v rest) v lines _ _ _ so_far w.of_line-own.ensures w.least.ensures; kept = kept })
      | else-covers_in w ↦
          let passed = left false (sym c.covers_in.ensures.value ∙ w.if-covers_in.false) in
          rw w.corner-is (record { none = rw (← passed) c.loop-line.invariant.none; some = rw (← passed) c.loop-line.invariant.some; kept = kept })
    ]

pub returns-clause-some : goal.returns-clause-some
returns-clause-some c = reached c.args.view c.args.lines.now c.loop-line.line-index c.loop-line.corner (omega arith) c.loop-line.invariant.some
