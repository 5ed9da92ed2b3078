use Rattle.std.proofs.Common.{◌≡◌, ◌+◌, Bool, drop, sym, ap₂, ◌∙◌}
use Rattle.views.specs.LineStrokes.{covers_along}
use Rattle.views.proofs.LineTests.{line_taken, line_passed, next_met}
use Rattle.views.proofs.strokes.strokes_of.Goals as goal
use Rattle.views.proofs.strokes.strokes_of.Goals.{then-covers_along+in_ok-push, else-covers_along}

pub loop-line-preserved : goal.loop-line-preserved
loop-line-preserved c = λ style g of_view kind.
    let lines = c.args.lines.now in
    let i = c.loop-line.line-index in
    let l = c.line-item.result in
    let ss = c.loop-line.strokes.items in
    let corner = c.args.corner in
    let next = next_met style corner g ss lines i l c.loop-line-test.true c.line-item.is ∙ c.loop-line.invariant style g of_view kind in
    let runs = λ (test : Bool) (e : c.covers_along.result ≡ test). ap₂ (λ v upright. covers_along v upright l) of_view kind ∙ sym c.covers_along.ensures ∙ e in
    elim c.if-covers_along.branch [
      | then-covers_along+in_ok-push w ↦
          let taken = line_taken style corner g ss l (drop (i + 1) lines) (runs _ w.if-covers_along.true) in
          rw (w.strokes-is, w.in_ok-push.ensures.items, w.stroke_of.ensures, ← kind) (taken ∙ next)
      | else-covers_along w ↦ rw w.strokes-is (line_passed style corner g ss l (drop (i + 1) lines) (runs _ w.if-covers_along.false) ∙ next)
    ]
