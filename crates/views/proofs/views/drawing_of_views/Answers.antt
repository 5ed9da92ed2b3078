-- Where no view is lacked the three views are a drawing; a view that is missing has no runs.
use Rattle.solid_model.specs.declared.frame.View.TheVariants.{Front, Top, Side}
use Rattle.views.proofs.Kept.{views_draw, runs_draw, are_drawing}
use Rattle.views.proofs.Missing.{missing_of}
use Rattle.views.proofs.views.drawing_of_views.Goals as goal

pub returns-in-Some-clause-fault : goal.returns-in-Some-clause-fault
returns-in-Some-clause-fault c = λ fault e.
    let lines = c.args.lines.now in (
      c.in-Some.view,
      cc,
      c.in-Some.ensures lines (missing_of lines Front _ _ c.is_none.ensures c.in_ok-front.ensures.shown)
          (missing_of lines Top _ _ c.is_none-2.ensures c.in_ok-top.ensures.shown) (missing_of lines Side _ _ c.is_none-3.ensures c.in_ok-side.ensures.shown),
    )

pub returns-clause-drawn : goal.returns-clause-drawn
returns-clause-drawn c =
    let lines = c.args.lines.now in
    views_draw lines _
    (runs_draw lines Front _ _ c.in_ok-front.ensures.shown c.in_ok-front.ensures.drawn c.runs_or_none.ensures.shown c.runs_or_none.ensures.missing)
    (runs_draw lines Top _ _ c.in_ok-top.ensures.shown c.in_ok-top.ensures.drawn c.runs_or_none-2.ensures.shown c.runs_or_none-2.ensures.missing)
    (runs_draw lines Side _ _ c.in_ok-side.ensures.shown c.in_ok-side.ensures.drawn c.runs_or_none-3.ensures.shown c.runs_or_none-3.ensures.missing)

pub returns-clause-shown : goal.returns-clause-shown
returns-clause-shown c =
    let lines = c.args.lines.now in
    c.in_default.ensures lines (missing_of lines Front _ _ c.is_none.ensures c.in_ok-front.ensures.shown)
    (missing_of lines Top _ _ c.is_none-2.ensures c.in_ok-top.ensures.shown) (missing_of lines Side _ _ c.is_none-3.ensures c.in_ok-side.ensures.shown)

pub invariant_of-result : goal.invariant_of-result
invariant_of-result c =
    let lines = c.args.lines.now in
    are_drawing c.args.two_views lines _ (views_draw lines _
    (runs_draw lines Front _ _ c.in_ok-front.ensures.shown c.in_ok-front.ensures.drawn c.runs_or_none.ensures.shown c.runs_or_none.ensures.missing)
    (runs_draw lines Top _ _ c.in_ok-top.ensures.shown c.in_ok-top.ensures.drawn c.runs_or_none-2.ensures.shown c.runs_or_none-2.ensures.missing)
    (runs_draw lines Side _ _ c.in_ok-side.ensures.shown c.in_ok-side.ensures.drawn c.runs_or_none-3.ensures.shown c.runs_or_none-3.ensures.missing))
    c.in_ok-front.ensures.kept (c.in_default.ensures lines (missing_of lines Front _ _ c.is_none.ensures c.in_ok-front.ensures.shown)
    (missing_of lines Top _ _ c.is_none-2.ensures c.in_ok-top.ensures.shown) (missing_of lines Side _ _ c.is_none-3.ensures c.in_ok-side.ensures.shown))
