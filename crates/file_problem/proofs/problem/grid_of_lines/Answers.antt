-- The drawing is that of the lines, at every segment.
use Rattle.std.proofs.Common.{◌≡◌, IfOk, inr, subst}
use Rattle.solid_model.specs.declared.segment.Segment.{Segment}
use Rattle.solid_model.specs.declared.segment.Style.{Style}
use Rattle.solid_model.specs.Drawings.{drawing_of}
use Rattle.solid_model.specs.Grid.{IsFirstTooFine}
use Rattle.solid_model.specs.Panels.{IsGridOf}
use Rattle.solid_model.specs.Runs.{style_in}
use Rattle.file_problem.proofs.problem.grid_of_lines.Goals as goal

pub returns-clause-grid : goal.returns-clause-grid
returns-clause-grid c =
    let same : style_in c.in_ok-drawing.drawing ≡ drawing_of c.args.lines.now = λ i g. c.in_ok-drawing.ensures.drawn g i in
    subst (λ (d : Segment → Style). IfOk c.grid_of.result (IsGridOf d)) same c.grid_of.ensures.grid

pub returns-clause-fault : goal.returns-clause-fault
returns-clause-fault c fault is =
    let same : style_in c.in_ok-drawing.drawing ≡ drawing_of c.args.lines.now = λ i g. c.in_ok-drawing.ensures.drawn g i in
    let (a, count, names, first) = c.grid_of.ensures.fault fault is in
    inr (c.in_ok-drawing.ensures.shown, a, count, subst (λ (d : Segment → Style). IsFirstTooFine d a count) same first, names)
