use Rattle.std.proofs.Common.{ap₂, ◌∙◌}
use Rattle.std.specs.Int.{int_min}
use Rattle.views.proofs.corner.Corner.of_line.Goals as goal
use Rattle.solid_model.proofs.Sheets.{near_in_code}

pub returns : goal.returns
returns c =
    let l = c.line.inside in
    let near = c.line.invariant in
    let a = c.at.ensures in
    let b = c.at-2.ensures in
    rw (← c.line.view_is) (record {
      right = c.least.ensures.right ∙ ap₂ int_min (a.right ∙ near_in_code l.x0 near.near_x0) (b.right ∙ near_in_code l.x1 near.near_x1);
      up = c.least.ensures.up ∙ ap₂ int_min (a.up ∙ near_in_code l.y0 near.near_y0) (b.up ∙ near_in_code l.y1 near.near_y1);
    })
