-- The last run.
use Rattle.std.proofs.Common.{◌<◌, w64, SFits, length, ap, ◌∙◌, rules}
use Rattle.std.proofs.lemmas.Int.{to_z-of_z}
use Rattle.solid_model.specs.declared.runs.Run.{Run}
use Rattle.redraw.specs.GridRuns.{last_line}
use Rattle.redraw.proofs.FarEnds.{last_line-last}
use Rattle.redraw.proofs.sheet.last_line.Goals as goal

pub returns-in-Some : goal.returns-in-Some
returns-in-Some c =
    let fits : SFits w64 c.in-Some.run'.now.at = search rules in
    let some : 0 < length c.as_slice.result.now = search rules in
    to_z-of_z w64 c.in-Some.run'.now.at fits
    ∙ ap (λ (r : Run). r.at) c.in-Some.ensures.item.1
    ∙ last_line-last c.as_slice.result.now c.in-Some.run'.now some
    ∙ ap last_line c.as_slice.ensures.same
