-- A run of a union of grid cells begins at grid coordinates, of which there are few, and none negative.
use Rattle.redraw.proofs.FewLines.{few_on_grid, not_negative_on_grid, lines_drawn}
use Rattle.redraw.proofs.laws.lines.sheet_lines_are_few.Goals as goal

pub returns-clause-few : goal.returns-clause-few
returns-clause-few c g is chosen s solid union = few_on_grid g is chosen s union

pub returns-clause-not_negative : goal.returns-clause-not_negative
returns-clause-not_negative c g is chosen s solid union = not_negative_on_grid g is chosen s union

pub returns-clause-drawn : goal.returns-clause-drawn
returns-clause-drawn c g is chosen s solid union = lines_drawn s
