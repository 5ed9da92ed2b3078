-- A line that covers a segment begins no farther to the right or up, and covers the segment where it begins.
use Rattle.solid_model.proofs.Sheets.{sheet_stands_from, sheet_begins, drawing_stands_from, lines_moved, some_line}
use Rattle.solid_model.proofs.laws.sheets.views_begin_at_the_least_lines.Goals as goal

pub returns-clause-stands_from : goal.returns-clause-stands_from
returns-clause-stands_from c = sheet_stands_from

pub returns-clause-begins : goal.returns-clause-begins
returns-clause-begins c = λ ls kept v shown. sheet_begins ls kept v (some_line ls v shown)

pub returns-clause-not_below_zero : goal.returns-clause-not_below_zero
returns-clause-not_below_zero c = drawing_stands_from

pub returns-clause-moved : goal.returns-clause-moved
returns-clause-moved c = λ ls kept v shown. lines_moved ls kept v (some_line ls v shown)
