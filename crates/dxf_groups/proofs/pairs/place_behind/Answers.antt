-- Two lines on the next pair begins.
use Rattle.std.proofs.Common.{arith}
use Rattle.dxf_groups.proofs.BehindLines.{two_lines_on}
use Rattle.dxf_groups.proofs.FirstPairs.{first_line_read}
use Rattle.dxf_groups.proofs.WantedPairs.{other_lines_passed}
use Rattle.dxf_groups.proofs.pairs.place_behind.Goals as goal

pub returns-clause-place : goal.returns-clause-place
returns-clause-place c =
    let code = c.requires.code in
    let place = c.requires.place in
    let value_line = c.next_line_at.ensures in
    record {
      short = place.short;
      within = value_line.within;
      counted = omega (arith, place.counted, code.goes_on, value_line.goes_on);
      some = omega (arith, place.some);
      begins =
          two_lines_on c.args.text.now _ c.args.start c.args.read.after c.next_line_at.result c.args.line
          place.some place.begins code.next value_line.next;
    }

pub returns-clause-passed : goal.returns-clause-passed
returns-clause-passed c = λ wanted other.
    let code = c.requires.code in
    let first = first_line_read c.args.text.now c.args.start c.args.read.after code.some code.next in
    let second = first_line_read c.args.text.now c.args.read.after c.next_line_at.result code.within
    c.next_line_at.ensures.next in
    other_lines_passed wanted c.args.line _ _ _ _ _ _ first second code.code other
