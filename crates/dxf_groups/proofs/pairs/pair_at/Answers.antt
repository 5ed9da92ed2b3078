-- The first line is the code, and the second one the value.
use Rattle.std.proofs.Common.{rules, w32, FitsSigned, arith}
use Rattle.std.proofs.lemmas.Int.{to_z-of_z}
use Rattle.dxf_groups.proofs.BehindLines.{two_lines_on}
use Rattle.dxf_groups.proofs.FirstPairs.{first_line_read, pair_first}
use Rattle.dxf_groups.proofs.pairs.pair_at.Goals as goal

pub returns-clause-read : goal.returns-clause-read
returns-clause-read c =
    let code = c.requires.code in
    let place = c.requires.place in
    let value_line = c.near_line_at-value_line.ensures in
    record {
      span = value_line.span;
      place_after = record {
        short = place.short;
        within = value_line.within;
        counted = omega (arith, place.counted, code.goes_on, value_line.goes_on);
        some = omega (arith, place.some);
        begins =
            two_lines_on c.args.text.now _ c.args.start c.args.read.after
            c.near_line_at-value_line.result.after c.args.line place.some place.begins code.next value_line.next;
      };
      pairs =
          let fits : FitsSigned w32 c.args.read.code = search rules in
          let first = first_line_read c.args.text.now c.args.start c.args.read.after code.some code.next in
          rw to_z-of_z (pair_first c.args.line _ _ _ _ _ _ first value_line.content code.code);
    }
