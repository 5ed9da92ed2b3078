-- The line is the text up to its line feed.
use Rattle.std.proofs.Common.{rules, refl}
use Rattle.std.proofs.lemmas.List.{take_rest}
use Rattle.dxf_groups.proofs.FirstLines.{line_found, next_line}
use Rattle.dxf_groups.proofs.text_lines.near_line_at.Goals as goal

pub returns-in-Some : goal.returns-in-Some
returns-in-Some c =
    let line = c.in-Some.ensures in
    record {
      span = search rules;
      content = line_found c.args.text.now _ c.args.start c.in-Some.line.feed c.in-Some.line.content _
          (take_rest c.args.text.now c.args.start) c.requires line.place line.span line.content refl;
      next = next_line c.args.text.now _ c.args.start c.in-Some.line.feed _
          (take_rest c.args.text.now c.args.start) line.place refl;
      goes_on = search rules;
      within = search rules;
    }
