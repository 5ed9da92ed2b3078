-- What counts of the line is what stands before its line feed.
use Rattle.std.proofs.Common.{ap, ◌∙◌}
use Rattle.dxf_groups.specs.Codes.{group_code_of}
use Rattle.dxf_groups.proofs.FirstPairs.{first_line_read, same_first}
use Rattle.dxf_groups.proofs.pairs.other_code_line.Goals as goal

pub returns : goal.returns
returns c =
    let line = c.text_line_at-line.ensures in
    record {
      code = c.group_code.ensures
          ∙ ap group_code_of (same_first _ _ _ _ _ line.content
          (first_line_read c.args.text.now c.args.start c.text_line_at-line.result.after c.requires line.next));
      next = line.next;
      goes_on = line.goes_on;
      within = line.within;
    }
