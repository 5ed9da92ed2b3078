-- The line is the text up to its line feed.
use Rattle.std.proofs.Common.{rules, ◌≡◌, ◌+◌, ◌-◌, length, take, drop, refl, ap, ◌∙◌, sym}
use Rattle.std.specs.List.{position_or_len}
use Rattle.std.proofs.lemmas.List.{take_rest}
use Rattle.dxf_groups.specs.TextLines.{is_feed}
use Rattle.dxf_groups.proofs.FirstLines.{line_found, next_line}
use Rattle.dxf_groups.proofs.text_lines.line_to.Goals as goal

pub returns : goal.returns
returns c =
    let text = c.args.text.now in let start = c.args.start in let feed = c.args.feed in
    let rest = take_rest text start in
    let found : feed ≡ position_or_len is_feed (take (length text - start) (drop start text)) =
    c.requires.place ∙ ap (position_or_len is_feed) (sym rest) in
    let behind = next_line text _ start feed (start + feed + 1) rest found refl in
    record {
      span = search rules;
      content = line_found text _ start feed c.content_span-span.result _ rest c.requires.some found
          c.content_span-span.ensures.span c.content_span-span.ensures.content
          (c.behind_feed.ensures.next ∙ sym behind);
      next = c.behind_feed.ensures.next;
      goes_on = c.behind_feed.ensures.goes_on;
      within = c.behind_feed.ensures.within;
    }
