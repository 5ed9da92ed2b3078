use Rattle.dxf_groups.proofs.NearLines.{near_content}
use Rattle.dxf_groups.proofs.text_lines.near_line.Goals as goal

pub returns-clause-content : goal.returns-clause-content
returns-clause-content c =
    near_content c.args.text.now c.in_ok-feed.feed c.near_spaces-start.result
    c.without_return-bare.result.now c.without_return-bare.ensures c.if-start-end.false
    c.near_spaces-start.ensures.blank c.if-bare-start-le32.false c.if-bare-end-le32.false
