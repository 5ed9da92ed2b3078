-- The last place that the loop doesn't pass over.
use Rattle.std.proofs.Common.{sym, ◌∙◌, arith}
use Rattle.std.proofs.lemmas.List.Sums.{suffix_len_is}
use Rattle.dxf_groups.specs.TextLines.{is_blank}
use Rattle.dxf_groups.proofs.text_lines.len_before_trailing_blanks.Goals as goal

pub returns-else-is_blank : goal.returns-else-is_blank
returns-else-is_blank c =
    let is =
    suffix_len_is is_blank c.args.line.now c.loop-len.len 0 c.loop-len.invariant.0
    (λ k le lt. c.loop-len.invariant.1 k 0 le lt)
    (λ some. sym c.is_blank.ensures ∙ c.if-is_blank.false) in
    let within = c.loop-len.invariant.0 in
    omega arith

pub returns-after-loop-len : goal.returns-after-loop-len
returns-after-loop-len c =
    let is =
    suffix_len_is is_blank c.args.line.now c.loop-len.len 0 c.loop-len.invariant.0
    (λ k le lt. c.loop-len.invariant.1 k 0 le lt) (λ some. absurd (omega arith)) in
    let within = c.loop-len.invariant.0 in
    omega arith
