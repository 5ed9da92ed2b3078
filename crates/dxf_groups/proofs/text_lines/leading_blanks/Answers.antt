-- The first place that the loop doesn't pass over.
use Rattle.std.proofs.Common.{sym, ◌∙◌, arith}
use Rattle.std.proofs.lemmas.List.Sums.{prefix_len_is}
use Rattle.dxf_groups.specs.TextLines.{is_blank}
use Rattle.dxf_groups.proofs.text_lines.leading_blanks.Goals as goal

pub returns-else-is_blank-clause-count : goal.returns-else-is_blank-clause-count
returns-else-is_blank-clause-count c =
    sym (prefix_len_is is_blank c.args.line.now c.loop-place.place 0 c.loop-place.invariant.0
    c.loop-place.invariant.1 (λ some. sym c.is_blank.ensures ∙ c.if-is_blank.false))

pub returns-after-loop-place-clause-count : goal.returns-after-loop-place-clause-count
returns-after-loop-place-clause-count c =
    sym (prefix_len_is is_blank c.args.line.now c.loop-place.place 0 c.loop-place.invariant.0
    c.loop-place.invariant.1 (λ some. absurd (omega arith)))
