use Rattle.std.proofs.Common.{◌≡◌, ◌<◌, ◌≤◌, ◌+◌, ◌⊎◌, inl, inr, ◌∷◌, length, take, ◌∙◌, ap, sym, arith}
use Rattle.dxf_groups.specs.TextLines.{text_lines}
use Rattle.text_lines.proofs.FirstLines.{next_begins}
use Rattle.text_lines.proofs.lines.first_line.Goals as goal
use Rattle.text_lines.proofs.lines.first_line.Goals.{then-end-rest, else-end-rest}

pub returns-clause-lines : goal.returns-clause-lines
returns-clause-lines c =
    let cs = c.args.rest.now in
    let end = c.feed_place-end.result in
    let next = c.if-end-rest.next in
    let how : ((end < length cs) × (next ≡ end + 1)) ⊎ ((length cs ≤ end) × (next ≡ end)) = elim c.if-end-rest.branch [
      | then-end-rest w ↦ inl (w.if-end-rest.true, w.next-is)
      | else-end-rest w ↦ inr (omega (arith, w.if-end-rest.false), w.next-is)
    ] in
    next_begins cs c.requires end next c.feed_place-end.ensures.place how ∙ ap (λ xs. take end cs ∷ text_lines xs) (sym c.split_at.ensures.back)
