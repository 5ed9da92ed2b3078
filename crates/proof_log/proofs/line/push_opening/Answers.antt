-- A word, a number and a line feed.
use Rattle.std.proofs.Common.{◌∷◌, ◌++◌, ◌∙◌, [], ap, append_assoc, codes}
use Rattle.std.specs.Fmt.{decimal}
use Rattle.proof_log.proofs.line.push_opening.Goals as goal

pub returns-clause-text : goal.returns-clause-text
returns-clause-text c =
    let text = c.args.text.now.items in
    let number = decimal c.args.blocks in
    c.in_ok-extend_from_slice-2.ensures.items
    ∙ ap (λ t. t ++ 10 ∷ []) (c.in_ok-push_number.ensures.text ∙ ap (λ t. t ++ number) c.in_ok-extend_from_slice.ensures.items)
    ∙ append_assoc (text ++ codes "log 1 blocks ") number (10 ∷ []) ∙ append_assoc text (codes "log 1 blocks ") (number ++ 10 ∷ [])
