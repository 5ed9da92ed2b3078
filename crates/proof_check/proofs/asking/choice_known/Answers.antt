use Rattle.std.proofs.Common.{◌≡◌, ◌+◌, ◌++◌, ◌∷◌, [], map, sym, ap, ap₂, ◌∙◌, arith}
use Rattle.std.specs.List.{range_with_len}
use Rattle.std.proofs.lemmas.List.{map-append}
use Rattle.line_demands.proofs.ListParts.{range_more}
use Rattle.solid_model.specs.Decisions.{decided_by}
use Rattle.completeness_logs.specs.Logs.{known_full}
use Rattle.proof_check.proofs.asking.choice_known.Goals as goal

pub loop-block-preserved : goal.loop-block-preserved
loop-block-preserved c =
    let known = decided_by c.args.partial.now.decisions in
    let n = c.loop-block.block in
    c.in_ok-push.ensures.items ∙ ap₂ (λ xs x. xs ++ x ∷ []) c.loop-block.invariant (c.known_full.ensures ∙ ap known_full c.value.ensures)
    ∙ sym (map-append (λ block. known_full (known block)) (range_with_len 0 n) (n ∷ []))
    ∙ ap (map (λ block. known_full (known block))) (sym (range_more 0 n n (let e : 0 + n ≡ n = omega arith in e)))
