use Rattle.std.proofs.Common.{◌<◌, ◌^◌, rules, sym, ap, ◌∙◌, refl, arith}
use Rattle.std.proofs.lemmas.Bool.{false≢true}
use Rattle.std.proofs.lemmas.Option.{none-some, same_Some}
use Rattle.completeness_logs.specs.LogTexts.{opening_line}
use Rattle.proof_check.specs.LogLines.{opening_count}
use Rattle.proof_check.proofs.WholeLogs.{head_read, head_written}
use Rattle.proof_check.proofs.walk.is_opening.Goals as goal

pub returns-in-None : goal.returns-in-None
returns-in-None c =
    let fits : c.args.blocks < 2 ^ 16 = search rules in
    (λ t. absurd (false≢true t), λ e. absurd (none-some c.args.blocks (sym c.in-None.is ∙ c.opening_count.ensures ∙ ap opening_count e ∙ head_read c.args.blocks (omega (arith, fits)))))

pub returns-then-count-wanted : goal.returns-then-count-wanted
returns-then-count-wanted c =
    (λ t. head_written c.args.line.now c.in-Some.count (sym c.opening_count.ensures ∙ c.in-Some.is) ∙ ap opening_line (c.if-count-wanted.true ∙ c.from-wanted.ensures), λ e. refl)

pub returns-else-count-wanted : goal.returns-else-count-wanted
returns-else-count-wanted c =
    let fits : c.args.blocks < 2 ^ 16 = search rules in
    (λ t. absurd (false≢true t), λ e. absurd (c.if-count-wanted.false (same_Some c.in-Some.count c.args.blocks (sym c.in-Some.is ∙ c.opening_count.ensures ∙ ap opening_count e ∙ head_read c.args.blocks (omega (arith, fits))) ∙ sym c.from-wanted.ensures)))
