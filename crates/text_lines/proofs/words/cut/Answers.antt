-- The first space, or none.
use Rattle.std.proofs.Common.{◌≡◌, ◌+◌, drop, suc, Some, ap, sym, ◌∙◌, arith}
use Rattle.std.proofs.lemmas.Bool.{eq-eqb}
use Rattle.text_lines.specs.Words.{Cut}
use Rattle.text_lines.proofs.Cuts.{cut_at, cut_none}
use Rattle.text_lines.proofs.words.cut.Goals as goal

pub returns-then-line-place-eq32-clause-word : goal.returns-then-line-place-eq32-clause-word
returns-then-line-place-eq32-clause-word c =
    sym (ap (λ (k : Cut). k.word) (cut_at c.args.line.now c.loop-place.place c.loop-place-test.true (λ k l. c.loop-place.invariant k l) (eq-eqb _ _ c.if-line-place-eq32.true)))

pub returns-then-line-place-eq32-clause-rest : goal.returns-then-line-place-eq32-clause-rest
returns-then-line-place-eq32-clause-rest c =
    ap (λ (k : Cut). k.rest) (cut_at c.args.line.now c.loop-place.place c.loop-place-test.true (λ k l. c.loop-place.invariant k l) (eq-eqb _ _ c.if-line-place-eq32.true))
    ∙ ap (λ n. Some (drop n c.args.line.now)) (let e : suc c.loop-place.place ≡ c.loop-place.place + 1 = omega arith in e)
    ∙ ap Some (sym c.split_at.ensures.back)

pub returns-clause-word : goal.returns-clause-word
returns-clause-word c =
    sym (ap (λ (k : Cut). k.word) (cut_none c.args.line.now (λ k l. c.loop-place.invariant k (omega (arith, l, c.loop-place-test.false)))))

pub returns-clause-rest : goal.returns-clause-rest
returns-clause-rest c =
    ap (λ (k : Cut). k.rest) (cut_none c.args.line.now (λ k l. c.loop-place.invariant k (omega (arith, l, c.loop-place-test.false))))
