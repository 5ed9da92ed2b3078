-- The column that was looked at last lies within too.
use Rattle.std.proofs.Common.{◌≡◌, inl, inr, get_or, sym, subst, arith}
use Rattle.std.proofs.lemmas.Bool.{cases_lt}
use Rattle.solid_model.specs.Known.{LiesWithin}
use Rattle.stage_tests.proofs.columns_met.lie_within.Goals as goal

pub loop-at-preserved : goal.loop-at-preserved
loop-at-preserved c =
    let full = c.args.full.now in
    let may = c.args.may.now in
    let at = c.loop-at.at in record {
      so_far = λ k l. elim (cases_lt k at) as (λ _. LiesWithin (get_or full k 0) (get_or may k 0)) [
        | inl m ↦ c.loop-at.invariant.so_far k m
        | inr m ↦ (let here : at ≡ k = omega arith in
            subst (λ j. LiesWithin (get_or full j 0) (get_or may j 0)) here (c.is_within.ensures c.if-not-is_within.false))
      ];
    }
