-- One row more; and all of them.
use Rattle.std.proofs.Common.{◌≡◌, ◌==◌, inl, inr, false, length, get_or, ap, sym, subst, ◌∙◌, arith}
use Rattle.std.proofs.lemmas.Bool.{cases_lt}
use Rattle.std.proofs.lemmas.List.{get_or_past}
use Rattle.std.proofs.lemmas.Nat.Bits.{bit_at-zero}
use Rattle.lemmas.specs.Bits.{is_set}
use Rattle.lemmas.proofs.WordBits.{set_either}
use Rattle.faces.proofs.PointEnds.{or_clear}
use Rattle.faces.proofs.ends.all_bits.Goals as goal

pub loop-row-preserved : goal.loop-row-preserved
loop-row-preserved c v k l clear =
    let rows = c.args.rows.now in
    let i = c.loop-row.row-index in
    let both = or_clear _ _ (sym (set_either c.loop-row.all (get_or rows i 0) k) ∙ clear) in
    elim (cases_lt v i) as (λ _. is_set (get_or rows v 0) k ≡ false) [
      | inl earlier ↦ c.loop-row.invariant v k earlier both.0
      | inr later ↦ (let here : i ≡ v = omega arith in subst (λ j. is_set (get_or rows j 0) k ≡ false) here both.1)
    ]

pub returns : goal.returns
returns c v k clear = elim (cases_lt v (length c.args.rows.now)) as (λ _. is_set (get_or c.args.rows.now v 0) k ≡ false) [
  | inl within ↦ c.loop-row.invariant v k (omega (arith, within, c.loop-row-test.false)) clear
  | inr beyond ↦ ap (λ w. is_set w k) (get_or_past c.args.rows.now v 0 beyond) ∙ ap (λ b. b == 1) (bit_at-zero k)
]
