-- One row more; and all of them.
use Rattle.std.proofs.Common.{◌≡◌, ◌+◌, ℕ, suc, length, refl, ap, subst, ◌∙◌, arith}
use Rattle.lemmas.proofs.Pushed.{HoldsSoFar, holds_more}
use Rattle.faces.specs.Ends.{TellRowEnds}
use Rattle.faces.proofs.PointEnds.{IsEndRow, row_below, ends_told}
use Rattle.faces.proofs.ends.ends_by_rows.Goals as goal

pub loop-v-init : goal.loop-v-init
loop-v-init c = record {
  rows = record { count = ap length c.in_ok-ends.ensures.items; each = λ p d l. absurd (omega arith) };
  below = refl;
}

pub loop-v-preserved : goal.loop-v-preserved
loop-v-preserved c =
    let t = c.args.squares.now in
    let next : suc c.loop-v.v ≡ c.loop-v.v + 1 = omega arith in
    let told : IsEndRow t c.loop-v.v c.row_ends.result =
    subst (λ (p : ℕ × ℕ). TellRowEnds p.0 p.1 c.row_ends.result) (λ i. (c.row-above.ensures i, c.loop-v.invariant.below i)) c.row_ends.ensures in
    record {
      rows = holds_more (IsEndRow t) c.loop-v.ends.items _ _ c.row_ends.result c.loop-v.invariant.rows
          told c.in_ok-push.ensures.items;
      below = c.row-above.ensures ∙ ap (row_below t) next;
    }

pub returns : goal.returns
returns c =
    let t = c.args.squares.now in
    let end : c.loop-v.v ≡ 64 = omega (arith, c.loop-v-test.false) in
    let all = subst (HoldsSoFar (IsEndRow t) c.loop-v.ends.items) end c.loop-v.invariant.rows in
    (all.count, ends_told t c.known.ensures c.loop-v.ends.items all)
