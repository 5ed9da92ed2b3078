-- One row more.
use Rattle.std.proofs.Common.{◌≡◌, ◌++◌, ◌+◌, ◌-◌, ◌*◌, ℕ, suc, List, Option, take, drop, sym, ◌∙◌, ap, append_assoc, arith}
use Rattle.std.proofs.Math.Nat.{suc-mul}
use Rattle.block_texts.specs.BlockTexts.{row_line, row_lines}
use Rattle.block_texts.proofs.text.push_rows.Goals as goal

next_row : (items : List ℕ) (k r w : ℕ) (left : List (Option ℕ)) → k ≡ suc r → (items ++ row_line (take w left)) ++ row_lines r w (drop w left) ≡ items ++ row_lines k w left
next_row items k r w left e = append_assoc items (row_line (take w left)) (row_lines r w (drop w left)) ∙ ap (λ (j : ℕ). items ++ row_lines j w left) (sym e)

pub split_at-requires : goal.split_at-requires
split_at-requires c =
    let r = c.args.rows - (c.loop.counter + 1) in
    let more : c.args.rows - c.loop.counter ≡ suc r = omega (arith, c.loop-test.true) in
    let wide : (c.args.rows - c.loop.counter) * c.args.width ≡ c.args.width + r * c.args.width = ap (λ (k : ℕ). k * c.args.width) more ∙ omega (arith, suc-mul r c.args.width) in
    omega (arith, c.loop.invariant.left, wide)

pub loop-preserved : goal.loop-preserved
loop-preserved c =
    let r = c.args.rows - (c.loop.counter + 1) in
    let w = c.args.width in
    let left = c.loop.left.now in
    let items = c.loop.text.items in
    let more : c.args.rows - c.loop.counter ≡ suc r = omega (arith, c.loop-test.true) in
    let wide : (c.args.rows - c.loop.counter) * w ≡ w + r * w = ap (λ (k : ℕ). k * w) more ∙ omega (arith, suc-mul r w) in
    record {
      text = (λ i. c.in_ok-push_row.ensures i ++ row_lines r w c.split_at.result.1.now)
          ∙ (λ i. (items ++ row_line (c.split_at.ensures.front i)) ++ row_lines r w (c.split_at.ensures.back i))
          ∙ next_row items (c.args.rows - c.loop.counter) r w left more ∙ c.loop.invariant.text;
      left = omega (arith, c.split_at.ensures.back_len, c.loop.invariant.left, wide);
    }
