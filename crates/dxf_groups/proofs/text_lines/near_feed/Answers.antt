-- The lowest bit that is set tells the first line feed.
use Rattle.std.proofs.Common.{◌<◌, length, take, eqb, sym, ap, subst, ◌∙◌, arith, w8}
use Rattle.std.specs.Int.Count.{count_trailing_zeros}
use Rattle.std.proofs.lemmas.List.{length-take-le}
use Rattle.std.proofs.lemmas.Simd.{bitmask_splat}
use Rattle.dxf_groups.specs.TextLines.{is_feed}
use Rattle.dxf_groups.proofs.NearBytes.{near_first, near_within}
use Rattle.dxf_groups.proofs.text_lines.near_feed.Goals as goal

pub returns-clause-within : goal.returns-clause-within
returns-clause-within c =
    let text = c.args.text.now in
    let long = length-take-le 16 text (omega arith) in
    let feeds = bitmask_splat w8 eqb (take 16 text) 16 10 long (omega arith) in
    let within = near_within is_feed text (omega arith) (omega arith) in
    subst (λ n. n < length text) (sym (ap (count_trailing_zeros 64) feeds)) (omega arith)

pub returns-clause-place : goal.returns-clause-place
returns-clause-place c =
    let text = c.args.text.now in
    let long = length-take-le 16 text (omega arith) in
    let feeds = bitmask_splat w8 eqb (take 16 text) 16 10 long (omega arith) in
    ap (count_trailing_zeros 64) feeds ∙ near_first is_feed text (omega arith) (omega arith)
