-- Each byte before the lowest bit that is set is a space.
use Rattle.std.proofs.Common.{◌≤◌, ◌<◌, length, take, eqb, not, sym, ap, subst, ◌∙◌, arith, w8}
use Rattle.std.specs.Int.Count.{count_trailing_zeros}
use Rattle.std.proofs.lemmas.List.{length-take-le}
use Rattle.std.proofs.lemmas.Simd.{bitmask_splat}
use Rattle.dxf_groups.proofs.NearBytes.{near_fails, near_none, near_within, space_blank}
use Rattle.dxf_groups.proofs.text_lines.near_spaces.Goals as goal

pub returns-then-others-eq0-clause-blank : goal.returns-then-others-eq0-clause-blank
returns-then-others-eq0-clause-blank c k lt =
    let text = c.args.text.now in
    let long = length-take-le 16 text (omega arith) in
    let others = bitmask_splat w8 (λ x y. not (eqb x y)) (take 16 text) 16 32 long (omega arith) in
    space_blank _ (near_none (λ x. not (eqb x 32)) text (omega arith)
    (sym others ∙ c.if-others-eq0.true) k lt)

pub returns-clause-within : goal.returns-clause-within
returns-clause-within c =
    let text = c.args.text.now in
    let long = length-take-le 16 text (omega arith) in
    let others = bitmask_splat w8 (λ x y. not (eqb x y)) (take 16 text) 16 32 long (omega arith) in
    let within = near_within (λ x. not (eqb x 32)) text (omega arith) (omega arith) in
    subst (λ n. n ≤ length text) (sym (ap (count_trailing_zeros 64) others)) (omega arith)

pub returns-clause-blank : goal.returns-clause-blank
returns-clause-blank c k lt =
    let text = c.args.text.now in
    let long = length-take-le 16 text (omega arith) in
    let others = bitmask_splat w8 (λ x y. not (eqb x y)) (take 16 text) 16 32 long (omega arith) in
    space_blank _ (near_fails (λ x. not (eqb x 32)) text (omega arith) (omega arith) k
    (subst (λ n. k < n) (ap (count_trailing_zeros 64) others) lt))
