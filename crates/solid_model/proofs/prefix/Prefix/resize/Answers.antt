-- The words that are kept hold the values that are kept.
use Rattle.std.proofs.Common.{◌/◌, ◌%◌, ◌≤◌, length, take, ap, ◌∙◌, arith}
use Rattle.lemmas.specs.Bits.{is_set}
use Rattle.lemmas.proofs.KeptBits.{length-first_bits}
use Rattle.lemmas.proofs.BitChanges.{values_same}
use Rattle.solid_model.proofs.prefix.Prefix.resize.Goals as goal

pub returns-clause-length : goal.returns-clause-length
returns-clause-length c = length-first_bits c.resize.new.self.items c.args.count

pub returns-clause-kept : goal.returns-clause-kept
returns-clause-kept c = λ k a b.
    let old = c.self.inside.words.items in
    let new = c.resize.new.self.items in
    let had : k ≤ c.self.inside.count = omega (arith, length-first_bits old c.self.inside.count, ap length c.self.view_is) in
    let has : k ≤ c.args.count = omega (arith, length-first_bits new c.args.count) in
    values_same new old c.args.count c.self.inside.count k has had (λ i l.
    ap (λ word. is_set word (i % 64)) (c.in_ok-resize.ensures.by_index.0 (i / 64) 0 (omega (arith, c.div_ceil.ensures)) (omega (arith, c.self.invariant))))
    ∙ ap (take k) c.self.view_is
