-- The words that hold the first values.
use Rattle.std.proofs.Common.{◌≤◌, List, ℕ, length, take, ◌∙◌, ap, arith}
use Rattle.std.proofs.lemmas.List.{length-take}
use Rattle.lemmas.specs.Bits.{first_bits}
use Rattle.lemmas.proofs.KeptBits.{length-first_bits}
use Rattle.lemmas.proofs.BitChanges.{values_first}
use Rattle.solid_model.proofs.prefix.Prefix.first.Goals as goal

pub slice_bounds-words-end : goal.slice_bounds-words-end
slice_bounds-words-end c =
    let words = c.self.inside.words.items in
    omega (arith, length-first_bits words c.self.inside.count, ap length c.self.view_is, c.self.invariant, c.div_ceil.ensures, c.deref.ensures.len, length-take c.div_ceil.result c.deref.result.now)

pub invariant_of-result : goal.invariant_of-result
invariant_of-result c =
    let words = c.self.inside.words.items in
    omega (arith, length-first_bits words c.self.inside.count, ap length c.self.view_is, c.self.invariant, c.div_ceil.ensures, c.deref.ensures.len, c.in_ok-from_slice.ensures.len, length-take c.div_ceil.result c.deref.result.now)

pub returns : goal.returns
returns c =
    let words = c.self.inside.words.items in
    let count = c.args.count in
    let within : count ≤ c.self.inside.count = omega (arith, length-first_bits words c.self.inside.count, ap length c.self.view_is) in
    ap (λ (l : List ℕ). first_bits l count) (c.in_ok-from_slice.ensures.items ∙ ap (take c.div_ceil.result) c.deref.ensures.value)
    ∙ values_first words c.self.inside.count c.div_ceil.result count within (omega (arith, c.div_ceil.ensures))
    ∙ ap (take count) c.self.view_is
