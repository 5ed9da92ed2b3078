-- The bit of a word.
use Rattle.std.proofs.Common.{◌≡◌, ◌<◌, ◌/◌, ◌%◌, List, Bool, length, get_or, set, ◌∙◌, ap, arith}
use Rattle.std.proofs.lemmas.List.{get_or_read}
use Rattle.lemmas.proofs.KeptBits.{length-first_bits}
use Rattle.lemmas.proofs.BitChanges.{HasBit, with_bit, without_bit, values_with}
use Rattle.solid_model.proofs.prefix.Prefix.set.Goals as goal
use Rattle.solid_model.proofs.prefix.Prefix.set.Goals.{then-full, else-full}

pub index-word-requires : goal.index-word-requires
index-word-requires c =
    omega (arith, length-first_bits c.self.inside.words.items c.self.inside.count, ap length c.self.view_is, c.self.invariant)

pub index_mut-requires : goal.index_mut-requires
index_mut-requires c =
    omega (arith, length-first_bits c.self.inside.words.items c.self.inside.count, ap length c.self.view_is, c.self.invariant)

pub returns : goal.returns
returns c =
    let words = c.self.inside.words.items in
    let count = c.self.inside.count in
    let at = c.args.at in
    let within : at < count = omega (arith, length-first_bits words count, ap length c.self.view_is) in
    let read : c.index-word.result.now ≡ get_or words (at / 64) 0 =
    get_or_read words (at / 64) _ (omega (arith, c.self.invariant)) c.index-word.ensures 0 in
    let has : HasBit (get_or words (at / 64) 0) (at % 64) c.args.full _ = elim c.if-full.branch [
      | then-full w ↦ rw (w.if-full.true, w.t-15-is, read) (with_bit (get_or words (at / 64) 0) (at % 64) (omega arith))
      | else-full w ↦ rw (w.if-full.false, w.t-15-is, read) (without_bit (get_or words (at / 64) 0) (at % 64) (omega arith))
    ] in
    values_with words count at c.args.full _ within c.self.invariant has ∙ ap (λ (l : List Bool). set l at c.args.full) c.self.view_is
