-- The bit of a word.
use Rattle.std.proofs.Common.{◌≡◌, ◌==◌, false, ◌/◌, ◌%◌, ◌<◌, length, get_or, sym, ap, ◌∙◌, arith}
use Rattle.std.proofs.lemmas.List.{get_or_read}
use Rattle.std.proofs.lemmas.Nat.Bits.{shr_and_one}
use Rattle.lemmas.specs.Bits.{is_set}
use Rattle.lemmas.proofs.KeptBits.{length-first_bits, first_bits_at}
use Rattle.solid_model.proofs.prefix.Prefix.get.Goals as goal

pub index-requires : goal.index-requires
index-requires c =
    omega (arith, length-first_bits c.self.inside.words.items c.self.inside.count, ap length c.self.view_is, c.self.invariant)

pub returns : goal.returns
returns c =
    let words = c.self.inside.words.items in
    let count = c.self.inside.count in
    let at = c.args.at in
    let within : at < count = omega (arith, length-first_bits words count, ap length c.self.view_is) in
    let read : c.index.result.now ≡ get_or words (at / 64) 0 =
    get_or_read words (at / 64) _ (omega (arith, c.self.invariant)) c.index.ensures 0 in
    ap (λ b. b == 1) (shr_and_one c.index.result.now (at % 64))
    ∙ ap (λ word. is_set word (at % 64)) read
    ∙ sym (first_bits_at words count at within)
    ∙ ap (λ values. get_or values at false) c.self.view_is
