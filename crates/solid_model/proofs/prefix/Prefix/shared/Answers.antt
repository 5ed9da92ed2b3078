-- All words are the same, or they are up to one of which some first bits are.
use Rattle.std.proofs.Common.{◌≡◌, ◌<◌, ◌≤◌, ◌+◌, ◌*◌, get_or, take, min, ◌-◌, sym, ◌∙◌, ap, ap₂, arith}
use Rattle.std.proofs.lemmas.List.{get_or_read}
use Rattle.std.specs.List.{common_prefix_len}
use Rattle.lemmas.specs.Truth.{agree}
use Rattle.lemmas.specs.Bits.{first_bits, is_set}
use Rattle.lemmas.proofs.KeptBits.{length-first_bits}
use Rattle.lemmas.proofs.BitChanges.{shared_to_end, shared_up_to, bit_same, values_same}
use Rattle.solid_model.proofs.prefix.Prefix.shared.Goals as goal

pub returns-then-same-words : goal.returns-then-same-words
returns-then-same-words c =
    let xs = c.self.inside.words.items in
    let ys = c.other.inside.words.items in
    let m = c.self.inside.count in
    let n = c.other.inside.count in
    let k = c.min-most.result in
    let words = c.same_words-same.result in
    let alike : take words xs ≡ take words ys =
    ap (take words) (sym c.as_slice.ensures.value) ∙ c.same_words-same.ensures.same ∙ ap (take words) c.as_slice-2.ensures.value in
    let enough : k ≤ words * 64 = omega (arith, c.div_ceil-words.ensures, c.if-same-words.true) in
    sym (shared_to_end (first_bits xs m) (first_bits ys n) k (omega (arith, length-first_bits xs m, length-first_bits ys n))
    (values_same xs ys m n k (omega arith) (omega arith) (λ i l. bit_same xs ys words i alike (omega arith))))
    ∙ ap₂ (common_prefix_len agree) c.self.view_is c.other.view_is

pub returns : goal.returns
returns c =
    let xs = c.self.inside.words.items in
    let ys = c.other.inside.words.items in
    let m = c.self.inside.count in
    let n = c.other.inside.count in
    let w = c.same_words-same.result in
    let most : c.min-most.result ≡ min m n = c.min-most.ensures in
    let before : w < c.div_ceil-words.result = (let within = c.same_words-same.ensures.within in let other = c.if-same-words.false in omega arith) in
    let begun : w * 64 < min m n = omega (arith, c.div_ceil-words.ensures) in
    let alike : take w xs ≡ take w ys =
    ap (take w) (sym c.as_slice.ensures.value) ∙ c.same_words-same.ensures.same ∙ ap (take w) c.as_slice-2.ensures.value in
    let left : c.index.result.now ≡ get_or xs w 0 = get_or_read xs w _ (omega (arith, c.self.invariant)) c.index.ensures 0 in
    let right : c.index-2.result.now ≡ get_or ys w 0 = get_or_read ys w _ (omega (arith, c.other.invariant)) c.index-2.ensures 0 in
    let t = c.same_bits.result in
    ap (λ k. w * 64 + k) (c.min.ensures ∙ ap (λ k. min (k - w * 64) t) most)
    ∙ shared_up_to xs ys m n w t alike begun c.same_bits.ensures.within
    (λ i l. ap (λ word. is_set word i) (sym left) ∙ c.same_bits.ensures.same i l ∙ ap (λ word. is_set word i) right)
    (ap₂ (λ a b. agree (is_set a t) (is_set b t)) (sym left) (sym right) ∙ c.same_bits.ensures.differ)
    ∙ ap₂ (common_prefix_len agree) c.self.view_is c.other.view_is
