-- They can differ at two depths farther away, or no cell at such a depth is undecided in one of them alone.
use Rattle.std.proofs.Common.{◌≡◌, ◌&&◌, ◌||◌, true, not, ℕ, bit_and, bit_or, rules, ap, sym, ◌∙◌}
use Rattle.std.specs.Int.Bits.{and_lt}
use Rattle.std.proofs.lemmas.Bool.{eqb-true, and_parts, and_from, or_left, or_right}
use Rattle.lemmas.specs.Bits.{is_set}
use Rattle.lemmas.proofs.WordBits.{set_both, set_either}
use Rattle.line_demands.proofs.FreeBoth.{both_of_two, both_of_one}
use Rattle.line_demands.proofs.LowestLeft.{none_set}
use Rattle.line_demands.proofs.ValueBits.{open_from, open_to, shared_bit}
use Rattle.line_demands.proofs.free.are_free_beyond.Goals as goal

pub returns-then-without_lowest-ne0 : goal.returns-then-without_lowest-ne0
returns-then-without_lowest-ne0 c = λ _.
    let a = c.args.after in
    let b = c.args.before in
    both_of_two a.full a.may b.full b.may c.requires.after c.requires.before (and_lt 64 a.may b.may (search rules) (search rules)) c.requires.met c.can_differ.result c.without-apart.result (search rules) c.can_differ.ensures
    (λ j. c.without-apart.ensures j ∙ ap (λ n. is_set c.can_differ.result j && not (is_set n j)) c.near.ensures)
    (search rules) (search rules) c.without_lowest.result c.without_lowest.ensures (search rules) c.if-without_lowest-ne0.true

pub returns : goal.returns
returns c = λ yes.
    let a = c.args.after in
    let b = c.args.before in
    let apart = c.without-apart.result in
    let either = bit_or c.undecided.result c.undecided-2.result in
    let shared : (k : ℕ) → is_set apart k ≡ true → (is_set c.undecided.result k || is_set c.undecided-2.result k) ≡ true → (is_set c.undecided-3.result k ≡ true) × (is_set c.undecided-4.result k ≡ true) =
    λ k set some. and_parts (is_set c.undecided-3.result k) (is_set c.undecided-4.result k) (sym (set_both c.undecided-3.result c.undecided-4.result k)
    ∙ shared_bit (is_set (bit_and apart either) k) (is_set (bit_and c.undecided-3.result c.undecided-4.result) k)
    (set_both apart either k ∙ and_from (is_set apart k) (is_set either k) set (set_either c.undecided.result c.undecided-2.result k ∙ some))
    (sym (c.without.ensures k) ∙ none_set c.without.result (eqb-true c.without.result 0 yes) k)) in
    both_of_one a.full a.may b.full b.may c.requires.after c.requires.before (and_lt 64 a.may b.may (search rules) (search rules)) c.requires.met c.can_differ.result apart (search rules) c.can_differ.ensures
    (λ j. c.without-apart.ensures j ∙ ap (λ n. is_set c.can_differ.result j && not (is_set n j)) c.near.ensures)
    (search rules) (search rules)
    (λ k set none. open_from b.full b.may c.undecided-4.result c.undecided-4.ensures k
    (shared k set (or_left (is_set c.undecided.result k) (is_set c.undecided-2.result k) (open_to a.full a.may c.undecided.result c.undecided.ensures k none))).1)
    (λ k set none. open_from a.full a.may c.undecided-3.result c.undecided-3.ensures k
    (shared k set (or_right (is_set c.undecided.result k) (is_set c.undecided-2.result k) (open_to b.full b.may c.undecided-2.result c.undecided-2.ensures k none))).0)
