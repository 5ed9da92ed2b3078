-- The cells down to the first at which both may be full, and the only one behind it at which the columns can differ.
use Rattle.std.proofs.Common.{◌<◌, ◌^◌, not, ◌&&◌, bit_and, bit_or, rules, ap, sym, ◌∙◌}
use Rattle.std.specs.Int.Bits.{and_lt}
use Rattle.std.proofs.lemmas.Bool.{and_parts}
use Rattle.lemmas.specs.Bits.{is_set}
use Rattle.lemmas.proofs.WordBits.{set_both, set_either}
use Rattle.line_demands.proofs.FreeBehind.{free_of_two, free_of_one}
use Rattle.line_demands.proofs.ValueBits.{open_from, open_to, clear_beside, clear_first, clear_second, shared_bit}
use Rattle.line_demands.proofs.doubts.doubted_behind.Goals as goal

pub returns-then-without_lowest-ne0 : goal.returns-then-without_lowest-ne0
returns-then-without_lowest-ne0 c =
    let a = c.args.column in
    let b = c.args.beside in
    let fits : bit_and a.may b.may < 2 ^ 64 = and_lt 64 _ _ (search rules) (search rules) in record {
      undecided = λ k set. open_from a.full a.may c.undecided.result c.undecided.ensures k
          (and_parts (is_set c.undecided.result k) (is_set c.near-begin.result k) (sym (set_both c.undecided.result c.near-begin.result k) ∙ set)).0;
      free = λ k v none off.
          let clear = clear_beside (is_set c.undecided.result k) (is_set c.near-begin.result k) (open_to a.full a.may c.undecided.result c.undecided.ensures k none) (sym (set_both c.undecided.result c.near-begin.result k) ∙ off) in
          free_of_two a.full a.may b.full b.may c.requires.column c.requires.beside fits c.requires.met c.can_differ.result c.without-apart.result (search rules) c.can_differ.ensures
          (λ j. c.without-apart.ensures j ∙ ap (λ n. is_set c.can_differ.result j && not (is_set n j)) c.near-begin.ensures)
          (search rules) k v none (ap (λ n. is_set n k) (sym c.near-begin.ensures) ∙ clear) c.without_lowest.result c.without_lowest.ensures (search rules) c.if-without_lowest-ne0.true;
    }

pub returns : goal.returns
returns c =
    let a = c.args.column in
    let b = c.args.beside in
    let near_or = bit_or c.near-begin.result c.without.result in
    let fits : bit_and a.may b.may < 2 ^ 64 = and_lt 64 _ _ (search rules) (search rules) in record {
      undecided = λ k set. open_from a.full a.may c.undecided-2.result c.undecided-2.ensures k
          (and_parts (is_set c.undecided-2.result k) (is_set near_or k) (sym (set_both c.undecided-2.result near_or k) ∙ set)).0;
      free = λ k v none off.
          let clear = clear_beside (is_set c.undecided-2.result k) (is_set near_or k) (open_to a.full a.may c.undecided-2.result c.undecided-2.ensures k none) (sym (set_both c.undecided-2.result near_or k) ∙ off) in
          let neither = sym (set_either c.near-begin.result c.without.result k) ∙ clear in
          free_of_one a.full a.may b.full b.may c.requires.column c.requires.beside fits c.requires.met c.can_differ.result c.without-apart.result (search rules) c.can_differ.ensures
          (λ j. c.without-apart.ensures j ∙ ap (λ n. is_set c.can_differ.result j && not (is_set n j)) c.near-begin.ensures)
          (search rules) k v none (ap (λ n. is_set n k) (sym c.near-begin.ensures) ∙ clear_first (is_set c.near-begin.result k) (is_set c.without.result k) neither)
          (λ set. open_from b.full b.may c.undecided-3.result c.undecided-3.ensures k
          (shared_bit (is_set c.without-apart.result k) (is_set c.undecided-3.result k) set (sym (c.without.ensures k) ∙ clear_second (is_set c.near-begin.result k) (is_set c.without.result k) neither)));
    }
