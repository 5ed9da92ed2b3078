-- The first cell that may be full, if it is undecided.
use Rattle.std.proofs.Common.{not, ◌==◌, rules, ap, sym, ◌∙◌}
use Rattle.std.proofs.lemmas.Bool.{and_parts, both_ways}
use Rattle.std.proofs.lemmas.Nat.Bits.{bit_at-zero}
use Rattle.lemmas.specs.Bits.{is_set}
use Rattle.line_demands.proofs.FreeApart.{free_beside, free_later}
use Rattle.line_demands.proofs.ValueBits.{open_from, open_to, shared_bit}
use Rattle.line_demands.proofs.doubts.doubted_apart.Goals as goal

pub returns-then-beside : goal.returns-then-beside
returns-then-beside c =
    let a = c.args.column in
    let b = c.args.beside in record {
      undecided = λ k set. absurd (both_ways (is_set 0 k) (ap (λ n. n == 1) (bit_at-zero k)) set);
      free = λ k v none _. free_beside a.full a.may b.full b.may c.requires.column c.requires.beside (search rules) (search rules) (search rules) (search rules) c.if-beside.true k v none;
    }

pub returns : goal.returns
returns c =
    let a = c.args.column in
    let b = c.args.beside in record {
      undecided = λ k set. open_from a.full a.may c.undecided.result c.undecided.ensures k
          (and_parts (is_set c.undecided.result k) (not (is_set c.without_lowest.result k)) (sym (c.without.ensures k) ∙ set)).0;
      free = λ k v none off.
          let left = shared_bit (is_set c.undecided.result k) (is_set c.without_lowest.result k) (open_to a.full a.may c.undecided.result c.undecided.ensures k none) (sym (c.without.ensures k) ∙ off) in
          let (_, (j, below, there)) = (c.without_lowest.ensures k).0 left in
          free_later a.full a.may b.full b.may c.requires.column c.requires.beside (search rules) (search rules) (search rules) (search rules) c.if-beside.false c.requires.met k j v none below there;
    }
