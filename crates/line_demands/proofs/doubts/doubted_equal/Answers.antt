-- A cell that isn't undecided in both.
use Rattle.std.proofs.Common.{not, sym, ◌∙◌}
use Rattle.std.proofs.lemmas.Bool.{and_parts}
use Rattle.lemmas.specs.Bits.{is_set}
use Rattle.solid_model.specs.Known.{known_bits}
use Rattle.line_demands.proofs.Replaced.{equal_with}
use Rattle.line_demands.proofs.ValueBits.{open_from, open_to, shared_bit}
use Rattle.line_demands.proofs.doubts.doubted_equal.Goals as goal

pub returns : goal.returns
returns c =
    let a = c.args.column in
    let b = c.args.beside in record {
      undecided = λ k set. open_from a.full a.may c.undecided.result c.undecided.ensures k
          (and_parts (is_set c.undecided.result k) (not (is_set c.undecided-2.result k)) (sym (c.without.ensures k) ∙ set)).0;
      free = λ k v none off. equal_with (known_bits a.full a.may) (known_bits b.full b.may) c.requires.met k v none
          (open_from b.full b.may c.undecided-2.result c.undecided-2.ensures k
          (shared_bit (is_set c.undecided.result k) (is_set c.undecided-2.result k) (open_to a.full a.may c.undecided.result c.undecided.ensures k none) (sym (c.without.ensures k) ∙ off)));
    }
