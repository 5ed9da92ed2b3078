-- A cell that is undecided in one is undecided in the other.
use Rattle.std.proofs.Common.{ap, sym, ◌∙◌}
use Rattle.std.proofs.lemmas.Bool.{eqb-true}
use Rattle.solid_model.specs.declared.segment.Style.TheVariants.{Blank}
use Rattle.lemmas.specs.Bits.{is_set}
use Rattle.solid_model.specs.Known.{known_bits}
use Rattle.line_demands.proofs.Replaced.{equal_with}
use Rattle.line_demands.proofs.SeenCells.{draws_back}
use Rattle.line_demands.proofs.ValueBits.{open_from, open_to}
use Rattle.line_demands.proofs.free.are_free_equal.Goals as goal

pub returns : goal.returns
returns c = λ yes.
    let a = c.args.after in
    let b = c.args.before in
    let one = known_bits a.full a.may in
    let other = known_bits b.full b.may in
    let same = eqb-true c.undecided.result c.undecided-2.result yes in (
      λ k v none. equal_with one other c.requires.met k v none
          (open_from b.full b.may c.undecided-2.result c.undecided-2.ensures k (ap (λ n. is_set n k) (sym same) ∙ open_to a.full a.may c.undecided.result c.undecided.ensures k none)),
      λ k v none. equal_with other one (draws_back one other Blank c.requires.met) k v none
          (open_from a.full a.may c.undecided.result c.undecided.ensures k (ap (λ n. is_set n k) same ∙ open_to b.full b.may c.undecided-2.result c.undecided-2.ensures k none)),
    )
