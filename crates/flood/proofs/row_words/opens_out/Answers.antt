-- The numbers of a cell of the box are few.
use Rattle.std.proofs.Common.{IsTrue, sym, subst}
use Rattle.solid_model.specs.PerAxis.{numbers_of, cell_of}
use Rattle.solid_model.specs.WalledBoxes.{is_within}
use Rattle.solid_model.proofs.BoxPlaces.{few_numbers}
use Rattle.flood.proofs.row_words.opens_out.Goals as goal

pub after-requires : goal.after-requires
after-requires g c = few_numbers (numbers_of c.args.sizes) c.requires.few c.args.cell
    (subst (λ s. IsTrue (is_within s (cell_of c.args.cell))) (sym c.requires.sizes) c.requires.within) c.args.axis
