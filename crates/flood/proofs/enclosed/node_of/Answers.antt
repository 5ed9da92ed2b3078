-- A cell's place in the ringed box.
use Rattle.std.proofs.Common.{◌∙◌, arith}
use Rattle.solid_model.specs.PerAxis.{numbers_of, cell_of}
use Rattle.solid_model.specs.WalledBoxes.{is_within, box_place}
use Rattle.solid_model.proofs.BoxPlaces.{few_numbers}
use Rattle.flood.proofs.RingPlaces.{outer-within}
use Rattle.flood.proofs.RingPlaces.{within-ringed}
use Rattle.flood.proofs.enclosed.node_of.Goals as goal

pub outer-requires : goal.outer-requires
outer-requires c = few_numbers (numbers_of c.args.sizes) (λ a. omega (arith, c.requires.few a)) c.args.cell c.requires.within

pub place-requires-clause-within : goal.place-requires-clause-within
place-requires-clause-within c =
    (λ t. is_within (c.ringed.ensures.sizes t) (c.outer.ensures t))
    ∙ outer-within (numbers_of c.args.sizes) (cell_of c.args.cell) (within-ringed (numbers_of c.args.sizes) (cell_of c.args.cell) c.requires.within)

pub returns : goal.returns
returns c = c.place.ensures.place ∙ (λ t. box_place (c.ringed.ensures.sizes t) (c.outer.ensures t))
