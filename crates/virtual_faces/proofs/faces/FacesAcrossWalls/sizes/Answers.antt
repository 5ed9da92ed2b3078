-- The sizes are those of the grid's faces.
use Rattle.std.proofs.Common.{◌≡◌, ap, ◌∙◌, arith}
use Rattle.solid_model.specs.PerAxis.{numbers_of}
use Rattle.solid_model.specs.WalledBoxes.{face_sizes}
use Rattle.solid_model.proofs.BoxPlaces.{few_faces}
use Rattle.virtual_faces.proofs.faces.FacesAcrossWalls.sizes.Goals as goal

pub returns-clause-sizes : goal.returns-clause-sizes
returns-clause-sizes c = c.faces.ensures ∙ ap (λ s. face_sizes s c.args.self.now.axis) c.sizes.ensures.sizes

pub returns-clause-few : goal.returns-clause-few
returns-clause-few c a =
    let few = few_faces (numbers_of c.sizes.result) c.sizes.ensures.few c.args.self.now.axis a in
    let is : numbers_of c.faces.result a ≡ face_sizes (numbers_of c.sizes.result) c.args.self.now.axis a = λ t. c.faces.ensures t a in
    omega (arith, few, is)
