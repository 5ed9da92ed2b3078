-- One more along the axis.
use Rattle.std.proofs.Common.{◌∙◌, arith}
use Rattle.solid_model.specs.PerAxis.{numbers_of}
use Rattle.solid_model.proofs.BoxPlaces.{numbered_faces}
use Rattle.solid_model.proofs.per_axis.PerAxis.faces.Goals as goal

pub returns : goal.returns
returns c = c.numbered.ensures ∙ numbered_faces (numbers_of c.args.self) c.args.axis _ (omega (arith, c.along.ensures))
