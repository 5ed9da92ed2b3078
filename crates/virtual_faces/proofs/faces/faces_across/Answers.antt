-- A row is a word; and what is enclosed is virtual.
use Rattle.solid_model.specs.declared.cell.Axis.TheVariants.{X}
use Rattle.solid_model.specs.GridBox.{grid_sizes}
use Rattle.solid_model.proofs.BoxPlaces.{few_faces}
use Rattle.virtual_faces.proofs.EnclosedFaces.{enclosed_virtual}
use Rattle.virtual_faces.proofs.faces.faces_across.Goals as goal

pub leading_out-requires : goal.leading_out-requires
leading_out-requires c = record { word = few_faces (grid_sizes c.args.grid.now) c.known.ensures.few c.args.axis X }

pub returns : goal.returns
returns c = enclosed_virtual c.args.grid.now c.args.wire.now c.requires c.args.axis c.in_ok-leading.leading c.in_ok-marks.marks c.in_ok-leading.ensures c.in_ok-marks.ensures
