-- Each view has its own.
use Rattle.solid_model.specs.declared.frame.View.TheVariants.{Front, Top, Side}
use Rattle.pseudo_wire.proofs.drawn_points.drawn_points.Goals as goal

pub returns : goal.returns
returns c Front = c.in_ok-drawn_in.ensures
returns c Top = c.in_ok-drawn_in-2.ensures
returns c Side = c.in_ok-drawn_in-3.ensures
