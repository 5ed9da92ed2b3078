-- How a layer's view stands in space: seen from its own side, or from the opposite one.
use Rattle.std.specs.Prelude.{if◌then◌else◌}
use Rattle.dxf_entities.specs.declared.layer.Layer.{Layer}
use Rattle.solid_model.specs.declared.cell.Axis.TheVariants.{X, Y, Z}
use Rattle.solid_model.specs.declared.frame.Frame.{Frame}
use Rattle.solid_model.specs.declared.frame.View.{View}
use Rattle.solid_model.specs.declared.frame.View.TheVariants.{Front, Top, Side}
use Rattle.solid_model.specs.Frames.{forward, backward, frame_of}

-- From the opposite side: the rear is seen from the greatest y, the bottom from below, the left side along x; right stays at the
-- right hand.
abbrev pub opposite_frame : View → Frame
opposite_frame Front = record { right = backward X; up = forward Z; away = backward Y }
opposite_frame Top = record { right = forward X; up = backward Y; away = forward Z }
opposite_frame Side = record { right = backward Y; up = forward Z; away = forward X }

abbrev pub sight_frame : Layer → Frame
sight_frame l = if l.opposite then opposite_frame l.view else frame_of l.view
