-- The point is taken where it projects.
use Rattle.std.proofs.Common.{◌∙◌, ap, ap₂}
use Rattle.solid_model.specs.declared.frame.Frame.{Frame}
use Rattle.solid_model.specs.Frames.{frame_of}
use Rattle.solid_model.specs.Marks.{is_marked}
use Rattle.solid_model.specs.PerAxis.{numbers_of, numbered}
use Rattle.solid_model.proofs.Numbers.{cell_numbered}
use Rattle.pseudo_wire.proofs.drawn_points.is_marked_in.Goals as goal

pub returns : goal.returns
returns c =
    c.has.ensures
    ∙ ap₂ is_marked c.view.ensures (cell_numbered c.args.point c.numbered.result (frame_of c.args.view).away.axis 0
    (c.numbered.ensures ∙ ap (λ (f : Frame). numbered f.away.axis 0 (numbers_of c.args.point)) c.frame.ensures))
