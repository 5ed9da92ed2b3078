-- The stroke that a line is in its view.
use Rattle.std.specs.Prelude.{Bool, not, ◌&&◌, ◌-ℤ◌}
use Rattle.std.specs.Int.{int_min, int_max}
use Rattle.std.specs.Ordering.{int_eq}
use Rattle.solid_model.specs.declared.frame.View.{View}
use Rattle.solid_model.specs.Drawings.{same_view}
use Rattle.solid_model.specs.Segments.{along_of, across_of}
use Rattle.solid_model.specs.Line.{Line}
use Rattle.views.specs.declared.corner.Corner.{Corner}
use Rattle.views.specs.declared.strokes.Stroke.{Stroke}

-- the line is level or upright, as is asked, and has length
abbrev pub lies_along : Bool → Line → Bool
lies_along upright l = int_eq (across_of upright l.x0 l.y0) (across_of upright l.x1 l.y1)
    && not (int_eq (along_of upright l.x0 l.y0) (along_of upright l.x1 l.y1))

-- and it is the view's
abbrev pub covers_along : View → Bool → Line → Bool
covers_along v upright l = same_view v l.of && lies_along upright l

-- what it covers in the view, whose corner comes to 0
abbrev pub stroke_of : Corner → Bool → Line → Stroke
stroke_of c upright l = record {
  at = across_of upright l.x0 l.y0 -ℤ across_of upright c.right c.up;
  from = int_min (along_of upright l.x0 l.y0) (along_of upright l.x1 l.y1)
      -ℤ along_of upright c.right c.up;
  to = int_max (along_of upright l.x0 l.y0) (along_of upright l.x1 l.y1)
      -ℤ along_of upright c.right c.up;
  style = l.style;
}
