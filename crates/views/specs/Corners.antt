-- Where a view begins on the sheet.
use Rattle.std.specs.Prelude.{◌≡◌, ◌≢◌, List, [], ◌+ℤ◌}
use Rattle.std.specs.Int.{int_min}
use Rattle.solid_model.specs.declared.frame.View.{View}
use Rattle.solid_model.specs.declared.segment.Segment.{Segment}
use Rattle.solid_model.specs.Drawings.{covering_lines, least_right, least_up}
use Rattle.solid_model.specs.Line.{Line}
use Rattle.views.specs.declared.corner.Corner.{Corner}

-- where the view begins, which has a line with length
pub record IsCornerOf (v : View) (ls : List Line) (c : Corner) : Type 0 where
  pub shown : covering_lines v ls ≢ []
  pub right : c.right ≡ least_right v ls
  pub up : c.up ≡ least_up v ls

-- one line's own least coordinates
pub record IsCornerOfLine (l : Line) (c : Corner) : Type 0 where
  pub right : c.right ≡ int_min l.x0 l.x1
  pub up : c.up ≡ int_min l.y0 l.y1

-- c has the least of each coordinate of a and b
pub record IsLeastOf (a b c : Corner) : Type 0 where
  pub right : c.right ≡ int_min a.right b.right
  pub up : c.up ≡ int_min a.up b.up

-- the segment of the sheet that a segment of the view is, when the view's corner comes to 0
abbrev pub from_corner : Corner → Segment → Segment
from_corner c g = record g { right = g.right +ℤ c.right; up = g.up +ℤ c.up }
