-- What is known of the points that an entity gives.
use Rattle.std.specs.Prelude.{ℤ, Bool, List, [], Option, None, IfSome}
use Rattle.solid_model.specs.Line.{IsNear}
use Rattle.lemmas.specs.Lists.{Each}

-- a point of the sheet
pub record Point : Type 0 where
  pub x : ℤ
  pub y : ℤ

-- its coordinates are near
pub record IsNearPoint (p : Point) : Type 0 where
  pub x : IsNear p.x
  pub y : IsNear p.y

-- the coordinates that are known of a line's start (x0, y0) and end (x1, y1)
pub record Known : Type 0 where
  pub x0 : Option ℤ
  pub y0 : Option ℤ
  pub x1 : Option ℤ
  pub y1 : Option ℤ

-- no coordinate is known
abbrev pub none_known : Known
none_known = record { x0 = None; y0 = None; x1 = None; y1 = None }

-- each that is known is near
pub record AreNear (c : Known) : Type 0 where
  pub x0 : IfSome c.x0 IsNear
  pub y0 : IfSome c.y0 IsNear
  pub x1 : IfSome c.x1 IsNear
  pub y1 : IfSome c.y1 IsNear

-- What is known of a polyline: its vertices so far that have both coordinates; the x coordinate of one
-- more that lacks the other; and whether it is closed, where that is told.
pub record KnownOutline : Type 0 where
  pub vertices : List Point
  pub begun : Option ℤ
  pub closed : Option Bool

-- it has no vertex yet
abbrev pub no_vertex : KnownOutline
no_vertex = record { vertices = []; begun = None; closed = None }

-- each of its coordinates is near
pub record IsNearOutline (o : KnownOutline) : Type 0 where
  pub vertices : Each IsNearPoint o.vertices
  pub begun : IfSome o.begun IsNear
