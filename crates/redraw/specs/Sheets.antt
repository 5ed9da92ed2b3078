-- What the lines of a written sheet keep.
use Rattle.std.specs.Prelude.{◌≡◌, ◌≢◌, ◌⊎◌, pos, ◌≤ℤ◌}
use Rattle.solid_model.specs.declared.segment.Style.TheVariants.{Blank}
use Rattle.solid_model.specs.Line.{Line}

-- none of a line's coordinates is negative
pub record IsNotNegative (l : Line) : Type 0 where
  pub x0 : pos 0 ≤ℤ l.x0
  pub y0 : pos 0 ≤ℤ l.y0
  pub x1 : pos 0 ≤ℤ l.x1
  pub y1 : pos 0 ≤ℤ l.y1

-- a line is level or upright, and it is drawn
pub record IsDrawnLine (l : Line) : Type 0 where
  pub straight : (l.x0 ≡ l.x1) ⊎ (l.y0 ≡ l.y1)
  pub drawn : l.style ≢ Blank
