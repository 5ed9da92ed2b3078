-- How a written file reads.
use Rattle.std.specs.Prelude.{◌≡◌, ◌≤◌, ◌+◌, false, ℕ, List, [], ◌∷◌, length, pos, ◌≤ℤ◌, Ok}
use Rattle.solid_model.specs.declared.cell.Cell.{Cell}
use Rattle.solid_model.specs.declared.frame.View.{View}
use Rattle.solid_model.specs.Drawings.{drawing_of, IsShown}
use Rattle.solid_model.specs.DrawnStyle.{solid_drawing}
use Rattle.solid_model.specs.Limits.{farthest_on_sheet, most_file_bytes}
use Rattle.solid_model.specs.Line.{Line}
use Rattle.solid_model.specs.Moved.{IsMovedToZero}
use Rattle.dxf_entities.specs.Reading.{read_of}

-- lines, the first of which begins at this line of a file, and each of which takes eighteen lines there
abbrev pub numbered_from : ℕ → List Line → List Line
numbered_from n [] = []
numbered_from n (l ∷ ls) = record l { number = n } ∷ numbered_from (n + 18) ls

-- the coordinates of a line are at most 1,000,000,000
pub record IsInReach (l : Line) : Type 0 where
  pub x0 : l.x0 ≤ℤ pos farthest_on_sheet
  pub y0 : l.y0 ≤ℤ pos farthest_on_sheet
  pub x1 : l.x1 ≤ℤ pos farthest_on_sheet
  pub y1 : l.y1 ≤ℤ pos farthest_on_sheet

-- A file reads back, with so many decimals, as the drawing of a solid: it isn't too long, it reads as lines, these show
-- something in each view, and their drawing is that of the solid, moved to least coordinates 0.
pub record ReadsBack (decimals : ℕ) (s : List Cell) (text : List ℕ) : Type 0 where
  pub short : length text ≤ most_file_bytes
  pub lines : List Line
  pub reads : read_of decimals text ≡ Ok lines
  pub shown : IsShown false lines
  pub drawing : (v : View) → IsMovedToZero (solid_drawing s) (drawing_of lines) v
