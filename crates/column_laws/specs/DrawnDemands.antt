-- What a line demands, told by the drawing of solids.
use Rattle.std.specs.Prelude.{◌≡◌, Bool, ℕ, List, Option, Some, pos}
use Rattle.solid_model.specs.declared.cell.Cell.{Cell}
use Rattle.solid_model.specs.declared.line_id.LineId.{LineId}
use Rattle.solid_model.specs.Blocks.{ProblemParts}
use Rattle.solid_model.specs.Cells.{is_full}
use Rattle.solid_model.specs.Demands.{known_cell, line_style}
use Rattle.solid_model.specs.Draws.{Draws}
use Rattle.solid_model.specs.Frames.{frame_of}
use Rattle.solid_model.specs.Segments.{segment_at}

-- Some cells meet a line: each grid cell counted as a unit cell, they agree with all that is known of their blocks, and they draw
-- the line's style on its segment.
abbrev pub Meets : ProblemParts → (ℕ → Option Bool) → LineId → List Cell → Type 0
Meets p known l s = ((n : Cell) (value : Bool) → known_cell p.blocks known n ≡ Some value → is_full s n ≡ value)
    × Draws (frame_of l.view) (is_full s) (segment_at l.view l.upright (pos l.cell) (pos l.at)) (line_style p.grid l)
