-- The lines through points, and how many of them are kept.
use Rattle.std.specs.Prelude.{ℕ, ◌-◌, Bool, true, ◌&&◌, ◌||◌, List, [], ◌∷◌, ◌++◌, length, nat_le, Result, Ok, Err, if◌then◌else◌}
use Rattle.std.specs.Ordering.{int_eq}
use Rattle.solid_model.specs.declared.fault.Fault.{Fault}
use Rattle.solid_model.specs.declared.fault.Fault.TheVariants as fault
use Rattle.solid_model.specs.Limits.{most_lines}
use Rattle.dxf_entities.specs.declared.layer_line.LayerLine.{LayerLine}
use Rattle.dxf_entities.specs.declared.pen.Pen.{Pen}
use Rattle.dxf_entities.specs.Known.{Point}
use Rattle.dxf_entities.specs.Steps.{◌>>=◌}

-- each point differs in one coordinate at most from the one before it
abbrev pub are_straight_from : Point → List Point → Bool
are_straight_from a [] = true
are_straight_from a (b ∷ ps) = (int_eq a.x b.x || int_eq a.y b.y) && are_straight_from b ps

abbrev pub are_straight : List Point → Bool
are_straight [] = true
are_straight (a ∷ ps) = are_straight_from a ps

-- the line from a point to another, of an entity that begins on this line
abbrev pub line_between : ℕ → Pen → Point → Point → LayerLine
line_between line pen a b = record {
  layer = pen.layer;
  line = record {
    of = pen.layer.view;
    style = pen.style;
    x0 = a.x;
    y0 = a.y;
    x1 = b.x;
    y1 = b.y;
    number = line;
  };
}

-- the lines from each point to the next
abbrev pub lines_from : ℕ → Pen → Point → List Point → List LayerLine
lines_from line pen a [] = []
lines_from line pen a (b ∷ ps) = line_between line pen a b ∷ lines_from line pen b ps

abbrev pub lines_through : ℕ → Pen → List Point → List LayerLine
lines_through line pen [] = []
lines_through line pen (a ∷ ps) = lines_from line pen a ps

-- lines are kept where so many are kept already and there may be as many more
abbrev pub kept : ℕ → ℕ → List LayerLine → Result (List LayerLine) Fault
kept count line ls = if nat_le (length ls) (most_lines - count) then Ok ls
    else Err (fault.TooManyLines line)

-- the lines through points, level or upright, that are kept
abbrev pub drawn_along : ℕ → ℕ → Pen → List Point → Result (List LayerLine) Fault
drawn_along count line pen points =
    if are_straight points then kept count line (lines_through line pen points)
    else Err (fault.Oblique line)

-- these lines, and then those through points
abbrev pub added_along : ℕ → Pen → List LayerLine → List Point → Result (List LayerLine) Fault
added_along line pen lines points =
    drawn_along (length lines) line pen points >>= λ more. Ok (lines ++ more)

-- the same where finding the points may have a fault
abbrev pub added_through : ℕ → Pen → List LayerLine → Result (List Point) Fault → Result (List LayerLine) Fault
added_through line pen lines points = points >>= added_along line pen lines
