-- A small file, and a line, written out by hand.
use Rattle.std.specs.Prelude.{ℕ, List, [], ◌∷◌, ◌++◌, pos, negsuc, codes}
use Rattle.solid_model.specs.declared.cell.Cell.{Cell}
use Rattle.solid_model.specs.declared.frame.View.TheVariants.{Top}
use Rattle.solid_model.specs.declared.runs.Run.{Run}
use Rattle.solid_model.specs.declared.segment.Style.TheVariants.{Dashed, Solid}
use Rattle.solid_model.specs.Cells.{cell_at}
use Rattle.solid_model.specs.Line.{Line}

-- a brick, 1 wide along x, 2 along y and 3 high
abbrev pub brick : List Cell
brick = cell_at 0 0 0 ∷ cell_at 0 1 0 ∷ cell_at 0 0 1 ∷ cell_at 0 1 1 ∷ cell_at 0 0 2 ∷ cell_at 0 1 2 ∷ []

-- Its file. Each view is a rectangle: its lower and its upper side, then its left and its right one.
abbrev pub brick_file : List ℕ
brick_file = codes "0\nSECTION\n2\nENTITIES\n"
    ++ codes "0\nLINE\n8\nFRONT\n6\nCONTINUOUS\n10\n0\n20\n0\n30\n0\n11\n1\n21\n0\n31\n0\n"
    ++ codes "0\nLINE\n8\nFRONT\n6\nCONTINUOUS\n10\n0\n20\n3\n30\n0\n11\n1\n21\n3\n31\n0\n"
    ++ codes "0\nLINE\n8\nFRONT\n6\nCONTINUOUS\n10\n0\n20\n0\n30\n0\n11\n0\n21\n3\n31\n0\n"
    ++ codes "0\nLINE\n8\nFRONT\n6\nCONTINUOUS\n10\n1\n20\n0\n30\n0\n11\n1\n21\n3\n31\n0\n"
    ++ codes "0\nLINE\n8\nTOP\n6\nCONTINUOUS\n10\n0\n20\n13\n30\n0\n11\n1\n21\n13\n31\n0\n"
    ++ codes "0\nLINE\n8\nTOP\n6\nCONTINUOUS\n10\n0\n20\n15\n30\n0\n11\n1\n21\n15\n31\n0\n"
    ++ codes "0\nLINE\n8\nTOP\n6\nCONTINUOUS\n10\n0\n20\n13\n30\n0\n11\n0\n21\n15\n31\n0\n"
    ++ codes "0\nLINE\n8\nTOP\n6\nCONTINUOUS\n10\n1\n20\n13\n30\n0\n11\n1\n21\n15\n31\n0\n"
    ++ codes "0\nLINE\n8\nSIDE\n6\nCONTINUOUS\n10\n11\n20\n0\n30\n0\n11\n13\n21\n0\n31\n0\n"
    ++ codes "0\nLINE\n8\nSIDE\n6\nCONTINUOUS\n10\n11\n20\n3\n30\n0\n11\n13\n21\n3\n31\n0\n"
    ++ codes "0\nLINE\n8\nSIDE\n6\nCONTINUOUS\n10\n11\n20\n0\n30\n0\n11\n11\n21\n3\n31\n0\n"
    ++ codes "0\nLINE\n8\nSIDE\n6\nCONTINUOUS\n10\n13\n20\n0\n30\n0\n11\n13\n21\n3\n31\n0\n"
    ++ codes "0\nENDSEC\n0\nEOF\n"

-- a hidden line of the top view, from (-3, 12) to (25, 12)
abbrev pub hidden_line : Line
hidden_line = record { of = Top; style = Dashed; x0 = negsuc 2; y0 = pos 12; x1 = pos 25; y1 = pos 12; number = 0 }

-- the lower side of the top view of a cube of 5
abbrev pub lower_side : Run
lower_side = record { at = pos 0; from = pos 0; to = pos 5; style = Solid }
