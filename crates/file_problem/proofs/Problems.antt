-- An input has one problem.
use Rattle.std.proofs.Common.{◌≡◌, ℕ, List, Option, ap, sym, subst, ◌∙◌}
use Rattle.dxf_entities.specs.declared.layer_line.LayerLine.{LayerLine}
use Rattle.dxf_entities.proofs.KeptLines.{lines_read_are_kept}
use Rattle.dxf_entities.proofs.NearPoints.{ok_value}
use Rattle.file_problem.specs.Inputs.{HasProblem, Input, form_of}
use Rattle.file_problem.proofs.Grids.{one_grid}
use Rattle.solid_model.specs.declared.cell.Axis.{Axis}
use Rattle.solid_model.specs.declared.cell.Axis.TheVariants.{X, Y, Z}
use Rattle.solid_model.specs.Blocks.{AreBlocksOf, BlockNumbers, IsBlocksOf, ProblemParts}
use Rattle.solid_model.specs.Drawings.{drawing_of}
use Rattle.solid_model.specs.Line.{Line}
use Rattle.solid_model.specs.Panels.{GridParts, IsGridOf}
use Rattle.solid_model.specs.PerAxis.{numbers_of}
use Rattle.solid_model.specs.Runs.{IsDrawing}
use Rattle.solid_model.specs.VirtualFaces.{IsVirtual}
use Rattle.solid_model.specs.GridBox.{grid_sizes}
use Rattle.solid_model.proofs.KeptDrawings.{lines_are_drawing}
use Rattle.solid_model.proofs.OneNumbering.{one_numbering}

-- the drawing of its lines keeps what a drawing of three views keeps
pub problem_drawing : (t : Input) (p : ProblemParts) (has : HasProblem t p) → IsDrawing (drawing_of has.lines)
problem_drawing t p has =
    lines_are_drawing t.two has.lines (lines_read_are_kept (form_of t) t.bytes has.lines has.further has.reads) has.shown

-- the blocks of one grid are one numbering
pub one_block_count : (g h : GridParts) → g ≡ h → (numbers others : List (Option ℕ)) (count many : ℕ) → AreBlocksOf g numbers count → AreBlocksOf h others many
    → (numbers ≡ others) × (count ≡ many)
one_block_count g h same numbers others count many are are_too =
    one_numbering (grid_sizes h) (IsVirtual h) numbers others count many (subst (λ k. AreBlocksOf k numbers count) same are) are_too

pub one_blocks : (g h : GridParts) → g ≡ h → (b c : BlockNumbers) → IsBlocksOf g b → IsBlocksOf h c → b ≡ c
one_blocks g h same b c are are_too = λ t. record {
  sizes = record { x = sized X t; y = sized Y t; z = sized Z t };
  numbers = numbered.0 t;
  count = numbered.1 t;
}
  where
    sized : (a : Axis) → numbers_of b.sizes a ≡ numbers_of c.sizes a
    sized a = are.sized a ∙ (λ t. grid_sizes (same t) a) ∙ sym (are_too.sized a)

    numbered : (b.numbers ≡ c.numbers) × (b.count ≡ c.count)
    numbered = one_block_count g h same b.numbers c.numbers b.count c.count are.blocks are_too.blocks

-- two problems of an input are one
pub record AreOneProblem {t : Input} {p q : ProblemParts} (has : HasProblem t p) (has_too : HasProblem t q) : Type 0 where
  pub lines : has.lines ≡ has_too.lines
  pub further : has.further ≡ has_too.further
  pub problem : p ≡ q

pub one_problem : {t : Input} {p q : ProblemParts} (has : HasProblem t p) (has_too : HasProblem t q) → AreOneProblem has has_too
one_problem {t} {p} {q} has has_too =
    let read = ok_value (has.lines, has.further) (has_too.lines, has_too.further) (sym has.reads ∙ has_too.reads) in
    let lines : has.lines ≡ has_too.lines = ap (λ (r : List Line × List LayerLine). r.0) read in
    let grid = one_grid (drawing_of has_too.lines) p.grid q.grid (subst (λ ls. IsGridOf (drawing_of ls) p.grid) lines has.grid) has_too.grid in
    let blocks = one_blocks p.grid q.grid grid p.blocks q.blocks has.blocks has_too.blocks in
    record { lines = lines; further = ap (λ (r : List Line × List LayerLine). r.1) read; problem = λ i. record { grid = grid i; blocks = blocks i } }
