-- The words so far.
use Rattle.std.proofs.Common.{◌≤◌, vec_capacity}
use Rattle.lemmas.proofs.Pushed.{HoldsSoFar}
use Rattle.flood.specs.RowWords.{is_told}
use Rattle.flood.proofs.RowCells.{IsRowWord}
use Rattle.flood.proofs.row_words.row_words.Given as goal

abbrev pub invariant-loop-row : goal.invariant-loop-row
invariant-loop-row g l = record {
  told : HoldsSoFar (IsRowWord (g.W.Walls.sizes l.walls) (is_told (g.W.Walls.sizes l.walls) (g.W.Walls.stands l.walls) l.told)) l.words.items l.row;
  room : l.rows ≤ vec_capacity l.words;
}
