-- The bits so far.
use Rattle.lemmas.proofs.FilledWords.{IsFilledBy}
use Rattle.flood.specs.RowWords.{is_told, row_bit}
use Rattle.flood.proofs.row_words.row_word.Given as goal

abbrev pub invariant-loop-x : goal.invariant-loop-x
invariant-loop-x g l = IsFilledBy (row_bit (g.W.Walls.sizes l.walls) (is_told (g.W.Walls.sizes l.walls) (g.W.Walls.stands l.walls) l.told) l.cell.y l.cell.z) l.word l.x
