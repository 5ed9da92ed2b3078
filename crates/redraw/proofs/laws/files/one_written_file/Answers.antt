use Rattle.redraw.proofs.OneFile.{one_file, same_cells-draw}
use Rattle.redraw.proofs.laws.files.one_written_file.Goals as goal

pub returns : goal.returns
returns c = λ s t same. one_file s t (same_cells-draw s t same)
