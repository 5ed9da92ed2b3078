use Rattle.redraw.proofs.OneFile.{one_file, matching-draw}
use Rattle.redraw.proofs.laws.files.matching_solids_have_one_file.Goals as goal

pub returns : goal.returns
returns c = λ drawing shown s t h k. one_file s t (matching-draw drawing shown s t h k)
