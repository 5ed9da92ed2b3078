-- A solid reaches somewhere along each axis, and its drawing has runs, line by line.
use Rattle.redraw.proofs.SomeFile.{some_file}
use Rattle.redraw.proofs.laws.lacking.no_solid_lacks_a_file.Goals as goal

pub returns : goal.returns
returns c s solid decimals none = let file = some_file s solid decimals in none file.0 file.1
