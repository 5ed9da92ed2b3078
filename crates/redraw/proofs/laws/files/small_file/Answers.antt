use Rattle.std.proofs.Common.{refl}
use Rattle.std.specs.Fmt.{digits}
use Rattle.redraw.proofs.BrickFile.{brick_is_file}
use Rattle.redraw.proofs.laws.files.small_file.Goals as goal

pub returns-clause-brick : goal.returns-clause-brick
returns-clause-brick c = brick_is_file

pub returns-clause-hidden : goal.returns-clause-hidden
unfolding digits
returns-clause-hidden c = refl

pub returns-clause-half : goal.returns-clause-half
unfolding digits
returns-clause-half c = refl
