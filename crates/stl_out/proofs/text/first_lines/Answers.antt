-- Each line is written out.
use Rattle.std.proofs.Common.{refl}
use Rattle.std.specs.Fmt.{digits}
use Rattle.stl_out.specs.StlText.{numbers_text}
use Rattle.stl_out.proofs.text.first_lines.Goals as goal

pub returns-in-MinusX-clause-text : goal.returns-in-MinusX-clause-text
unfolding digits numbers_text
returns-in-MinusX-clause-text c = rw c.in-MinusX.is refl

pub returns-in-PlusX-clause-text : goal.returns-in-PlusX-clause-text
unfolding digits numbers_text
returns-in-PlusX-clause-text c = rw c.in-PlusX.is refl

pub returns-in-MinusY-clause-text : goal.returns-in-MinusY-clause-text
unfolding digits numbers_text
returns-in-MinusY-clause-text c = rw c.in-MinusY.is refl

pub returns-in-PlusY-clause-text : goal.returns-in-PlusY-clause-text
unfolding digits numbers_text
returns-in-PlusY-clause-text c = rw c.in-PlusY.is refl

pub returns-in-MinusZ-clause-text : goal.returns-in-MinusZ-clause-text
unfolding digits numbers_text
returns-in-MinusZ-clause-text c = rw c.in-MinusZ.is refl

pub returns-in-PlusZ-clause-text : goal.returns-in-PlusZ-clause-text
unfolding digits numbers_text
returns-in-PlusZ-clause-text c = rw c.in-PlusZ.is refl
