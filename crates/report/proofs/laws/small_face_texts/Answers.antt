-- Each text comes out of its definition.
use Rattle.std.proofs.Common.{refl}
use Rattle.std.specs.Fmt.{digits}
use Rattle.report.proofs.laws.small_face_texts.Goals as goal

pub returns-clause-minus_x : goal.returns-clause-minus_x
unfolding digits
returns-clause-minus_x c = refl

pub returns-clause-plus_x : goal.returns-clause-plus_x
unfolding digits
returns-clause-plus_x c = refl

pub returns-clause-minus_y : goal.returns-clause-minus_y
unfolding digits
returns-clause-minus_y c = refl

pub returns-clause-plus_y : goal.returns-clause-plus_y
unfolding digits
returns-clause-plus_y c = refl

pub returns-clause-minus_z : goal.returns-clause-minus_z
unfolding digits
returns-clause-minus_z c = refl

pub returns-clause-plus_z : goal.returns-clause-plus_z
unfolding digits
returns-clause-plus_z c = refl

pub returns-clause-half : goal.returns-clause-half
unfolding digits
returns-clause-half c = refl

pub returns-clause-decimals : goal.returns-clause-decimals
unfolding digits
returns-clause-decimals c = refl
