-- Each comes out of the definitions by computing.
use Rattle.std.proofs.Common.{refl}
use Rattle.file_problem.proofs.laws.small_boxes.Goals as goal

pub returns : goal.returns
returns c = record {
  front = λ panels area. refl;
  front_end = λ panels area. refl;
  rear_beyond = λ panels area. refl;
  bottom = λ panels area. refl;
  side = λ panels area. refl;
  left_end = λ panels area. refl;
  whole = λ panels. refl;
}
