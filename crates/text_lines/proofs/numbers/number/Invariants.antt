use Rattle.std.proofs.Common.{◌≡◌, true, take}
use Rattle.std.specs.Str.{all_ascii_digits}
use Rattle.text_lines.specs.Numbers.{value_behind}
use Rattle.text_lines.proofs.numbers.number.Given as goal

abbrev pub invariant-loop-place : goal.invariant-loop-place
invariant-loop-place l = record {
  value : l.number ≡ value_behind 0 (take l.place l.word);
  digits : all_ascii_digits (take l.place l.word) ≡ true;
}
