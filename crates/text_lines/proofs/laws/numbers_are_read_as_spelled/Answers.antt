use Rattle.std.proofs.lemmas.Bool.{lt-ltb, ltb-true}
use Rattle.text_lines.proofs.NumberWords.{number_read, number_written}
use Rattle.text_lines.proofs.laws.numbers_are_read_as_spelled.Goals as goal

pub returns-clause-number : goal.returns-clause-number
returns-clause-number c = λ n h. number_read n (ltb-true n 10000000000 h)

pub returns-clause-only : goal.returns-clause-only
returns-clause-only c = λ word n e. let (is, short) = number_written word n e in (is, lt-ltb n 10000000000 short)
