-- What is read is spelled so, and what is spelled so is read.
use Rattle.dxf_groups.proofs.NumeralGrammar.{read_is_spelled, spelled_is_read}
use Rattle.dxf_groups.proofs.laws.numerals_are_spelled_so.Goals as goal

pub returns-clause-read : goal.returns-clause-read
returns-clause-read c = read_is_spelled

pub returns-clause-spelled : goal.returns-clause-spelled
returns-clause-spelled c = spelled_is_read
