-- A sign and the digits are a numeral, whose magnitude is within reach.
use Rattle.read_back.proofs.Spellings.{printed_is_read}
use Rattle.read_back.proofs.laws.printed_numbers_are_read.Goals as goal

pub returns : goal.returns
returns c = printed_is_read
