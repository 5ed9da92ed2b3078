-- Bit by bit.
use Rattle.std.proofs.Common.{rules}
use Rattle.lemmas.proofs.WordBits.{set_without}
use Rattle.line_demands.proofs.known.without.Goals as goal

pub returns : goal.returns
returns c = λ k. set_without c.args.one c.args.other k (search rules) (search rules)
