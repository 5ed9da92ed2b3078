-- Bit by bit.
use Rattle.std.proofs.Common.{◌||◌, ap₂, ◌∙◌}
use Rattle.lemmas.proofs.WordBits.{set_either}
use Rattle.line_demands.proofs.known.can_differ.Goals as goal

pub returns : goal.returns
returns c = λ k. set_either c.without.result c.without-2.result k ∙ ap₂ ◌||◌ (c.without.ensures k) (c.without-2.ensures k)
