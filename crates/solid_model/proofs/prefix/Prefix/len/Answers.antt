-- As many as are counted.
use Rattle.std.proofs.Common.{length, sym, ap, ◌∙◌}
use Rattle.lemmas.proofs.KeptBits.{length-first_bits}
use Rattle.solid_model.proofs.prefix.Prefix.len.Goals as goal

pub returns : goal.returns
returns c = sym (length-first_bits c.self.inside.words.items c.self.inside.count) ∙ ap length c.self.view_is
