-- A bit of both numbers is a bit of the second one.
use Rattle.std.proofs.Common.{sym, ◌∙◌}
use Rattle.std.proofs.lemmas.Bool.{and_parts}
use Rattle.lemmas.specs.Bits.{is_set}
use Rattle.lemmas.proofs.WordBits.{set_both}
use Rattle.stage_tests.proofs.drawn_columns.known.Goals as goal

pub returns : goal.returns
returns c = λ k set. (and_parts (is_set c.depths.result k) (is_set c.depths-may.result k) (sym (set_both c.depths.result c.depths-may.result k) ∙ set)).1
