-- What is full for certain may be full.
use Rattle.std.proofs.Common.{sym, ◌∙◌}
use Rattle.std.proofs.lemmas.Bool.{and_parts}
use Rattle.lemmas.specs.Bits.{is_set}
use Rattle.lemmas.proofs.WordBits.{set_both}
use Rattle.search_tests.proofs.columns_anew.known.Goals as goal

pub returns : goal.returns
returns c = λ k set. (and_parts (is_set c.args.full k) (is_set c.args.may k) (sym (set_both c.args.full c.args.may k) ∙ set)).1
