-- A bit of both numbers is a bit of one of them.
use Rattle.std.proofs.Common.{sym, ◌∙◌}
use Rattle.std.proofs.lemmas.Bool.{and_parts, or_left}
use Rattle.lemmas.specs.Bits.{is_set}
use Rattle.lemmas.proofs.WordBits.{set_both, set_either}
use Rattle.stage_tests.proofs.columns_met.between.Goals as goal

pub returns : goal.returns
returns c = λ k set.
    let one = c.args.one in
    let other = c.args.other in
    set_either one other k ∙ or_left (is_set one k) (is_set other k) (and_parts (is_set one k) (is_set other k) (sym (set_both one other k) ∙ set)).0
