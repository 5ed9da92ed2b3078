-- A bit of the first number is one of both together.
use Rattle.std.proofs.Common.{ap, sym, ◌∙◌, bit_or}
use Rattle.std.proofs.lemmas.Bool.{or_left, eqb-true}
use Rattle.lemmas.specs.Bits.{is_set}
use Rattle.lemmas.proofs.WordBits.{set_either}
use Rattle.stage_tests.proofs.columns_met.is_within.Goals as goal

pub returns : goal.returns
returns c = λ same k set.
    let full = c.args.full in
    let may = c.args.may in
    sym (ap (λ n. is_set n k) (eqb-true (bit_or full may) may same)) ∙ set_either full may k ∙ or_left (is_set full k) (is_set may k) set
