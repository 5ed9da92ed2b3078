-- A cell of a block more, or none.
use Rattle.std.proofs.Common.{◌||◌, ◌&&◌, ◌==◌, Option, ℕ, ap, sym, ◌∙◌}
use Rattle.std.specs.Prelude.{is_some}
use Rattle.line_demands.proofs.AddedSpans.{one_bit}
use Rattle.line_demands.proofs.Gathering.{and_some}
use Rattle.line_demands.proofs.gather.add_cell.Goals as goal
use Rattle.lemmas.specs.Bits.{is_set}

pub returns-in_ok-add_once-in-Some-clause-may : goal.returns-in_ok-add_once-in-Some-clause-may
returns-in_ok-add_once-in-Some-clause-may c = λ k. one_bit c.args.may c.args.depth k c.requires.depth
    ∙ ap (λ x. is_set c.args.may k || x) (and_some (c.args.depth == k) c.in-Some.block ∙ ap (λ (b : Option ℕ). (c.args.depth == k) && is_some b) (sym c.in-Some.is))
