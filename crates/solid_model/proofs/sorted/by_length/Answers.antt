-- Of equally long choices the answer is that of the stated order.
use Rattle.std.proofs.Common.{◌≡◌, length, sym, ◌∙◌}
use Rattle.solid_model.proofs.SortedChoices.{compared}
use Rattle.solid_model.proofs.sorted.by_length.Goals as goal

pub returns-then-len : goal.returns-then-len
returns-then-len c =
    let same : length c.args.a.now ≡ length c.args.b.now = sym c.len.ensures ∙ c.if-len.true ∙ c.len-2.ensures in
    compared c.args.a.now c.args.b.now c.compare.result same c.compare.ensures.less c.compare.ensures.equal c.compare.ensures.greater
