-- As many as both begin with, if it has led so far.
use Rattle.std.proofs.Common.{take, sym, ◌∙◌, ap, arith}
use Rattle.std.proofs.lemmas.List.Sums.{common_prefix_len-le}
use Rattle.lemmas.specs.Truth.{agree}
use Rattle.lemmas.proofs.BitChanges.{shared_taken}
use Rattle.prefix_tree.specs.Nodes.{WayParts}
use Rattle.prefix_tree.proofs.way.Way.shared.Goals as goal

pub returns-clause-within : goal.returns-clause-within
returns-clause-within c =
    let most = common_prefix_len-le agree c.self.inside.values c.args.prefix.now in
    omega (arith, most.1, c.shared.ensures, c.min.ensures)

pub returns-clause-same : goal.returns-clause-same
returns-clause-same c =
    ap (λ (w : WayParts). take c.min.result w.values) (sym c.self.view_is)
    ∙ shared_taken c.self.inside.values c.args.prefix.now c.min.result (omega (arith, c.shared.ensures, c.min.ensures))
