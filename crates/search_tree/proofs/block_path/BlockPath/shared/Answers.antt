-- As many as all that is said begins with, if they are values of the present prefix.
use Rattle.std.proofs.Common.{List, Bool, take, sym, ◌∙◌, ap, arith}
use Rattle.std.proofs.lemmas.List.{take-take}
use Rattle.std.proofs.lemmas.List.Sums.{common_prefix_len-le}
use Rattle.lemmas.specs.Truth.{agree}
use Rattle.lemmas.proofs.BitChanges.{shared_taken}
use Rattle.search_tree.specs.BlockPaths.{PathParts}
use Rattle.search_tree.proofs.block_path.BlockPath.shared.Goals as goal

pub returns-clause-within : goal.returns-clause-within
returns-clause-within c =
    let most = common_prefix_len-le agree c.self.inside.said c.args.piece.now in
    omega (arith, most.1, c.shared.ensures, c.min.ensures)

pub returns-clause-same : goal.returns-clause-same
returns-clause-same c =
    let said : List Bool = c.self.inside.said in
    let count = c.min.result in
    ap (λ (v : PathParts). take count v.values) (sym c.self.view_is)
    ∙ take-take count c.self.inside.depth said (omega (arith, c.min.ensures, c.from.ensures))
    ∙ shared_taken said c.args.piece.now count (omega (arith, c.shared.ensures, c.min.ensures))
