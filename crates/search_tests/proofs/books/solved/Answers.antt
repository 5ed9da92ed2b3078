use Rattle.std.proofs.Common.{sym, subst}
use Rattle.std.specs.Arc.{arc_value}
use Rattle.solid_model.specs.Blocks.{ProblemParts, IsBlocksOf}
use Rattle.solid_model.specs.SearchEnds.{SearchEnd}
use Rattle.solid_model.specs.Solutions.{AreSolutions}
use Rattle.search_tests.proofs.Solved.{ends_solve}
use Rattle.search_tests.proofs.books.solved.Goals as goal

pub returns : goal.returns
returns c =
    let p : ProblemParts = arc_value c.args.problem.now in
    let blocks : IsBlocksOf p.grid p.blocks = subst (λ (q : ProblemParts). IsBlocksOf q.grid q.blocks) c.deref.ensures c.known.ensures.blocks in
    subst (λ (e : SearchEnd). AreSolutions p e.solids) (sym c.result.view_is) (ends_solve p blocks _ _ _ _ c.in_ok-solve_alone.ensures)
