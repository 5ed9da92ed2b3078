-- All that is listed was handed out.
use Rattle.std.proofs.Common.{◌++◌, List, Bool, [], IsPermutation, sym, subst}
use Rattle.std.specs.Arc.{arc_value}
use Rattle.solid_model.specs.Blocks.{ProblemParts}
use Rattle.solid_model.specs.Solutions.{AreSolutions}
use Rattle.search_end.specs.Handed.{AreFewSolutions}
use Rattle.search_end.specs.Stopped.{end_solids}
use Rattle.search_end.proofs.PageCalls.{paged, all_paged}
use Rattle.search_end.proofs.ending.end_search.Goals as goal

pub returns-in_default-clause-paged : goal.returns-in_default-clause-paged
returns-in_default-clause-paged g c before out =
    paged before (g.P.PageOut.calls c.args.pages.now) (g.P.PageOut.calls c.args.pages.now) c.args.handed [] out (arc_value c.args.problem.now) c.args.limits.solids
    c.requires.handed

pub returns-in_default-rest_of-clause-paged : goal.returns-in_default-rest_of-clause-paged
returns-in_default-rest_of-clause-paged g c before out =
    paged before (g.P.PageOut.calls c.args.pages.now) (g.P.PageOut.calls c.args.pages.now) c.args.handed [] out (arc_value c.args.problem.now) c.args.limits.solids
    c.requires.handed

pub returns-in-Ok-end_at-clause-paged : goal.returns-in-Ok-end_at-clause-paged
returns-in-Ok-end_at-clause-paged g c before out =
    all_paged before (g.P.PageOut.calls c.hand_rest.new.pages) (g.P.PageOut.calls c.hand_rest.new.pages) c.hand_rest.new.handed []
    (c.in-Ok-hand_rest.ensures.out before out) (arc_value c.args.problem.now) (end_solids c.in-Ok-end_at.end)
    (subst (AreSolutions (arc_value c.args.problem.now)) (sym c.in-Ok-hand_rest.ensures.choices)
    (subst (λ (p : ProblemParts). AreSolutions p (c.args.handed.choices ++ c.in-Ok-rest_of.left.items)) c.deref.ensures c.in-Ok-rest_of.ensures.solutions.0))
    (subst (λ (xs : List (List Bool)). IsPermutation xs (end_solids c.in-Ok-end_at.end)) c.into_choices-listed.ensures c.in-Ok-end_at.ensures.moved)

pub returns-in-Err-end_at-clause-paged : goal.returns-in-Err-end_at-clause-paged
returns-in-Err-end_at-clause-paged g c before out =
    paged before (g.P.PageOut.calls c.hand_rest.new.pages) (g.P.PageOut.calls c.hand_rest.new.pages) c.hand_rest.new.handed []
    (c.in-Ok-hand_rest.ensures.out before out) (arc_value c.args.problem.now) c.args.limits.solids
    (subst (AreFewSolutions (arc_value c.args.problem.now) c.args.limits.solids) (sym c.in-Ok-hand_rest.ensures.choices)
    (subst (λ (p : ProblemParts). AreFewSolutions p c.args.limits.solids (c.args.handed.choices ++ c.in-Ok-rest_of.left.items)) c.deref.ensures c.in-Ok-rest_of.ensures.solutions))
