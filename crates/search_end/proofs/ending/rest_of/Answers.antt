-- What a desk has found has no repeat; what is listed are solutions of the problem.
use Rattle.std.proofs.Common.{◌≡◌, ◌≢◌, ◌++◌, ◌-◌, List, Bool, length, take, sym, ap, subst, rules, arith, length-append, length-take}
use Rattle.solid_model.specs.Blocks.{ProblemParts, IsBlocksOf}
use Rattle.lemmas.specs.Lists.{Ascends}
use Rattle.search_end.specs.Answers.{IsAnswerList, new_ones}
use Rattle.search_end.proofs.DeskAnswers.{answer_solutions}
use Rattle.search_end.proofs.DeskFound.{found_once}
use Rattle.search_end.proofs.StoppedDesks.{found_alone}
use Rattle.search_end.proofs.ending.rest_of.Goals as goal

pub left_over-requires : goal.left_over-requires
left_over-requires c =
    let d = c.args.desk.now in
    let blocks = subst (λ (q : ProblemParts). IsBlocksOf q.grid q.blocks) (sym c.requires.problem) c.known.ensures.blocks in
    record { once = subst (Ascends ◌≢◌) (sym c.found.ensures.found) (found_once d c.found.ensures.kept blocks) }

pub returns-clause-solutions : goal.returns-clause-solutions
returns-clause-solutions c =
    let d = c.args.desk.now in
    let p = c.args.problem.now in
    let handed = c.args.handed.now.choices in
    let all : List (List Bool) = handed ++ c.in_ok-left.left.items in
    let grid = c.known.ensures.grid in
    let left : c.in_ok-left.left.items ≡ take (c.args.limits.solids - length handed) (new_ones handed d.found) = search rules in
    let h : IsAnswerList p c.args.limits d.found all = record { handed = handed; solutions = c.requires.handed.0; few = c.requires.handed.1; is = ap (λ (l : List (List Bool)). handed ++ l) left } in (
      answer_solutions p c.args.limits c.known.ensures.blocks grid d c.requires.problem c.requires.limits c.found.ensures.kept all h,
      omega (arith, c.requires.handed.1, length-append handed c.in_ok-left.left.items, ap length left, length-take (c.args.limits.solids - length handed) (new_ones handed d.found)),
    )

pub returns-clause-all : goal.returns-clause-all
returns-clause-all c none =
    let d = c.args.desk.now in
    let handed = c.args.handed.now.choices in
    let blocks = subst (λ (q : ProblemParts). IsBlocksOf q.grid q.blocks) (sym c.requires.problem) c.known.ensures.blocks in
    let left : c.in_ok-left.left.items ≡ take (c.args.limits.solids - length handed) (new_ones handed d.found) = search rules in
    found_alone d c.found.ensures.kept blocks c.args.limits c.requires.limits handed (handed ++ c.in_ok-left.left.items) none (ap (λ (l : List (List Bool)). handed ++ l) left)
