-- What is listed is put into the stated order, and is the end of the search.
use Rattle.std.proofs.Common.{◌≡◌, Some, sym, ◌∙◌, arith}
use Rattle.std.proofs.lemmas.List.Sorted.{length_permutation}
use Rattle.search_end.proofs.DeskAnswers.{answer_once, answer_long, answer_few, answer_covers, answer_ends, answer_solutions}
use Rattle.search_end.proofs.StoppedDesks.{moved_solutions}
use Rattle.search_end.proofs.ending.end_at.Goals as goal

pub in_order-requires-clause-lengths : goal.in_order-requires-clause-lengths
in_order-requires-clause-lengths c =
    let grid = c.known.ensures.grid in
    answer_long c.args.problem.now c.args.limits c.known.ensures.blocks grid c.args.desk c.requires.problem c.requires.limits c.opened-opened.ensures.kept c.args.list.items c.requires.list

pub in_order-requires-clause-once : goal.in_order-requires-clause-once
in_order-requires-clause-once c =
    let grid = c.known.ensures.grid in
    answer_once c.args.problem.now c.args.limits c.known.ensures.blocks grid c.args.desk c.requires.problem c.requires.limits c.opened-opened.ensures.kept c.args.list.items c.requires.list

pub returns-in-Some-clause-end : goal.returns-in-Some-clause-end
returns-in-Some-clause-end c =
    let p = c.args.problem.now in
    let d = c.args.desk in
    let grid = c.known.ensures.grid in
    let kept = c.opened-opened.ensures.kept in
    let solids = c.in_ok-solids.solids.items in
    let moved = c.in_ok-solids.ensures.permutation in
    let ended : d.end ≡ Some c.in-Some.kind = sym c.end.ensures.end ∙ c.in-Some.is in (
      (rw (c.opened-opened.ensures.opened) (answer_ends p c.args.limits c.known.ensures.blocks grid d c.requires.problem c.requires.limits kept c.args.list.items c.requires.list solids moved
          c.in-Some.kind ended c.in_ok-solids.ensures.ordered)),
      record {
        problem = c.requires.problem;
        within = c.requires.limits;
        kept = kept;
        end = ended;
        opened = sym c.opened-opened.ensures.opened;
        listed = answer_covers p c.args.limits c.known.ensures.blocks grid d c.requires.problem c.requires.limits kept c.args.list.items c.requires.list solids moved;
      },
    )

pub returns-in-None-clause-end : goal.returns-in-None-clause-end
returns-in-None-clause-end c =
    let p = c.args.problem.now in
    let d = c.args.desk in
    let grid = c.known.ensures.grid in
    let kept = c.opened-opened.ensures.kept in
    let list = c.args.list.items in
    let solids = c.in_ok-solids.solids.items in
    let moved = c.in_ok-solids.ensures.permutation in
    let ordered = c.in_ok-solids.ensures.ordered in
    let few = answer_few p c.args.limits c.known.ensures.blocks grid d c.requires.problem c.requires.limits kept list c.requires.list in
    record {
      problem = c.requires.problem;
      within = c.requires.limits;
      kept = kept;
      going = sym c.end.ensures.end ∙ c.in-None.is;
      solutions = moved_solutions p list solids moved ordered (answer_solutions p c.args.limits c.known.ensures.blocks grid d c.requires.problem c.requires.limits kept list c.requires.list);
      ordered = ordered;
      few = omega (arith, few, length_permutation list solids moved);
      listed = answer_covers p c.args.limits c.known.ensures.blocks grid d c.requires.problem c.requires.limits kept list c.requires.list solids moved;
    }
