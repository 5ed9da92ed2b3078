-- The next page is a part of what is published, behind what was handed out.
use Rattle.std.proofs.Common.{◌≤◌, ◌-◌, [], length, sym, ap, subst, rules}
use Rattle.std.specs.Arc.{arc_value}
use Rattle.search_run.specs.HandedOut.{IsReadUpTo}
use Rattle.search_end.proofs.PageCalls.{paged}
use Rattle.search_run.proofs.ReadPages.{read_solutions, read_on, within_room}
use Rattle.search_run.proofs.paging.page_new.Goals as goal

pub returns-in_default-clause-out : goal.returns-in_default-clause-out
returns-in_default-clause-out g c before out =
    paged before (g.P.PageOut.calls c.args.pages.now) (g.P.PageOut.calls c.args.pages.now) c.args.handed.now [] out (arc_value c.args.shop.now.problem.now) c.args.shop.now.limits.solids
    (read_solutions (arc_value c.args.shop.now.problem.now) c.args.reader.now c.args.handed.now.choices c.requires.read, c.requires.few)

pub returns-in-Ok-hand_out-clause-read : goal.returns-in-Ok-hand_out-clause-read
returns-in-Ok-hand_out-clause-read g c =
    subst (IsReadUpTo (arc_value c.args.shop.now.problem.now) c.page.new.self) (sym c.in-Ok-hand_out.ensures.choices)
    (read_on (arc_value c.args.shop.now.problem.now) c.args.reader.now c.page.new.self c.args.handed.now.choices c.in-Ok.page.solids.items c.in-Ok.ensures.0 _ c.min-most.result c.requires.read c.in-Ok.ensures.1
    (ap length c.choices-from.ensures) c.in-Ok.ensures.2.part)

pub returns-in-Err-clause-out : goal.returns-in-Err-clause-out
returns-in-Err-clause-out g c =
    let handed = c.args.handed.now.choices in
    let room : c.min-most.result ≤ c.args.shop.now.limits.solids - length handed = search rules in
    c.in-Err.ensures.out (arc_value c.args.shop.now.problem.now) c.args.shop.now.limits.solids (
      read_solutions (arc_value c.args.shop.now.problem.now) c.page.new.self _
          (read_on (arc_value c.args.shop.now.problem.now) c.args.reader.now c.page.new.self handed c.in-Ok.page.solids.items c.in-Ok.ensures.0 _ c.min-most.result c.requires.read c.in-Ok.ensures.1
          (ap length c.choices-from.ensures) c.in-Ok.ensures.2.part),
      within_room c.args.shop.now.limits.solids c.min-most.result _ handed c.in-Ok.page.solids.items c.in-Ok.ensures.0.solids c.in-Ok.ensures.2.part room
          c.requires.few,
    )
