-- At first nothing is handed out; what then was is handed on.
use Rattle.std.proofs.Common.{ℕ, ◌≤◌, inl, inr, arith}
use Rattle.std.specs.Arc.{arc_value}
use Rattle.tv_base.specs.Faults.{Rose}
use Rattle.search_end.proofs.PageCalls.{none_yet, unpaged}
use Rattle.search_run.proofs.running.run_search.Goals as goal

pub returns-in_default-clause-paged : goal.returns-in_default-clause-paged
returns-in_default-clause-paged g c = unpaged (arc_value c.args.problem) c.args.limits.solids (g.P.PageOut.calls c.args.pages.now)

pub returns-in-Ok-handed-clause-paged : goal.returns-in-Ok-handed-clause-paged
returns-in-Ok-handed-clause-paged g c =
    let before = g.P.PageOut.calls c.args.pages.now in
    c.finish.ensures.paged before (c.in-Ok-handed.ensures.paged.1 before (none_yet before))

pub returns-in-Ok-handed-clause-faults : goal.returns-in-Ok-handed-clause-faults
returns-in-Ok-handed-clause-faults g c =
    let start = g.P.PageOut.faults c.args.pages.now in
    let half = g.P.PageOut.faults c.search_together-handed.new.pages in
    let last = g.P.PageOut.faults c.finish.new.pages in
    let later = c.in-Ok-handed.ensures.faults.0 in
    (omega (arith, later, c.finish.ensures.faults.0), λ e. since start half last later (c.finish.ensures.faults.1 e))
  where
    since : (before mid now : ℕ) → before ≤ mid → Rose mid now → Rose before now
    since before mid now later (inl above) = inl (omega (arith, later, above))
    since before mid now later (inr most) = inr most

pub returns-clause-paged : goal.returns-clause-paged
returns-clause-paged g c =
    let before = g.P.PageOut.calls c.args.pages.now in
    c.in-Err.ensures.paged before (none_yet before)
