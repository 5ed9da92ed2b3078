-- The readers are of the book of the search: so what they tell holds of its problem.
use Rattle.std.proofs.Common.{map, subst, sym, ◌∙◌, ap, arith, not}
use Rattle.std.specs.Arc.{arc_value}
use Rattle.lemmas.specs.Lists.{Each}
use Rattle.solid_model.specs.Blocks.{ProblemParts}
use Rattle.solid_model.specs.Solutions.{AreSolutions}
use Rattle.query_session.specs.Tales.{IsReaderOf}
use Rattle.search_end.specs.Stopped.{end_solids}
use Rattle.session_run.specs.Session.{AreAmong, asks_stop}
use Rattle.session_run.proofs.Told.{last_solutions, stops_if}
use Rattle.session_run.proofs.session.run_session.Goals as goal

pub open_at-requires-clause-workers : goal.open_at-requires-clause-workers
open_at-requires-clause-workers g c = c.requires.workers

pub open_at-requires-clause-readers : goal.open_at-requires-clause-readers
open_at-requires-clause-readers g c = c.requires.scripts

pub tell_together-requires-clause-some : goal.tell_together-requires-clause-some
tell_together-requires-clause-some g c lives within = omega (arith, c.in_ok-readers.ensures.count, c.in_ok-path.ensures.readers, c.requires.scripts.0)

pub tell_together-requires-clause-one_each : goal.tell_together-requires-clause-one_each
tell_together-requires-clause-one_each g c lives within = c.in_ok-readers.ensures.count ∙ c.in_ok-path.ensures.readers

pub end_of-requires : goal.end_of-requires
end_of-requires g c =
    let p = arc_value c.args.problem in
    let reads = subst (λ (q : ProblemParts). Each (IsReaderOf q) c.in_ok-readers.readers.items) c.deref.ensures c.in_ok-readers.ensures.each in
    subst (Each (λ t. AreSolutions p t.last.items)) {y = c.as_slice.result.now} (sym c.as_slice.ensures.value)
    (last_solutions p (map (λ v. v.items) c.args.scripts.now) c.in_ok-tales.tales.items (c.in_ok-tales.ensures p reads))

pub returns : goal.returns
returns g c =
    let p = arc_value c.args.problem in
    let scripts = map (λ v. v.items) c.args.scripts.now in
    let reads = subst (λ (q : ProblemParts). Each (IsReaderOf q) c.in_ok-readers.readers.items) c.deref.ensures c.in_ok-readers.ensures.each in
    record {
      tales = c.in_ok-tales.ensures p reads;
      end = c.in_ok-end.ensures.end;
      stopped = λ stopped. stops_if (asks_stop scripts) (ap not (sym c.asks_stop-go_on.ensures) ∙ c.in_ok-end.ensures.stopped stopped);
      listed = subst (Each (λ t. AreAmong c.args.limits.solids (end_solids c.in_ok-end.end) t.last.items)) {y = c.in_ok-tales.tales.items} c.as_slice.ensures.value c.in_ok-end.ensures.listed;
    }
