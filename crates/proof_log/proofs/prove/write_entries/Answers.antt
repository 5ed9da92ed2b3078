-- One entry more.
use Rattle.std.proofs.Common.{◌++◌, ◌+◌, ◌≤◌, [], Bool, List, refl, sym, subst, ap, ◌∙◌, true, arith}
use Rattle.completeness_logs.specs.Logs.{IsRightEntry, KnownBlocks, listed_by}
use Rattle.completeness_logs.specs.LogTexts.{entry_line, opening_line}
use Rattle.completeness_logs.specs.SplitMarks.{all_to_come, sides_to_come}
use Rattle.proof_log.specs.Lines.{fed}
use Rattle.proof_log.proofs.Begun.{IsBegun, begun_first, begun_next, begun_prefix, counted_log}
use Rattle.proof_log.proofs.Lighter.{lighter_next}
use Rattle.solid_model.specs.Blocks.{ProblemParts}
use Rattle.solid_model.specs.Decisions.{decided_by}
use Rattle.tv_base.proofs.WrittenPieces.{nothing_written, written_next, prefix_written, left_over, at_error}
use Rattle.proof_log.proofs.prove.write_entries.Goals as goal

pub loop-open-init : goal.loop-open-init
loop-open-init g c =
    let p = c.args.walk.now.problem in
    let ds = c.args.walk.now.decisions in
    let text = c.args.piece.now.items in
    record {
      problem = refl;
      later = omega arith;
      text = text;
      listed = 0;
      begun = subst (λ t. IsBegun p (all_to_come true ds c.args.walk.now.marks) t 0) (sym c.requires.first)
          (subst (λ ms. IsBegun p (all_to_come true ds ms) (fed (opening_line p.blocks.count)) 0) (sym c.requires.fresh.1)
          (subst (λ xs. IsBegun p (all_to_come true xs []) (fed (opening_line p.blocks.count)) 0) (sym c.requires.fresh.0) (begun_first p)));
      written = nothing_written (g.K.Sink.held c.args.sink.now) text;
      room = c.requires.fits;
      counted = λ l. refl;
    }

pub loop-open-preserved : goal.loop-open-preserved
loop-open-preserved g c =
    let p = c.args.walk.now.problem in
    let ds = c.loop-open.walk.decisions in
    let ms = c.loop-open.walk.marks in
    let inv = c.loop-open.invariant in
    let e = c.in-Ok.next.entry in
    let right = subst (λ (r : ProblemParts). IsRightEntry r (decided_by ds) e) inv.problem c.in-Ok.ensures.right in
    let open_ = subst (λ (b : Bool). IsBegun p (all_to_come b ds ms) inv.text inv.listed) c.loop-open-test.true inv.begun in
    let next = begun_next p (decided_by ds) (sides_to_come ds ms) inv.text inv.listed e c.in-Ok.ensures.short right open_ in
    let before = inv.later in
    let after = c.in_ok-write_entry.ensures.later in
    record {
      problem = c.next_entry.ensures.problem ∙ inv.problem;
      later = omega (arith, before, after);
      text = inv.text ++ fed (entry_line e);
      listed = inv.listed + listed_by e;
      begun = subst (λ (ks : List KnownBlocks). IsBegun p ks (inv.text ++ fed (entry_line e)) (inv.listed + listed_by e)) (sym c.in-Ok.ensures.coming) next;
      written = written_next (g.K.Sink.held c.args.sink.now) (g.K.Sink.held c.loop-open.sink) (g.K.Sink.held c.write_entry.new.sink) inv.text c.loop-open.piece.items
          (fed (entry_line e)) c.write_entry.new.piece.items inv.written c.in_ok-write_entry.ensures.ok;
      room = c.in_ok-write_entry.ensures.room;
      counted = c.count_listed-solids.ensures inv.listed inv.counted;
    }

pub loop-open-smaller : goal.loop-open-smaller
loop-open-smaller g c =
    let p = c.args.walk.now.problem in
    let ds = c.loop-open.walk.decisions in
    let ms = c.loop-open.walk.marks in
    let e = c.in-Ok.next.entry in
    let right = subst (λ (r : ProblemParts). IsRightEntry r (decided_by ds) e) c.loop-open.invariant.problem c.in-Ok.ensures.right in
    lighter_next p (decided_by ds) (sides_to_come ds ms) e right (all_to_come c.loop-open.open ds ms)
    (all_to_come c.in-Ok.next.goes_on c.next_entry.new.self.decisions c.next_entry.new.self.marks)
    (ap (λ (b : Bool). all_to_come b ds ms) c.loop-open-test.true) c.in-Ok.ensures.coming

pub returns-in_default-clause-err : goal.returns-in_default-clause-err
returns-in_default-clause-err g c =
    let p = c.args.walk.now.problem in
    let inv = c.loop-open.invariant in
    let count = subst (λ (q : ProblemParts). q.blocks.count ≤ 65535) c.problem.ensures c.known.ensures.few in
    begun_prefix p c.requires.grid c.requires.blocks count c.requires.few _ inv.text inv.listed inv.begun (g.K.Sink.held c.args.sink.now) (g.K.Sink.held c.loop-open.sink)
    (left_over (g.K.Sink.held c.args.sink.now) (g.K.Sink.held c.loop-open.sink) inv.text c.loop-open.piece.items inv.written)

pub returns-in_err-write_entry-clause-err : goal.returns-in_err-write_entry-clause-err
returns-in_err-write_entry-clause-err g c =
    let p = c.args.walk.now.problem in
    let inv = c.loop-open.invariant in
    let count = subst (λ (q : ProblemParts). q.blocks.count ≤ 65535) c.problem.ensures c.known.ensures.few in
    let a = g.K.Sink.held c.args.sink.now in
    let b = g.K.Sink.held c.loop-open.sink in
    let now = g.K.Sink.held c.write_entry.new.sink in
    at_error c.from_residual.result (begun_prefix p c.requires.grid c.requires.blocks count c.requires.few _ inv.text inv.listed inv.begun a now
    (prefix_written a b now inv.text c.loop-open.piece.items inv.written c.in_err-write_entry.ensures.err))

pub returns-clause-ok : goal.returns-clause-ok
returns-clause-ok g c =
    let p = c.args.walk.now.problem in
    let ds = c.loop-open.walk.decisions in
    let ms = c.loop-open.walk.marks in
    let inv = c.loop-open.invariant in
    let count = subst (λ (q : ProblemParts). q.blocks.count ≤ 65535) c.problem.ensures c.known.ensures.few in
    let done = subst (λ (b : Bool). IsBegun p (all_to_come b ds ms) inv.text inv.listed) c.loop-open-test.false inv.begun in
    let (choices, log) = counted_log p c.requires.grid c.requires.blocks count c.requires.few inv.text inv.listed c.loop-open.solids done inv.counted in
    (inv.text, choices, log, inv.written)
