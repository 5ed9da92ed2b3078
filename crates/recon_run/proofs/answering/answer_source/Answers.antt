-- What was found is answered rightly.
use Rattle.std.proofs.Common.{subst}
use Rattle.recon_run.specs.Owed.{input_of}
use Rattle.recon_run.specs.Searched.{IsFoundIn, asked_of}
use Rattle.recon_run.proofs.Endings.{fault_ends, judged_ends}
use Rattle.tv_base.specs.Faults.{Rose}
use Rattle.recon_run.proofs.answering.answer_source.Goals as goal

pub returns-in-Problem-clause-ends : goal.returns-in-Problem-clause-ends
returns-in-Problem-clause-ends g c =
    let profile = c.args.profile.now in let found_there = c.in-Problem.found in
    let (t, reads, is_found) = c.in_ok-found.ensures.found in
    let (has, behind) = subst (IsFoundIn (input_of profile t)) c.in-Problem.is is_found in
    judged_ends profile (asked_of c.args.question.now) (g.S.Source.left c.args.source.now) (g.S.Source.left c.find.new.source)
    (Rose (g.S.Source.faults c.args.source.now) (g.S.Source.faults c.find.new.source))
    (Rose (g.K.Sink.faults c.args.sink.now) (g.K.Sink.faults c.answer_problem.new.sink)) t reads (g.K.Sink.held c.args.sink.now) (g.K.Sink.held c.answer_problem.new.sink)
    c.answer_problem.result found_there.sought.problem has.0 (c.answer_problem.ensures t has behind)

pub returns-in-Fault-clause-ends : goal.returns-in-Fault-clause-ends
returns-in-Fault-clause-ends g c =
    let profile = c.args.profile.now in
    let (t, reads, is_found) = c.in_ok-found.ensures.found in
    fault_ends profile (asked_of c.args.question.now) (g.S.Source.left c.args.source.now) (g.S.Source.left c.find.new.source)
    (Rose (g.S.Source.faults c.args.source.now) (g.S.Source.faults c.find.new.source))
    (Rose (g.K.Sink.faults c.args.sink.now) (g.K.Sink.faults c.write_fault.new.sink)) t reads (g.K.Sink.held c.args.sink.now) (g.K.Sink.held c.write_fault.new.sink)
    c.write_fault.result c.in-Fault.fault (subst (IsFoundIn (input_of profile t)) c.in-Fault.is is_found) c.write_fault.ensures
