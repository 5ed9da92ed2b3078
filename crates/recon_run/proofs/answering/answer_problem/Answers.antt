-- Each form answers what it asks.
use Rattle.std.proofs.Common.{subst, sym}
use Rattle.recon_run.specs.Searched.{AnswersBehind, AnswersQuestion}
use Rattle.tv_base.specs.Faults.{Rose}
use Rattle.recon_run.proofs.answering.answer_problem.Goals as goal

pub returns-in-AllSolids : goal.returns-in-AllSolids
returns-in-AllSolids g c t has rest = subst (λ form. AnswersQuestion form c.args.profile.now c.args.found.sought (g.K.Sink.held c.args.sink.now) (g.K.Sink.held c.answer_all.new.sink)
    (Rose (g.K.Sink.faults c.args.sink.now) (g.K.Sink.faults c.answer_all.new.sink)) c.answer_all.result) (sym c.in-AllSolids.is) c.answer_all.ensures t has

pub returns-in-OneSolid : goal.returns-in-OneSolid
returns-in-OneSolid g c t has rest = subst (λ form. AnswersQuestion form c.args.profile.now c.args.found.sought (g.K.Sink.held c.args.sink.now) (g.K.Sink.held c.answer_one.new.sink)
    (Rose (g.K.Sink.faults c.args.sink.now) (g.K.Sink.faults c.answer_one.new.sink)) c.answer_one.result) (sym c.in-OneSolid.is) c.answer_one.ensures t has

pub returns-in-Log : goal.returns-in-Log
returns-in-Log g c t has rest = subst (λ form. AnswersQuestion form c.args.profile.now c.args.found.sought (g.K.Sink.held c.args.sink.now) (g.K.Sink.held c.answer_log.new.sink)
    (Rose (g.K.Sink.faults c.args.sink.now) (g.K.Sink.faults c.answer_log.new.sink)) c.answer_log.result) (sym c.in-Log.is) c.answer_log.ensures t has

pub returns-in-Blocks : goal.returns-in-Blocks
returns-in-Blocks g c t has rest = subst (λ form. AnswersQuestion form c.args.profile.now c.args.found.sought (g.K.Sink.held c.args.sink.now) (g.K.Sink.held c.answer_blocks.new.sink)
    (Rose (g.K.Sink.faults c.args.sink.now) (g.K.Sink.faults c.answer_blocks.new.sink)) c.answer_blocks.result) (sym c.in-Blocks.is) c.answer_blocks.ensures t has

pub returns-in-Check : goal.returns-in-Check
returns-in-Check g c = subst (λ bytes. AnswersBehind c.args.question.now c.args.profile.now c.args.found.sought bytes (g.K.Sink.held c.args.sink.now) (g.K.Sink.held c.answer_check.new.sink)
    (Rose (g.K.Sink.faults c.args.sink.now) (g.K.Sink.faults c.answer_check.new.sink)) c.answer_check.result) c.as_slice.ensures.value
    (subst (λ form. AnswersBehind form c.args.profile.now c.args.found.sought c.as_slice.result.now (g.K.Sink.held c.args.sink.now) (g.K.Sink.held c.answer_check.new.sink)
    (Rose (g.K.Sink.faults c.args.sink.now) (g.K.Sink.faults c.answer_check.new.sink)) c.answer_check.result) (sym c.in-Check.is) c.answer_check.ensures)
