use Rattle.std.proofs.Common.{sym, subst, map, length}
use Rattle.std.specs.Prelude.{string_bytes}
use Rattle.replies.specs.declared.status.Answer.TheVariants as answers
use Rattle.file_problem.specs.Inputs.{IsFileFault}
use Rattle.recon_run.specs.Answers.{CanEnd}
use Rattle.recon_run.specs.Endings.{AnswersOrFails, OfInput, OfSearch, owed_to}
use Rattle.recon_run.specs.Solve.{Solves}
use Rattle.recon_run.proofs.DueAnswers.{faulty_ends, whole_ends}
use Rattle.recon_run.proofs.SolveCases.{solves}
use Rattle.solid_model.specs.declared.ended.EndKind.TheVariants.{Whole}
use Rattle.solid_model.specs.declared.fault.Fault.{Fault}
use Rattle.tv_base.specs.Faults.{Rose}
use Rattle.recon_run.proofs.command.run.Goals as goal

pub returns-clause-solve : goal.returns-clause-solve
returns-clause-solve g c =
    let words = map string_bytes c.args.words.now in let left = g.S.Source.left c.args.source.now in
    let held = g.K.Sink.held c.args.sink.now in let now = g.K.Sink.held c.answer.new.sink in
    subst (λ code. Solves words left held now code) (sym c.code.ensures)
    (solves words left (g.S.Source.left c.answer.new.source) held now
    (Rose (g.S.Source.faults c.args.source.now) (g.S.Source.faults c.answer.new.source))
    (Rose (g.K.Sink.faults c.args.sink.now) (g.K.Sink.faults c.answer.new.sink)) c.answer.result c.answer.ensures.ends)

pub returns-clause-fault : goal.returns-clause-fault
returns-clause-fault g c =
    let o = owed_to (map string_bytes c.args.words.now) in let left = g.S.Source.left c.args.source.now in
    subst (λ code. OfInput o left (λ input. (fault : Fault) → IsFileFault input fault → AnswersOrFails answers.Faulty code)) (sym c.code.ensures)
    (faulty_ends o left (g.S.Source.left c.answer.new.source) (g.K.Sink.held c.args.sink.now) (g.K.Sink.held c.answer.new.sink)
    (Rose (g.S.Source.faults c.args.source.now) (g.S.Source.faults c.answer.new.source))
    (Rose (g.K.Sink.faults c.args.sink.now) (g.K.Sink.faults c.answer.new.sink)) c.answer.result c.answer.ensures.ends)

pub returns-clause-whole : goal.returns-clause-whole
returns-clause-whole g c =
    let o = owed_to (map string_bytes c.args.words.now) in let left = g.S.Source.left c.args.source.now in
    subst (λ code. OfSearch o left (λ s input. (c : CanEnd s.limits input Whole) → AnswersOrFails (s.whole input (length c.solids)) code)) (sym c.code.ensures)
    (whole_ends o left (g.S.Source.left c.answer.new.source) (g.K.Sink.held c.args.sink.now) (g.K.Sink.held c.answer.new.sink)
    (Rose (g.S.Source.faults c.args.source.now) (g.S.Source.faults c.answer.new.source))
    (Rose (g.K.Sink.faults c.args.sink.now) (g.K.Sink.faults c.answer.new.sink)) c.answer.result c.answer.ensures.ends)
