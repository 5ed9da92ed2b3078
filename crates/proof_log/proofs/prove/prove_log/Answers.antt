-- Nothing is written.
use Rattle.proof_log.proofs.Begun.{nothing_of_log}
use Rattle.proof_log.proofs.prove.prove_log.Goals as goal

pub returns-in-Err-clause-err : goal.returns-in-Err-clause-err
returns-in-Err-clause-err g c =
    nothing_of_log c.args.problem.now c.known.ensures.grid c.known.ensures.blocks c.known.ensures.few c.requires
    (g.K.Sink.held c.args.sink.now)
