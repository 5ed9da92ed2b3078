-- The piece before, and then a line.
use Rattle.tv_base.proofs.WrittenPieces.{left_over, at_error}
use Rattle.proof_log.proofs.prove.write_entry.Goals as goal

pub returns-in_err-push_entry-clause-err : goal.returns-in_err-push_entry-clause-err
returns-in_err-push_entry-clause-err g c = at_error c.from_residual-in_err-push_entry.result
    (left_over (g.K.Sink.held c.args.sink.now) (g.K.Sink.held c.write_if_full.new.sink) c.args.piece.now.items c.write_if_full.new.piece.items c.in_ok-write_if_full.ensures.ok)
