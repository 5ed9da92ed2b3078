-- The first line, the entries, and the last line.
use Rattle.std.proofs.Common.{◌≡◌, ◌++◌, ◌≤◌, ◌∙◌, subst}
use Rattle.std.proofs.lemmas.Result.{on_err_weaker}
use Rattle.completeness_logs.specs.LogTexts.{closing_line}
use Rattle.proof_log.specs.Lines.{fed}
use Rattle.proof_log.proofs.Begun.{nothing_of_log}
use Rattle.solid_model.specs.Blocks.{ProblemParts}
use Rattle.tv_base.proofs.WrittenPieces.{written_more, prefix_written, prefix_longer, left_over, at_error}
use Rattle.tv_base.specs.Pieces.{AppendsPrefix}
use Rattle.proof_log.proofs.prove.write_log.Goals as goal

pub returns-in_err-piece-clause-err : goal.returns-in_err-piece-clause-err
returns-in_err-piece-clause-err g c =
    let count = subst (λ (q : ProblemParts). q.blocks.count ≤ 65535) c.problem.ensures c.block_count.ensures.few in
    at_error c.from_residual.result (nothing_of_log c.args.walk.now.problem c.requires.grid c.requires.blocks count c.requires.few (g.K.Sink.held c.args.sink.now))

pub returns-in_err-push_opening-clause-err : goal.returns-in_err-push_opening-clause-err
returns-in_err-push_opening-clause-err g c =
    let count = subst (λ (q : ProblemParts). q.blocks.count ≤ 65535) c.problem.ensures c.block_count.ensures.few in
    at_error c.from_residual-in_err-push_opening.result
    (nothing_of_log c.args.walk.now.problem c.requires.grid c.requires.blocks count c.requires.few (g.K.Sink.held c.args.sink.now))

pub returns-in_err-push_closing-clause-err : goal.returns-in_err-push_closing-clause-err
returns-in_err-push_closing-clause-err g c =
    let a = g.K.Sink.held c.args.sink.now in
    let b = g.K.Sink.held c.write_entries.new.sink in
    let last = fed (closing_line c.in_ok-solids.solids) in
    let (text, choices, log, on) = c.in_ok-solids.ensures.ok in
    at_error c.from_residual-in_err-push_closing.result (text ++ last, choices, log, prefix_longer a b text last (left_over a b text c.write_entries.new.piece.items on))

pub returns-clause-err : goal.returns-clause-err
returns-clause-err g c =
    let a = g.K.Sink.held c.args.sink.now in
    let b = g.K.Sink.held c.write_entries.new.sink in
    let now = g.K.Sink.held c.write_piece.new.sink in
    let last = fed (closing_line c.in_ok-solids.solids) in
    let (text, choices, log, on) = c.in_ok-solids.ensures.ok in
    let piece : c.deref.result.now ≡ c.write_entries.new.piece.items ++ last = c.deref.ensures.value ∙ c.in_ok-push_closing.ensures.text in
    on_err_weaker c.write_piece.result (λ (h : AppendsPrefix b now c.deref.result.now). (
      text ++ last,
      choices,
      log,
      prefix_written a b now (text ++ last) (c.write_entries.new.piece.items ++ last) (written_more a b text c.write_entries.new.piece.items last on) (subst (AppendsPrefix b now) piece h),
    ))
    c.write_piece.ensures.err
