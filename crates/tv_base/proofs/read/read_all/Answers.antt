use Rattle.std.proofs.Common.{◌≡◌, ◌+◌, ◌++◌, length, Err, ap, ◌∙◌, length-append, arith}
use Rattle.std.proofs.lemmas.Result.{err_from_is_err_and}
use Rattle.tv_base.proofs.Told.{consumes_both, reads_within, reads_past}
use Rattle.tv_base.specs.declared.read.ReadEnd.TheVariants.{TooLong}
use Rattle.tv_base.proofs.read.read_all.Goals as goal

pub returns-in_err-count-clause-too_long : goal.returns-in_err-count-clause-too_long
returns-in_err-count-clause-too_long g c = λ is_long.
    let err = err_from_is_err_and c.from_residual-in_err-count.result c.from_residual-in_err-count.ensures.1 in
    let same : c.in_err-count.field-0.0 ≡ TooLong = cc (err.1, err.2, is_long) in
    let past = c.in_err-count.ensures.too_long (ap Err same) in
    let bytes = c.loop-bytes.bytes.items in
    let long : length (bytes ++ past.0) ≡ c.args.most + 1 = length-append bytes past.0 ∙ past.1 in
    reads_past _ _ (bytes ++ past.0) c.args.most (consumes_both _ (g.S.Source.left c.loop-bytes.source) _ bytes past.0 c.loop-bytes.invariant.read past.2) long

pub returns-in_err-count-clause-within : goal.returns-in_err-count-clause-within
returns-in_err-count-clause-within g c =
    reads_within _ (g.S.Source.left c.loop-bytes.source) _ c.loop-bytes.bytes.items (c.args.most + 1) (omega arith) c.loop-bytes.invariant.read c.in_err-count.ensures.within
