-- What is written is a log.
use Rattle.std.proofs.Common.{inr, Err, ap}
use Rattle.recon_run.proofs.log.write_log.Goals as goal

pub returns-in-Ok : goal.returns-in-Ok
returns-in-Ok g c = let (text, listed, log, appends) = c.in-Ok.ensures.ok in (text, (listed, log), appends)

pub returns-in-Err-Failed : goal.returns-in-Err-Failed
returns-in-Err-Failed g c =
    let (text, listed, log, prefix) = c.in-Err-Failed.ensures.err in
    (c.in-Err-Failed.ensures.failed (ap Err c.in-Err-Failed.field-0-is), tt, text, (listed, log), prefix)

pub returns-in-Err-Memory : goal.returns-in-Err-Memory
returns-in-Err-Memory g c = let (text, listed, log, prefix) = c.in-Err-Memory.ensures.err in inr (tt, text, (listed, log), prefix)
