use Rattle.std.proofs.Common.{map}
use Rattle.std.specs.Prelude.{string_bytes}
use Rattle.words.proofs.Commands.{said_is_counted}
use Rattle.recon_run.proofs.command.answer.Goals as goal

pub do_job-requires-clause-counted : goal.do_job-requires-clause-counted
do_job-requires-clause-counted g c _ _ = said_is_counted (map string_bytes c.args.words.now) c.in-Ok.job c.in-Ok.ensures
