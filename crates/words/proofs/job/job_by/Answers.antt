use Rattle.std.proofs.Common.{map, drop, string_bytes}
use Rattle.words.specs.Jobs.{commands}
use Rattle.words.proofs.Commands.{unknown_unsaid}
use Rattle.words.proofs.job.job_by.Goals as goal

pub returns-in_default : goal.returns-in_default
returns-in_default c = λ _. unknown_unsaid commands c.args.command.now (drop 1 (map string_bytes c.args.words.now))
    (c.in_default.not-solve, (c.in_default.not-redraw, (c.in_default.not-stl, (c.in_default.not-prove, (c.in_default.not-check, (c.in_default.not-ask, (c.in_default.not-blocks, (c.in_default.not-make, (c.in_default.not-trial, tt)))))))))
