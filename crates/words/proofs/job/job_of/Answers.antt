use Rattle.std.proofs.Common.{◌∙◌, sym, map, string_bytes}
use Rattle.words.proofs.Never.{barred_unsaid}
use Rattle.words.proofs.job.job_of.Goals as goal

pub returns-then-some_barred : goal.returns-then-some_barred
returns-then-some_barred c = λ _. barred_unsaid (map string_bytes c.args.words.now)
    (sym c.some_barred.ensures ∙ c.if-some_barred.true)
