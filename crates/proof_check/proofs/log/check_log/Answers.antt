-- What a log lists differs, and is of one length.
use Rattle.std.proofs.Common.{◌≡◌, ◌≢◌, Bool, List, length, sym, subst}
use Rattle.lemmas.specs.Lists.{Each, Ascends}
use Rattle.completeness_logs.proofs.Matching.{log_lengths, log_once}
use Rattle.proof_check.proofs.log.check_log.Goals as goal

pub sort_choices-requires-clause-lengths : goal.sort_choices-requires-clause-lengths
sort_choices-requires-clause-lengths c =
    let p = c.in-Ok.partial.problem in (
      p.blocks.count,
      subst (λ (xs : List (List Bool)). Each (λ choice. length choice ≡ p.blocks.count) xs) (sym c.as_mut_slice.ensures.value)
          (log_lengths p c.args.log.now c.in-Ok-check_text.found.items c.in-Ok-check_text.ensures.ok),
    )

pub sort_choices-requires-clause-once : goal.sort_choices-requires-clause-once
sort_choices-requires-clause-once c =
    subst (λ (xs : List (List Bool)). Ascends ◌≢◌ xs) (sym c.as_mut_slice.ensures.value)
    (log_once c.in-Ok.partial.problem c.args.log.now c.in-Ok-check_text.found.items c.in-Ok-check_text.ensures.ok)
