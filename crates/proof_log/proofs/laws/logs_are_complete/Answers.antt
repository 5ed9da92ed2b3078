use Rattle.std.proofs.Common.{◌≡◌, ◌≤◌, Bool, List, length, ap, arith}
use Rattle.completeness_logs.specs.LogTexts.{most_listed}
use Rattle.completeness_logs.proofs.Matching.{log_complete, log_matches, log_once}
use Rattle.lemmas.proofs.Lists.{each-at}
use Rattle.lemmas.proofs.WithoutRepeats.{no_longer}
use Rattle.proof_log.proofs.Begun.{some_log}
use Rattle.proof_log.proofs.laws.logs_are_complete.Goals as goal
use Rattle.solid_model.specs.Choices.{IsMatchingChoice}
use Rattle.solid_model.specs.Panels.{coordinates_of}

pub returns-clause-exactly : goal.returns-clause-exactly
returns-clause-exactly c = λ drawing is p grid blocks count few.
    let (text, choices, log) = some_log p (drawing, is, grid) blocks count few in (
      text,
      choices,
      log,
      log_once p text choices log,
      λ choice. (
        (λ m. each-at (λ (one : List Bool). (length one ≡ p.blocks.count) × IsMatchingChoice drawing (coordinates_of p.grid) p.blocks.numbers one) choices choice
            (log_matches p text choices log drawing is grid blocks) m),
        (λ both. log_complete p text choices log drawing is grid blocks choice both.0 both.1),
      ),
    )

pub returns-clause-few : goal.returns-clause-few
returns-clause-few c = λ p blocks text choices log drawing is grid others each once.
    let longer : length others ≤ length choices = no_longer others choices once (λ choice m.
    let both = each-at (λ (one : List Bool). (length one ≡ p.blocks.count) × IsMatchingChoice drawing (coordinates_of p.grid) p.blocks.numbers one) others choice each m in
    log_complete p text choices log drawing is grid blocks choice both.0 both.1) in
    let listed = ap length log.lists in
    let few : length choices ≤ most_listed = omega (arith, listed, log.few) in
    omega (arith, longer, few)
