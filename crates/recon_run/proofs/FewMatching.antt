-- After a whole search the solids that match are few enough for a log.
use Rattle.std.proofs.Common.{◌≡◌, ◌≤◌, Bool, List, [], length, ap, arith}
use Rattle.column_laws.proofs.LivePrefixes.{live_keeps_matching}
use Rattle.lemmas.proofs.Lists.{each-at}
use Rattle.lemmas.proofs.WithoutRepeats.{no_longer}
use Rattle.proof_log.specs.Few.{HasFewMatching}
use Rattle.solid_model.specs.Blocks.{ProblemParts, IsBlocksOf}
use Rattle.solid_model.specs.Choices.{IsMatchingChoice}
use Rattle.solid_model.specs.Forcing.{is_live}
use Rattle.solid_model.specs.Limits.{most_solid_limit}
use Rattle.solid_model.specs.Panels.{coordinates_of}
use Rattle.solid_model.specs.Tree.{live_below}
use Rattle.solid_model.proofs.CompleteTree.{complete_tree}

pub few_matching : (p : ProblemParts) → IsBlocksOf p.grid p.blocks → (choices : List (List Bool)) → choices ≡ live_below (is_live p) p.blocks.count []
    → length choices ≤ most_solid_limit → HasFewMatching p
few_matching p blocks choices whole few drawing is grid others each once =
    let matching = complete_tree (IsMatchingChoice drawing (coordinates_of p.grid) p.blocks.numbers) (is_live p) p.blocks.count
    (live_keeps_matching drawing is p grid blocks) in
    let within = no_longer others (live_below (is_live p) p.blocks.count []) once
    (λ choice m. let (long, matches) = each-at (λ c. (length c ≡ p.blocks.count) × IsMatchingChoice drawing (coordinates_of p.grid) p.blocks.numbers c) others choice each m in
    matching.complete choice long matches) in
    let same = ap length whole in omega (arith, within, same, few)
