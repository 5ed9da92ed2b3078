-- The first choice fills the first solid.
use Rattle.std.proofs.Common.{◌≡◌, List, Bool, length, refl, ap, subst₂, sym, Some, ◌∙◌}
use Rattle.std.specs.List.{slice_get}
use Rattle.std.proofs.lemmas.Option.{slice_get_read}
use Rattle.recon_run.specs.Searched.{FillSolids}
use Rattle.recon_run.proofs.Filled.{first_counts}
use Rattle.solid_model.specs.Blocks.{ProblemParts}
use Rattle.solid_model.specs.SearchEnds.{SearchEnd}
use Rattle.recon_run.proofs.trial.first_volume.Goals as goal

pub returns-in-len1-up : goal.returns-in-len1-up
returns-in-len1-up c solids filled =
    let p = c.problem.result.now in let choices = c.as_slice.result.now in
    let same : choices ≡ c.args.searched.now.ended.solids =
    c.as_slice.ensures.value ∙ ap (λ (e : SearchEnd). e.solids) (c.behind-searched.view_is ∙ c.ended.ensures.same) in
    let are = subst₂ (λ (q : ProblemParts) (cs : List (List Bool)). FillSolids q cs solids) (sym c.problem.ensures) (sym same) filled in
    let choice = c.choice-item.result in
    let at : slice_get choices 0 ≡ Some choice = slice_get_read choices (length choices) 0 choice refl c.in-len1-up.len_at_least c.choice-item.is in
    c.volume.ensures ∙ first_counts p choices solids are choice at
