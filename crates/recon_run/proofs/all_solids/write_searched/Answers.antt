-- The solids are told after how the search ended.
use Rattle.std.proofs.Common.{◌≡◌, ◌∙◌, List, Bool, ℕ, ap, subst, sym}
use Rattle.replies.specs.Writings.{EndsText}
use Rattle.recon_run.specs.Answers.{BeginsAll, TellsAll}
use Rattle.recon_run.specs.Searched.{FillSolids, search_head}
use Rattle.solid_model.specs.Blocks.{ProblemParts}
use Rattle.solid_model.specs.SearchEnds.{SearchEnd}
use Rattle.tv_base.specs.Faults.{Rose}
use Rattle.recon_run.proofs.all_solids.write_searched.Goals as goal

pub returns-clause-ends : goal.returns-clause-ends
returns-clause-ends g c solids filled =
    let s = c.args.searched.now in let d = c.args.decimals in let choices = c.as_slice-choices.result.now in
    let held = g.K.Sink.held c.args.sink.now in let now = g.K.Sink.held c.write_listed.new.sink in
    let rose = Rose (g.K.Sink.faults c.args.sink.now) (g.K.Sink.faults c.write_listed.new.sink) in
    let same : choices ≡ s.ended.solids = c.as_slice-choices.ensures.value ∙ ap (λ (e : SearchEnd). e.solids) (c.behind-searched.view_is ∙ c.ended.ensures.same) in
    let head : c.as_slice.result.now ≡ search_head c.args.limits s = c.as_slice.ensures.value ∙ c.in_ok-head.ensures in
    let here = subst (λ (q : ProblemParts). FillSolids q choices solids) (sym c.problem-problem.ensures) (subst (λ cs. FillSolids s.problem cs solids) (sym same) filled) in
    subst (λ (cs : List (List Bool)). EndsText (TellsAll (search_head c.args.limits s) d cs solids) (BeginsAll (search_head c.args.limits s) d cs solids) held now rose c.write_listed.result) same
    (subst (λ (h : List ℕ). EndsText (TellsAll h d choices solids) (BeginsAll h d choices solids) held now rose c.write_listed.result) head (c.write_listed.ensures.ends solids here))
