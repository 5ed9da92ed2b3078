-- What was told is listed first.
use Rattle.std.proofs.Common.{◌≡◌, ap, sym, subst}
use Rattle.std.specs.Arc.{arc_value}
use Rattle.lemmas.specs.Lists.{Each}
use Rattle.lemmas.proofs.Lists.{each-weaker}
use Rattle.solid_model.specs.Search.{SearchLimits}
use Rattle.search_end.specs.Answers.{new_ones}
use Rattle.search_end.specs.Handed.{AreFewSolutions, HandedParts}
use Rattle.search_end.specs.Stopped.{ListsAll, end_found, end_solids}
use Rattle.session_run.specs.Session.{AreAmong}
use Rattle.session_run.proofs.Listed.{listed_moved}
use Rattle.session_run.proofs.session.end_of.Goals as goal

pub told_choices-requires : goal.told_choices-requires
told_choices-requires c = (arc_value c.args.problem.now, c.requires)

pub end_search-requires : goal.end_search-requires
end_search-requires c =
    let p = arc_value c.args.problem.now in
    let same : c.limits.inside.solids ≡ c.args.limits.solids = ap (λ (l : SearchLimits). l.solids) c.limits.view_is in
    let few = subst (λ most. AreFewSolutions p most c.in_ok-told.told.items) same (c.in_ok-told.ensures.solutions p c.requires) in
    record { handed = subst (λ (h : HandedParts). AreFewSolutions p c.args.limits.solids h.choices) (sym c.told-handed.ensures) few }

pub returns-in-Ok-clause-listed : goal.returns-in-Ok-clause-listed
returns-in-Ok-clause-listed c =
    let told = c.in_ok-told.told.items in
    let most = c.args.limits.solids in
    let same : c.limits.inside.solids ≡ most = ap (λ (l : SearchLimits). l.solids) c.limits.view_is in
    let all = subst (λ n. Each (λ tale. AreAmong n told tale.last.items) c.args.tales.now) same c.in_ok-told.ensures.all in
    let e = c.in-Ok.end in
    let lists = subst (λ (h : HandedParts). ListsAll c.args.limits h.choices e) c.told-handed.ensures c.in-Ok.ensures.listed in
    each-weaker (λ tale. AreAmong most told tale.last.items) (λ tale. AreAmong most (end_solids e) tale.last.items) c.args.tales.now
    (λ tale. listed_moved most told (new_ones told (end_found e)) (end_solids e) tale.last.items lists) all
