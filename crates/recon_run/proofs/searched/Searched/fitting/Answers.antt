-- Of the choices those are kept that fit; where no view is asked for these are all.
use Rattle.std.proofs.Common.{◌≡◌, ◌∙◌, List, Bool, length, refl, ap, subst, arith}
use Rattle.std.specs.Arc.{arc_value}
use Rattle.page_calls.specs.Those.{AreThose}
use Rattle.page_calls.proofs.Those.{each_is, no_more_those}
use Rattle.further_views.specs.Further.{FurtherRuns}
use Rattle.lemmas.proofs.Lists.{each-from}
use Rattle.recon_run.specs.Searched.{IsFittingOf, SearchedParts}
use Rattle.six_views.specs.Further.{FitsChoice, SieveParts}
use Rattle.six_views.proofs.SiftedChoices.{unasked_fit}
use Rattle.solid_model.specs.Blocks.{ProblemParts}
use Rattle.solid_model.specs.SearchEnds.{SearchEnd}
use Rattle.recon_run.proofs.searched.Searched.fitting.Goals as goal

-- those that a sieve keeps, told by what it is made of
kept_by : (sieve : SieveParts) (p : ProblemParts) (further : FurtherRuns) (choices found kept : List (List Bool)) → sieve ≡ record { problem = p; further = further }
    → choices ≡ found → AreThose (λ choice. FitsChoice sieve.problem sieve.further choice) choices kept → AreThose (FitsChoice p further) found kept
kept_by sieve p further choices found kept is same those = subst (λ cs. AreThose (FitsChoice p further) cs kept) same
    (subst (λ (s : SieveParts). AreThose (λ choice. FitsChoice s.problem s.further choice) choices kept) is those)

pub returns-then-not-asks : goal.returns-then-not-asks
returns-then-not-asks c =
    let s = c.args.self in let fits = FitsChoice s.problem c.args.further.now in record {
      problem = refl;
      kind = refl;
      opened = refl;
      those = each_is fits s.ended.solids (each-from fits s.ended.solids (λ choice k.
          unasked_fit s.problem c.args.further.now (c.if-not-asks.ensures refl) choice));
    }

pub invariant_of-result : goal.invariant_of-result
invariant_of-result c =
    let found = c.ended.inside.solids.items in
    let those = kept_by c.in_ok-sieve.sieve c.deref.result.now c.args.further.now c.as_slice.result.now found c.in_ok-solids.solids.items
    c.in_ok-sieve.ensures c.as_slice.ensures.value c.in_ok-solids.ensures.those in
    let few = no_more_those (FitsChoice c.deref.result.now c.args.further.now) found c.in_ok-solids.solids.items those in
    let same = ap (λ (e : SearchEnd). length e.solids) c.ended.view_is in let most = c.self.invariant in omega (arith, few, same, most)

pub returns : goal.returns
returns c =
    let found = c.ended.inside.solids.items in let kept = c.in_ok-solids.solids.items in
    let p = arc_value c.self.inside.problem in let further = c.args.further.now in
    let those = kept_by c.in_ok-sieve.sieve c.deref.result.now further c.as_slice.result.now found kept
    c.in_ok-sieve.ensures c.as_slice.ensures.value c.in_ok-solids.ensures.those in
    let end : SearchEnd = record { kind = c.ended.inside.kind; opened = c.ended.inside.opened; solids = found } in
    let own : SearchedParts = record { problem = p; ended = end } in
    let new : SearchedParts = record { problem = p; ended = record { kind = c.ended.inside.kind; opened = c.ended.inside.opened; solids = kept } } in
    let all : own ≡ c.args.self = (λ i. record { problem = p; ended = c.ended.view_is i }) ∙ c.self.view_is in
    subst (λ (s : SearchedParts). IsFittingOf further s new) all (record {
      problem = refl;
      kind = refl;
      opened = refl;
      those = subst (λ (q : ProblemParts). AreThose (FitsChoice q further) found kept) c.deref.ensures those;
    })
