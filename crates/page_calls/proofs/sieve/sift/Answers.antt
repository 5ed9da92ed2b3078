-- One choice more is kept, or isn't.
use Rattle.std.proofs.Common.{◌≡◌, ◌↔◌, ◌++◌, ◌∷◌, ◌+◌, Bool, IsTrue, List, [], take, refl, sym, ap, subst, ◌∙◌}
use Rattle.std.proofs.lemmas.Bool.{both_ways}
use Rattle.std.proofs.lemmas.List.{take_more, take_all}
use Rattle.page_calls.specs.Those.{AreThose}
use Rattle.page_calls.proofs.Those.{one_more_fits, one_more_lacks}
use Rattle.page_calls.proofs.sieve.sift.Goals as goal
use Rattle.page_calls.proofs.sieve.sift.Goals.{then-branch+in_ok-try_clone+in_ok-push, else-branch}

pub loop-choice-init : goal.loop-choice-init
loop-choice-init g c = (c.new-kept.ensures.items, refl)

pub loop-choice-preserved : goal.loop-choice-preserved
loop-choice-preserved g c =
    let fits = g.S.Sieve.fits c.args.sieve.now in
    let choices = c.args.choices.now in
    let i = c.loop-choice.choice-index in
    let choice = c.choice-item.result in
    let old = c.loop-choice.kept.items in
    let (those, same) = c.loop-choice.invariant in
    let told : IsTrue c.in_ok-fits.field-0 ↔ fits choice =
    subst (λ s. IsTrue c.in_ok-fits.field-0 ↔ g.S.Sieve.fits s choice) same c.in_ok-fits.ensures.told in
    let stays = c.in_ok-fits.ensures.same ∙ same in
    elim c.if-branch.branch [
      | then-branch+in_ok-try_clone+in_ok-push w ↦ (let kept : c.if-branch.kept.items ≡ old ++ choice ∷ [] =
          ap (λ v. v.items) w.kept-is ∙ w.in_ok-push.ensures.items ∙ ap (λ (x : List Bool). old ++ x ∷ []) w.in_ok-try_clone.ensures in (
            subst (λ (ks : List (List Bool)). AreThose fits (take (i + 1) choices) ks) (sym kept)
                (rw (take_more choices i choice c.loop-choice-test.true, ← c.choice-item.is)
                (one_more_fits fits (take i choices) old choice those (told.0 w.if-branch.true))),
            stays,
          ))
      | else-branch w ↦ (
        subst (λ (ks : List (List Bool)). AreThose fits (take (i + 1) choices) ks) (sym (ap (λ v. v.items) w.kept-is))
            (rw (take_more choices i choice c.loop-choice-test.true, ← c.choice-item.is)
            (one_more_lacks fits (take i choices) old choice those (λ h. both_ways _ w.if-branch.false (told.1 h)))),
        stays,
      )
    ]

pub returns : goal.returns
returns g c = record {
  those = subst (λ xs. AreThose (g.S.Sieve.fits c.args.sieve.now) xs c.loop-choice.kept.items)
      (take_all c.loop-choice.choice-index c.args.choices.now c.loop-choice-test.false) c.loop-choice.invariant.0;
  same = c.loop-choice.invariant.1;
}

pub returns-in_err-fits-clause-same : goal.returns-in_err-fits-clause-same
returns-in_err-fits-clause-same g c = c.fits.ensures.same ∙ c.loop-choice.invariant.1

pub returns-in_err-try_clone-clause-same : goal.returns-in_err-try_clone-clause-same
returns-in_err-try_clone-clause-same g c = c.in_ok-fits.ensures.same ∙ c.loop-choice.invariant.1

pub returns-in_err-push-clause-same : goal.returns-in_err-push-clause-same
returns-in_err-push-clause-same g c = c.in_ok-fits.ensures.same ∙ c.loop-choice.invariant.1
