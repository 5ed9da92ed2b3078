-- Those are kept that fit what is sought.
use Rattle.std.proofs.Common.{◌≡◌, ◌∙◌, ap, length, subst}
use Rattle.std.proofs.lemmas.Result.{IfOk-weaker}
use Rattle.page_calls.specs.Those.{AreThose}
use Rattle.report.specs.Texts.{fitting_text}
use Rattle.six_views.specs.Further.{FitsChoice, SieveParts}
use Rattle.recon_run.proofs.check.fitting_part.Goals as goal

pub returns : goal.returns
returns c =
    let kept = c.in_ok-fitting.fitting.items in let choices = c.args.choices.now in
    let those = subst (λ (s : SieveParts). AreThose (FitsChoice s.problem s.further) choices kept) c.in_ok-sieve.ensures c.in_ok-fitting.ensures.those in
    IfOk-weaker c.fitting_text.result _ _ (λ text told. (kept, those, told ∙ ap (fitting_text (length choices)) c.as_slice.ensures.value)) c.fitting_text.ensures
