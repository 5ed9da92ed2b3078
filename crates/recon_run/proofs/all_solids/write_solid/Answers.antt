-- What is told of the choice is told of the solid that it fills.
use Rattle.std.proofs.Common.{◌≡◌, List, ℕ, ◌∙◌}
use Rattle.recon_run.specs.Answers.{TellsSolid}
use Rattle.recon_run.proofs.Filled.{tells_solid}
use Rattle.recon_run.proofs.TextByText.{ends_weaker}
use Rattle.tv_base.specs.Faults.{Rose}
use Rattle.recon_run.proofs.all_solids.write_solid.Goals as goal

pub returns-clause-ends : goal.returns-clause-ends
returns-clause-ends g c s are =
    let texts = c.args.texts.now in let number = c.args.number in let choice = c.args.choice.now in
    let (faces, of, is) = c.in_ok-tell.ensures.text in
    let tells : (text : List ℕ) → text ≡ c.as_slice.result.now → TellsSolid texts.decimals number choice s text =
    λ text e. tells_solid texts.problem texts.decimals number choice s are faces of text (e ∙ c.as_slice.ensures.value ∙ is) in
    ends_weaker (λ text. text ≡ c.as_slice.result.now) (λ text. text ≡ c.as_slice.result.now) (TellsSolid texts.decimals number choice s)
    (TellsSolid texts.decimals number choice s) (g.K.Sink.held c.args.sink.now) (g.K.Sink.held c.write_text.new.sink)
    (Rose (g.K.Sink.faults c.args.sink.now) (g.K.Sink.faults c.write_text.new.sink)) tells tells c.write_text.result c.write_text.ensures.ends
