-- What is told is the text of the input's blocks.
use Rattle.std.proofs.Common.{◌≡◌, ◌∙◌, List, ℕ, ap}
use Rattle.block_texts.specs.BlockTexts.{blocks_text}
use Rattle.replies.specs.declared.status.Answer.{Answer}
use Rattle.replies.specs.declared.status.Answer.TheVariants as answers
use Rattle.replies.specs.Writings.{IsReply}
use Rattle.recon_run.specs.Answers.{TellsBlocks}
use Rattle.recon_run.specs.Owed.{input_of}
use Rattle.recon_run.proofs.TextByText.{writing_weaker}
use Rattle.tv_base.specs.Faults.{Rose}
use Rattle.recon_run.proofs.blocks_told.answer_blocks.Goals as goal

pub returns : goal.returns
returns g c t by =
    let p = c.args.sought.now.problem in let input = input_of c.args.profile.now t in
    let told = c.as_slice.result.now in
    let text_is : told ≡ blocks_text c.args.profile.now.decimals p = c.as_slice.ensures.value ∙ c.in_ok-text.ensures ∙ ap (λ (d : ℕ). blocks_text d p) c.decimals.ensures.decimals in
    let weaken : (a : Answer) (text : List ℕ) → IsReply answers.Done told a text → TellsBlocks input a text =
    λ a text said. (said.0, p, by.0, said.1 ∙ text_is) in
    writing_weaker Answer (IsReply answers.Done told) (IsReply answers.Done told) (TellsBlocks input) (TellsBlocks input) (g.K.Sink.held c.args.sink.now) (g.K.Sink.held c.write_reply.new.sink)
    (Rose (g.K.Sink.faults c.args.sink.now) (g.K.Sink.faults c.write_reply.new.sink)) weaken weaken c.write_reply.result c.write_reply.ensures
