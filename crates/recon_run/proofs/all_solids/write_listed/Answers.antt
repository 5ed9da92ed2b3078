-- The solids are told after the first line.
use Rattle.std.proofs.Common.{◌≡◌, List, ℕ, [], ◌++◌, ◌∙◌, refl, sym, ap, subst, take}
use Rattle.std.proofs.lemmas.List.{append-nil}
use Rattle.std.proofs.lemmas.Result.{err_from_is_err_and}
use Rattle.recon_run.specs.Answers.{BeginsAll, TellsAll, TellsSolids}
use Rattle.recon_run.specs.Searched.{FillSolids}
use Rattle.recon_run.proofs.TextByText.{ends_after, refused, rose_since}
use Rattle.solid_model.specs.Blocks.{ProblemParts}
use Rattle.tv_base.specs.Faults.{Rose}
use Rattle.recon_run.proofs.all_solids.write_listed.Goals as goal

pub returns-in_err-write_text-clause-ends : goal.returns-in_err-write_text-clause-ends
returns-in_err-write_text-clause-ends g c solids are =
    let decimals = c.args.decimals in let choices = c.args.choices.now in let head = c.args.head.now in
    let failed = err_from_is_err_and c.from_residual-in_err-write_text.result c.from_residual-in_err-write_text.ensures.1 in
    let alone : (told : List ℕ) → told ≡ head → BeginsAll head decimals choices solids told = λ told is. (0, ([], refl, is ∙ sym (append-nil head))) in
    rw (failed.1, failed.2) (refused (Unit {0}) (Unit {0}) (λ _ told. told ≡ head) (λ _ told. told ≡ head)
    (λ _. TellsAll head decimals choices solids) (λ _. BeginsAll head decimals choices solids) (g.K.Sink.held c.args.sink.now) (g.K.Sink.held c.write_text-2.new.sink)
    (Rose (g.K.Sink.faults c.args.sink.now) (g.K.Sink.faults c.write_text-2.new.sink)) (λ _ told is. (tt, alone told is))
    c.in_err-write_text.field-0.0 c.in_err-write_text.ensures.ends)

pub returns-clause-ends : goal.returns-clause-ends
returns-clause-ends g c solids filled =
    let decimals = c.args.decimals in let first_line = c.args.head.now in let texts = c.in_ok-texts.texts in let choices = c.args.choices.now in
    let (head, is, appends) = c.in_ok-write_text.ensures.ends in
    let are = subst (λ (q : ProblemParts). FillSolids q choices solids) (sym c.in_ok-texts.ensures.0) filled in
    let first = g.K.Sink.faults c.args.sink.now in let mid = g.K.Sink.faults c.write_text-2.new.sink in let last = g.K.Sink.faults c.write_solids.new.sink in
    ends_after (TellsSolids texts.decimals 1 choices solids) (TellsAll first_line decimals choices solids)
    (λ text. (n : ℕ) × TellsSolids texts.decimals 1 (take n choices) (take n solids) text) (BeginsAll first_line decimals choices solids) head
    (g.K.Sink.held c.args.sink.now) (g.K.Sink.held c.write_text-2.new.sink) (g.K.Sink.held c.write_solids.new.sink)
    (Rose mid last) (Rose first last) appends (rose_since first mid last c.in_ok-write_text.ensures.later)
    (λ text begins. (
      begins.0,
      (
        text,
        subst (λ (d : ℕ). TellsSolids d 1 (take begins.0 choices) (take begins.0 solids) text) c.in_ok-texts.ensures.1 begins.1,
        ap (λ bytes. bytes ++ text) is,
      ),
    ))
    (0, ([], refl, is ∙ sym (append-nil first_line)))
    (λ text tells. (text, subst (λ (d : ℕ). TellsSolids d 1 choices solids text) c.in_ok-texts.ensures.1 tells, ap (λ bytes. bytes ++ text) is))
    c.write_solids.result (c.write_solids.ensures.ends solids are)
