-- One page more is told, or begins to be.
use Rattle.std.proofs.Common.{◌≡◌, ◌+◌, ◌++◌, ◌∷◌, [], ℕ, length, take, sym, ap, subst, ◌∙◌, arith}
use Rattle.std.proofs.Math.Seq.{take-length}
use Rattle.std.proofs.lemmas.List.{take_all, take_more}
use Rattle.std.proofs.lemmas.Result.{err_from_is_err_and}
use Rattle.std.specs.Io.KnownBytes.{Appends}
use Rattle.std.specs.List.{flat_map}
use Rattle.recon_run.specs.Readers.{page_text_of}
use Rattle.recon_run.proofs.AskedTexts.{none_begun, one_begun, one_more}
use Rattle.recon_run.proofs.TextByText.{refused_after, rose_since}
use Rattle.tv_base.proofs.Told.{appends_both}
use Rattle.tv_base.specs.Faults.{Rose}
use Rattle.recon_run.proofs.asked.write_pages.Goals as goal

pub loop-page-preserved : goal.loop-page-preserved
loop-page-preserved g c =
    let f = page_text_of c.args.reader in let pages = c.args.pages.now in let i = c.loop-page.page-index in let page = c.page-item.result in
    let (later, appends) = c.loop-page.invariant in let since = c.in_ok-write_page.ensures.later in
    let (text, is, more) = c.in_ok-write_page.ensures.ends in
    let next : take (i + 1) pages ≡ take i pages ++ page ∷ [] = take_more pages i page c.loop-page-test.true ∙ ap (λ x. take i pages ++ x ∷ []) (sym c.page-item.is) in (
      omega (arith, later, since),
      subst (Appends (g.K.Sink.held c.args.sink.now) (g.K.Sink.held c.write_page.new.sink))
          (ap (λ bytes. flat_map f (take i pages) ++ bytes) is ∙ sym (one_more f pages i page next))
          (appends_both _ _ _ (flat_map f (take i pages)) text appends more),
    )

pub returns-in_err-write_page-clause-ends : goal.returns-in_err-write_page-clause-ends
returns-in_err-write_page-clause-ends g c =
    let f = page_text_of c.args.reader in let pages = c.args.pages.now in let i = c.loop-page.page-index in let page = c.page-item.result in
    let (later, appends) = c.loop-page.invariant in
    let next : take (i + 1) pages ≡ take i pages ++ page ∷ [] = take_more pages i page c.loop-page-test.true ∙ ap (λ x. take i pages ++ x ∷ []) (sym c.page-item.is) in
    let first = g.K.Sink.faults c.args.sink.now in let mid = g.K.Sink.faults c.loop-page.sink in let last = g.K.Sink.faults c.write_page.new.sink in
    let failed = err_from_is_err_and c.from_residual.result c.from_residual.ensures.1 in
    let begun = one_begun f pages i page next (length (f page)) in
    rw (failed.1, failed.2) (refused_after (λ text. text ≡ f page) (λ text. text ≡ flat_map f pages) (λ text. text ≡ f page)
    (λ text. (n : ℕ) × (text ≡ take n (flat_map f pages))) (flat_map f (take i pages)) (g.K.Sink.held c.args.sink.now) (g.K.Sink.held c.loop-page.sink)
    (g.K.Sink.held c.write_page.new.sink) (Rose mid last) (Rose first last) appends (rose_since first mid last later)
    (λ text is. (begun.0, ap (λ bytes. flat_map f (take i pages) ++ bytes) (is ∙ sym (take-length (f page))) ∙ begun.1))
    (none_begun f pages i page next) c.in_err-write_page.field-0.0 c.in_err-write_page.ensures.ends)

pub returns-clause-ends : goal.returns-clause-ends
returns-clause-ends g c =
    let f = page_text_of c.args.reader in let i = c.loop-page.page-index in let (later, appends) = c.loop-page.invariant in
    (flat_map f (take i c.args.pages.now), ap (flat_map f) (take_all i c.args.pages.now c.loop-page-test.false), appends)
