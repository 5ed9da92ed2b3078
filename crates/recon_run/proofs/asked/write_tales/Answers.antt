-- The pages of one reader more are told, or begin to be.
use Rattle.std.proofs.Common.{◌≡◌, ◌+◌, ◌++◌, ◌∷◌, [], ℕ, List, Some, length, take, refl, sym, ap, subst, ◌∙◌, arith}
use Rattle.std.proofs.lemmas.List.{take_all, take_more}
use Rattle.std.proofs.lemmas.Option.{get_or_from_slice_get, slice_get_read}
use Rattle.std.proofs.lemmas.Result.{err_from_is_err_and}
use Rattle.std.specs.Io.KnownBytes.{Appends}
use Rattle.std.specs.List.{flat_map, slice_get}
use Rattle.recon_run.specs.Readers.{page_text_of, tales_text}
use Rattle.recon_run.proofs.AskedTexts.{no_tale_begun, tale_begun, tale_more}
use Rattle.recon_run.proofs.TextByText.{refused_after, rose_since}
use Rattle.solution_book.specs.declared.reader.Page.{Page}
use Rattle.tv_base.proofs.Told.{appends_both}
use Rattle.tv_base.specs.Faults.{Rose}
use Rattle.recon_run.proofs.asked.write_tales.Goals as goal

pub loop-reader-preserved : goal.loop-reader-preserved
loop-reader-preserved g c =
    let tales = c.args.tales.now in let i = c.loop-reader.reader in let tale = c.index-tales-reader.result in
    let (later, appends) = c.loop-reader.invariant in let since = c.in_ok-write_pages.ensures.later in
    let (text, is, more) = c.in_ok-write_pages.ensures.ends in
    let at : slice_get tales i ≡ Some tale = slice_get_read tales (length tales) i tale refl c.loop-reader-test.true c.index-tales-reader.is in
    let next : take (i + 1) tales ≡ take i tales ++ tale ∷ [] =
    take_more tales i tale c.loop-reader-test.true ∙ ap (λ x. take i tales ++ x ∷ []) (get_or_from_slice_get tales i tale tale at) in (
      omega (arith, later, since),
      subst (Appends (g.K.Sink.held c.args.sink.now) (g.K.Sink.held c.write_pages.new.sink))
          (ap (λ bytes. tales_text 0 (take i tales) ++ bytes) (is ∙ ap (flat_map (page_text_of i)) c.as_slice.ensures.value)
          ∙ sym (tale_more tales i tale c.loop-reader-test.true next))
          (appends_both _ _ _ (tales_text 0 (take i tales)) text appends more),
    )

pub returns-in_err-write_pages-clause-ends : goal.returns-in_err-write_pages-clause-ends
returns-in_err-write_pages-clause-ends g c =
    let tales = c.args.tales.now in let i = c.loop-reader.reader in let tale = c.index-tales-reader.result in
    let (later, appends) = c.loop-reader.invariant in
    let at : slice_get tales i ≡ Some tale = slice_get_read tales (length tales) i tale refl c.loop-reader-test.true c.index-tales-reader.is in
    let next : take (i + 1) tales ≡ take i tales ++ tale ∷ [] =
    take_more tales i tale c.loop-reader-test.true ∙ ap (λ x. take i tales ++ x ∷ []) (get_or_from_slice_get tales i tale tale at) in
    let first = g.K.Sink.faults c.args.sink.now in let mid = g.K.Sink.faults c.loop-reader.sink in let last = g.K.Sink.faults c.write_pages.new.sink in
    let failed = err_from_is_err_and c.from_residual.result c.from_residual.ensures.1 in
    let pages = c.as_slice.result.now in
    let told : List ℕ → List ℕ → Type 0 = λ text whole. (n : ℕ) × (text ≡ take n whole) in
    rw (failed.1, failed.2) (refused_after (λ text. text ≡ flat_map (page_text_of i) pages) (λ text. text ≡ tales_text 0 tales)
    (λ text. told text (flat_map (page_text_of i) pages)) (λ text. told text (tales_text 0 tales)) (tales_text 0 (take i tales))
    (g.K.Sink.held c.args.sink.now) (g.K.Sink.held c.loop-reader.sink) (g.K.Sink.held c.write_pages.new.sink) (Rose mid last) (Rose first last) appends
    (rose_since first mid last later)
    (λ text begun. let (m, e) = tale_begun tales i tale c.loop-reader-test.true next begun.0 in
    (m, ap (λ bytes. tales_text 0 (take i tales) ++ bytes) (begun.1 ∙ ap (λ (ps : List Page). take begun.0 (flat_map (page_text_of i) ps)) c.as_slice.ensures.value) ∙ e))
    (no_tale_begun tales i tale c.loop-reader-test.true next) c.in_err-write_pages.field-0.0 c.in_err-write_pages.ensures.ends)

pub returns-clause-ends : goal.returns-clause-ends
returns-clause-ends g c =
    let i = c.loop-reader.reader in let (later, appends) = c.loop-reader.invariant in
    (tales_text 0 (take i c.args.tales.now), ap (tales_text 0) (take_all i c.args.tales.now c.loop-reader-test.false), appends)
