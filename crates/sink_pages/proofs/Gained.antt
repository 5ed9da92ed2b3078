-- What a sink gains by one page more.
use Rattle.std.proofs.Common.{◌≡◌, ◌+◌, Bool, true, false, true≢false, ℕ, List, [], ◌∷◌, ◌++◌, length, take, Option, None, Some, Result, Ok, Err, OnOk, OnErr, is_ok, is_err, refl, sym, ap, ap₂, subst, ◌∙◌, append-nil, append_assoc, length-append, arith}
use Rattle.std.proofs.Math.Seq.{take-append-add}
use Rattle.std.proofs.lemmas.List.{map-append}
use Rattle.std.specs.Io.KnownBytes.{Appends}
use Rattle.page_calls.specs.Pages.{Call}
use Rattle.report.specs.Texts.{page_text}
use Rattle.sink_pages.specs.declared.next.Next.{Next}
use Rattle.sink_pages.specs.Gained.{GainedText, HasGained, pages_of}
use Rattle.sink_pages.specs.Next.{IsNext}
use Rattle.sink_pages.specs.PageTexts.{Page, choices_on, pages_text}
use Rattle.lemmas.proofs.Lists.{each-append_right}
use Rattle.page_calls.specs.Those.{AreThose, AreThoseOfEach}
use Rattle.page_calls.proofs.Those.{none_more, some_more}
use Rattle.tv_base.proofs.Told.{appends_both}
use Rattle.tv_base.specs.declared.sink.SinkError.{SinkError}
use Rattle.tv_base.specs.Pieces.{AppendsPrefix}

-- nothing is appended where nothing is done
pub appends_none : (held : Option (List ℕ)) → Appends held held []
appends_none None = tt
appends_none (Some bytes) = sym (append-nil bytes)

-- a text, and then a prefix of another one, are a prefix of both together
pub prefix_after : (held mid now : Option (List ℕ)) (first text : List ℕ) → Appends held mid first → AppendsPrefix mid now text → AppendsPrefix held now (first ++ text)
prefix_after held mid now first text appends (n, few, more) = (
  length first + n,
  omega (arith, few, length-append first text),
  rw (take-append-add first text n) (appends_both held mid now first (take n text) appends more),
)

-- ---- pages, one behind another

pub choices_append : (pages more : List Page) → choices_on (pages ++ more) ≡ choices_on pages ++ choices_on more
choices_append [] more = refl
choices_append (page ∷ pages) more = ap (λ cs. page ++ cs) (choices_append pages more) ∙ sym (append_assoc page (choices_on pages) (choices_on more))

-- the text of one page more
pages_next : (n t : ℕ) (pages : List Page) (page : Page) → pages_text n t (pages ++ page ∷ [])
    ≡ pages_text n t pages ++ page_text (n + length pages + 1) (t + length (choices_on pages) + length page) page
pages_next n t [] page = append-nil (page_text (n + 1) (t + length page) page) ∙ ap₂ (λ k m. page_text k m page) (omega arith) (omega arith)
pages_next n t (first ∷ pages) page =
    ap (λ text. page_text (n + 1) (t + length first) first ++ text) (pages_next (n + 1) (t + length first) pages page)
    ∙ sym (append_assoc (page_text (n + 1) (t + length first) first) (pages_text (n + 1) (t + length first) pages)
    (page_text (n + 1 + length pages + 1) (t + length first + length (choices_on pages) + length page) page))
    ∙ ap₂ (λ k m. pages_text n t (first ∷ pages) ++ page_text k m page) (omega arith) (omega (arith, length-append first (choices_on pages)))

-- ---- one call more

module _ (before held now : Option (List ℕ)) (calls : List Call) (c : Call) (first text : List ℕ) where
  gained_text : (r : Result (Unit {0}) SinkError) → c.accepted ≡ is_ok r → GainedText false before held calls first
      → OnOk r (Appends held now text) → OnErr r (AppendsPrefix held now text) → GainedText (is_err r) before now (calls ++ c ∷ []) (first ++ text)
  gained_text (Ok done) accepted gained written prefix = appends_both before held now first text gained written
  gained_text (Err fault) accepted gained written prefix = (
    λ all. true≢false (sym (each-append_right (λ (x : Call). x.accepted ≡ true) calls (c ∷ []) all).0 ∙ accepted),
    prefix_after before held now first text gained prefix,
  )

module _ (fits : List Bool → Type 0) (before held now : Option (List ℕ)) (calls : List Call) (c : Call) (number total : ℕ)
    (r : Result (Unit {0}) SinkError) (accepted : c.accepted ≡ is_ok r) (gained : HasGained fits false before held calls number total) where
  pages_more : pages_of (calls ++ c ∷ []) ≡ pages_of calls ++ c.choices ∷ []
  pages_more = map-append (λ (x : Call). x.choices) calls (c ∷ [])

  gained_more : (kept : Page) (n : Next) → AreThose fits c.choices kept → IsNext number total kept n
      → OnOk r (Appends held now n.text.items) → OnErr r (AppendsPrefix held now n.text.items)
      → HasGained fits (is_err r) before now (calls ++ c ∷ []) n.number n.total
  gained_more [] n are (number_is, total_is, text_is) written prefix = record {
    pages = gained.pages;
    those = subst (λ given. AreThoseOfEach fits given gained.pages) (sym pages_more) (none_more fits (pages_of calls) gained.pages c.choices gained.those are);
    number_is = number_is ∙ gained.number_is;
    total_is = total_is ∙ gained.total_is;
    text = subst (GainedText (is_err r) before now (calls ++ c ∷ []))
        (ap (λ text. pages_text 0 0 gained.pages ++ text) text_is ∙ append-nil (pages_text 0 0 gained.pages))
        (gained_text before held now calls c (pages_text 0 0 gained.pages) n.text.items r accepted gained.text written prefix);
  }
  gained_more (choice ∷ page) n are (number_is, total_is, text_is) written prefix =
      let kept : Page = choice ∷ page in
      let own : n.text.items ≡ page_text (0 + length gained.pages + 1) (0 + length (choices_on gained.pages) + length kept) kept =
      text_is ∙ ap₂ (λ k m. page_text k m kept) (omega (arith, number_is, gained.number_is)) (omega (arith, total_is, gained.total_is)) in record {
        pages = gained.pages ++ kept ∷ [];
        those = subst (λ given. AreThoseOfEach fits given (gained.pages ++ kept ∷ [])) (sym pages_more)
            (some_more fits (pages_of calls) gained.pages c.choices kept gained.those are (λ e. cc));
        number_is = omega (arith, number_is, gained.number_is, length-append gained.pages (kept ∷ []));
        total_is = omega (
          arith,
          total_is,
          gained.total_is,
          ap length (choices_append gained.pages (kept ∷ [])),
          length-append (choices_on gained.pages) (kept ++ []),
          length-append kept [],
        );
        text = subst (GainedText (is_err r) before now (calls ++ c ∷ []))
            (ap (λ text. pages_text 0 0 gained.pages ++ text) own ∙ sym (pages_next 0 0 gained.pages kept))
            (gained_text before held now calls c (pages_text 0 0 gained.pages) n.text.items r accepted gained.text written prefix);
      }

-- one page more, which goes to the sink where none was refused
pub told_next : (fits : List Bool → Type 0) (before held now : Option (List ℕ)) (calls : List Call) (c : Call) (number total : ℕ)
    (r : Result (Unit {0}) SinkError) (was refused : Bool) (all : List Call) (kept : Page) (n : Next) → was ≡ false → all ≡ calls ++ c ∷ []
    → c.accepted ≡ is_ok r → refused ≡ is_err r → HasGained fits was before held calls number total
    → AreThose fits c.choices kept → IsNext number total kept n → OnOk r (Appends held now n.text.items) → OnErr r (AppendsPrefix held now n.text.items)
    → HasGained fits refused before now all n.number n.total
told_next fits before held now calls c number total r was refused all kept n none is accepted is_refused gained are next written prefix =
    rw (is_refused, is) (gained_more fits before held now calls c number total r accepted
    (subst (λ b. HasGained fits b before held calls number total) none gained) kept n are next written prefix)
