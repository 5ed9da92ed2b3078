-- The texts of readers, page after page.
use Rattle.std.proofs.Common.{◌≡◌, ◌+◌, ◌<◌, Bool, ℕ, List, [], ◌∷◌, ◌++◌, length, map, take, drop, nat_le, refl, sym, ap, ap₂, ◌∙◌, append-nil, append_assoc, arith}
use Rattle.std.proofs.lemmas.Bool.{le-leb, leb-true}
use Rattle.std.proofs.lemmas.Grind.{flat_map-append}
use Rattle.std.proofs.lemmas.List.{length-take-le, take_at, take-append-drop}
use Rattle.std.specs.List.{flat_map}
use Rattle.lemmas.proofs.Truth.{same_truth}
use Rattle.query_session.specs.declared.ask.Ask.{Ask}
use Rattle.query_session.specs.declared.ask.Ask.TheVariants as ask
use Rattle.query_session.specs.declared.ask.ReaderTale.{ReaderTale}
use Rattle.query_session.specs.Tales.{ArePagesOfOneList, AreTales}
use Rattle.recon_run.specs.Readers.{TellsReader, TellsReaders, page_text_of, page_told, tales_text}
use Rattle.report.specs.Texts.{reader_text}
use Rattle.solid_model.specs.Blocks.{ProblemParts}
use Rattle.solution_book.specs.declared.reader.Page.{Page}
use Rattle.solution_book.specs.Pages.{IsPageOf}

-- ---- prefixes

-- a list, and part of what follows, are a first part of all
pub prefix_in : (first piece more : List ℕ) (n : ℕ) → (m : ℕ) × (first ++ take n piece ≡ take m ((first ++ piece) ++ more))
prefix_in first piece more n = (
  length (first ++ take n piece),
  sym (take_at (first ++ take n piece) (drop n piece ++ more) (length (first ++ take n piece)) refl)
      ∙ ap (take (length (first ++ take n piece))) (append_assoc first (take n piece) (drop n piece ++ more)
      ∙ ap (λ bytes. first ++ bytes) (sym (append_assoc (take n piece) (drop n piece) more) ∙ ap (λ bytes. bytes ++ more) (take-append-drop n piece))
      ∙ sym (append_assoc first piece more)),
)

-- so is a list alone
pub whole_in : (first more : List ℕ) → (m : ℕ) × (first ≡ take m (first ++ more))
whole_in first more = (length first, sym (take_at first more (length first) refl))

-- ---- piece by piece

module _ {A : Type 0} (f : A → List ℕ) (xs : List A) (i : ℕ) (x : A) (next : take (i + 1) xs ≡ take i xs ++ x ∷ []) where
  pub one_more : flat_map f (take (i + 1) xs) ≡ flat_map f (take i xs) ++ f x
  one_more = ap (flat_map f) next ∙ flat_map-append f (take i xs) (x ∷ []) ∙ ap (λ bytes. flat_map f (take i xs) ++ bytes) (append-nil (f x))

  one_split : flat_map f xs ≡ (flat_map f (take i xs) ++ f x) ++ flat_map f (drop (i + 1) xs)
  one_split = ap (flat_map f) (sym (take-append-drop (i + 1) xs)) ∙ flat_map-append f (take (i + 1) xs) (drop (i + 1) xs)
      ∙ ap (λ bytes. bytes ++ flat_map f (drop (i + 1) xs)) one_more

  pub one_begun : (n : ℕ) → (m : ℕ) × (flat_map f (take i xs) ++ take n (f x) ≡ take m (flat_map f xs))
  one_begun n = let (m, e) = prefix_in (flat_map f (take i xs)) (f x) (flat_map f (drop (i + 1) xs)) n in (m, e ∙ ap (take m) (sym one_split))

  pub none_begun : (m : ℕ) × (flat_map f (take i xs) ≡ take m (flat_map f xs))
  none_begun = let (m, e) = whole_in (flat_map f (take i xs)) (f x ++ flat_map f (drop (i + 1) xs)) in
      (m, e ∙ ap (take m) (sym (append_assoc (flat_map f (take i xs)) (f x) (flat_map f (drop (i + 1) xs))) ∙ sym one_split))

-- ---- tales

tales_both : (reader : ℕ) (tales more : List ReaderTale) → tales_text reader (tales ++ more) ≡ tales_text reader tales ++ tales_text (reader + length tales) more
tales_both reader [] more = ap (λ r. tales_text r more) (let e : reader ≡ reader + 0 = omega arith in e)
tales_both reader (first ∷ tales) more =
    ap (λ bytes. flat_map (page_text_of reader) first.pages.items ++ bytes) (tales_both (reader + 1) tales more)
    ∙ sym (append_assoc (flat_map (page_text_of reader) first.pages.items) (tales_text (reader + 1) tales) (tales_text (reader + 1 + length tales) more))
    ∙ ap (λ r. tales_text reader (first ∷ tales) ++ tales_text r more) (let e : reader + 1 + length tales ≡ reader + length (first ∷ tales) = omega arith in e)

module _ (tales : List ReaderTale) (i : ℕ) (tale : ReaderTale) (within : i < length tales) (next : take (i + 1) tales ≡ take i tales ++ tale ∷ []) where
  abbrev piece : List ℕ
  piece = flat_map (page_text_of i) tale.pages.items

  pub tale_more : tales_text 0 (take (i + 1) tales) ≡ tales_text 0 (take i tales) ++ piece
  tale_more = ap (tales_text 0) next ∙ tales_both 0 (take i tales) (tale ∷ [])
      ∙ ap (λ r. tales_text 0 (take i tales) ++ tales_text r (tale ∷ [])) (let long = length-take-le i tales (omega (arith, within)) in let e : 0 + length (take i tales) ≡ i = omega (arith, long) in e)
      ∙ ap (λ bytes. tales_text 0 (take i tales) ++ bytes) (append-nil piece)

  abbrev others : List ℕ
  others = tales_text (0 + length (take (i + 1) tales)) (drop (i + 1) tales)

  tale_split : tales_text 0 tales ≡ (tales_text 0 (take i tales) ++ piece) ++ others
  tale_split = ap (tales_text 0) (sym (take-append-drop (i + 1) tales)) ∙ tales_both 0 (take (i + 1) tales) (drop (i + 1) tales)
      ∙ ap (λ bytes. bytes ++ others) tale_more

  pub tale_begun : (n : ℕ) → (m : ℕ) × (tales_text 0 (take i tales) ++ take n piece ≡ take m (tales_text 0 tales))
  tale_begun n = let (m, e) = prefix_in (tales_text 0 (take i tales)) piece others n in (m, e ∙ ap (take m) (sym tale_split))

  pub no_tale_begun : (m : ℕ) × (tales_text 0 (take i tales) ≡ take m (tales_text 0 tales))
  no_tale_begun = let (m, e) = whole_in (tales_text 0 (take i tales)) (piece ++ others) in
      (m, e ∙ ap (take m) (sym (append_assoc (tales_text 0 (take i tales)) piece others) ∙ sym tale_split))

-- ---- what is told

-- a page that is one of a list is told as one
page_is_told : (reader from most : ℕ) (list : List (List Bool)) (page : Page) → IsPageOf from most list page → page_text_of reader page ≡ page_told reader from most list
page_is_told reader from most list page is =
    ap (λ f. reader_text reader f page.solids.items page.ends_here) is.place
    ∙ ap₂ (λ cs b. reader_text reader from cs b) is.part
    (same_truth page.ends_here (nat_le (length list) (from + most)) (λ yes. le-leb (length list) (from + most) (is.ends.0 yes))
    (λ yes. is.ends.1 (leb-true (length list) (from + most) yes)))

pub reader_told : (reader : ℕ) (script : List Ask) (before last : List (List Bool)) (pages : List Page) → ArePagesOfOneList before script pages last
    → TellsReader reader script before last (flat_map (page_text_of reader) pages)
reader_told reader [] before last [] are = (are, refl)
reader_told reader [] before last (page ∷ pages) are = absurd are
reader_told reader (ask.Page from most ∷ asks) before last [] are = absurd are
reader_told reader (ask.Page from most ∷ asks) before last (page ∷ pages) (list, begins, is, are) = (
  list,
  begins,
  flat_map (page_text_of reader) pages,
  reader_told reader asks list last pages are,
  ap (λ bytes. bytes ++ flat_map (page_text_of reader) pages) (page_is_told reader from most list page is),
)
reader_told reader (ask.Wait count ∷ asks) before last pages are = reader_told reader asks before last pages are
reader_told reader (ask.Stop ∷ asks) before last pages are = reader_told reader asks before last pages are

-- what readers see at last
abbrev pub lasts_of : List ReaderTale → List (List (List Bool))
lasts_of tales = map (λ tale. tale.last.items) tales

pub readers_told : (p : ProblemParts) (reader : ℕ) (scripts : List (List Ask)) (tales : List ReaderTale) → AreTales p scripts tales
    → TellsReaders p reader scripts (lasts_of tales) (tales_text reader tales)
readers_told p reader [] [] are = refl
readers_told p reader [] (tale ∷ tales) are = absurd are
readers_told p reader (script ∷ scripts) [] are = absurd are
readers_told p reader (script ∷ scripts) (tale ∷ tales) (is, are) = (
  is.solutions,
  flat_map (page_text_of reader) tale.pages.items,
  reader_told reader script [] tale.last.items tale.pages.items is.pages,
  tales_text (reader + 1) tales,
  readers_told p (reader + 1) scripts tales are,
  refl,
)
