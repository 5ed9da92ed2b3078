-- Pages that are taken one after another.
use Rattle.std.proofs.Common.{◌<◌, ◌+◌, length, take, get_or, ◌≡◌, Bool, ℕ, List, [], ◌∷◌, ◌++◌, Option, Some, None, refl, sym, ◌∙◌, ap, subst, append-nil}
use Rattle.std.proofs.lemmas.List.{take_more}
use Rattle.solid_model.specs.Blocks.{ProblemParts}
use Rattle.solid_model.specs.Solutions.{AreSolutions}
use Rattle.solution_book.specs.declared.reader.Page.{Page}
use Rattle.solution_book.specs.Editions.{EditionParts, ReaderParts, Begins, GoesOn, StartsWith, Looked}
use Rattle.solution_book.proofs.Pages.{starts_on}
use Rattle.query_session.specs.declared.ask.Ask.{Ask}
use Rattle.query_session.specs.declared.ask.Ask.TheVariants as ask
use Rattle.query_session.specs.declared.ask.ReaderTale.{ReaderTale}
use Rattle.query_session.specs.Tales.{AreTaken, ArePagesOfOneList, IsReaderOf, IsTale, seen_solids}

-- those of a script, and then those of another one
pub taken_on : (a b c : ReaderParts) (asks more : List Ask) (ps qs : List Page) → AreTaken a asks ps b → AreTaken b more qs c → AreTaken a (asks ++ more) (ps ++ qs) c
taken_on a b c [] more [] qs h k = subst (λ x. AreTaken x more qs c) h k
taken_on a b c [] more (p ∷ ps) qs h k = absurd h
taken_on a b c (ask.Page from most ∷ asks) more [] qs h k = absurd h
taken_on a b c (ask.Page from most ∷ asks) more (p ∷ ps) qs (next, e, look, is, rest) k = (next, e, look, is, taken_on next b c asks more ps qs rest k)
taken_on a b c (ask.Wait count ∷ asks) more ps qs h k = taken_on a b c asks more ps qs h k
taken_on a b c (ask.Stop ∷ asks) more ps qs h k = taken_on a b c asks more ps qs h k

-- what goes on from what is known begins with what is known to be published
begins_listed : (e : EditionParts) (known : Option EditionParts) → Begins e known → StartsWith e.solids (seen_solids known)
begins_listed e None h = (e.solids, refl)
begins_listed e (Some v) h = h.1

-- pages that are taken are of one list
pub taken_of_one : (before after last : ReaderParts) (asks : List Ask) (ps : List Page) (e : EditionParts) → AreTaken before asks ps after → Looked after last e
    → ArePagesOfOneList (seen_solids before.edition) asks ps e.solids
taken_of_one before after last [] [] e h look = subst (λ (x : ReaderParts). StartsWith e.solids (seen_solids x.edition)) h (begins_listed e after.edition look.begins)
taken_of_one before after last [] (p ∷ ps) e h look = absurd h
taken_of_one before after last (ask.Page from most ∷ asks) [] e h look = absurd h
taken_of_one before after last (ask.Page from most ∷ asks) (p ∷ ps) e (next, f, seen, is, rest) look = (
  f.solids,
  begins_listed f before.edition seen.begins,
  is,
  subst (λ (x : Option EditionParts). ArePagesOfOneList (seen_solids x) asks ps e.solids) seen.known (taken_of_one next after last asks ps e rest look),
)
taken_of_one before after last (ask.Wait count ∷ asks) ps e h look = taken_of_one before after last asks ps e h look
taken_of_one before after last (ask.Stop ∷ asks) ps e h look = taken_of_one before after last asks ps e h look

-- the next thing that a script asks
pub taken_next : (a b c : ReaderParts) (asks : List Ask) (i : ℕ) (d : Ask) (ps qs all : List Page) → i < length asks → AreTaken a (take i asks) ps b
    → AreTaken b (get_or asks i d ∷ []) qs c → all ≡ ps ++ qs → AreTaken a (take (i + 1) asks) all c
taken_next a b c asks i d ps qs all lt h k e =
    subst (λ l. AreTaken a l all c) (sym (take_more asks i d lt)) (subst (λ l. AreTaken a (take i asks ++ get_or asks i d ∷ []) l c) (sym e)
    (taken_on a b c (take i asks) (get_or asks i d ∷ []) ps qs h k))

-- what a reader knows after it has taken pages goes on from what it knew
goes_on : (a e f : EditionParts) → GoesOn f e → GoesOn e a → GoesOn f a
goes_on a e f (same, more) (same', rest) = (same ∙ same', starts_on f.solids e.solids a.solids more rest)

pub taken_known : (first : EditionParts) (before after : ReaderParts) (asks : List Ask) (ps : List Page) → before.edition ≡ Some first → AreTaken before asks ps after
    → (e : EditionParts) × (after.edition ≡ Some e) × GoesOn e first
taken_known first before after [] [] known h = (first, ap (λ (x : ReaderParts). x.edition) h ∙ known, (refl, ([], sym (append-nil first.solids))))
taken_known first before after [] (p ∷ ps) known h = absurd h
taken_known first before after (ask.Page from most ∷ asks) [] known h = absurd h
taken_known first before after (ask.Page from most ∷ asks) (p ∷ ps) known (next, e, look, is, rest) =
    let begins : GoesOn e first = subst (Begins e) known look.begins in
    let (f, seen, on) = taken_known e next after asks ps look.known rest in (f, seen, goes_on first e f on begins)
taken_known first before after (ask.Wait count ∷ asks) ps known h = taken_known first before after asks ps known h
taken_known first before after (ask.Stop ∷ asks) ps known h = taken_known first before after asks ps known h

-- at first any list will do
from_nothing : (before last : List (List Bool)) (asks : List Ask) (ps : List Page) → ArePagesOfOneList before asks ps last → ArePagesOfOneList [] asks ps last
from_nothing before last [] [] h = (last, refl)
from_nothing before last [] (p ∷ ps) h = absurd h
from_nothing before last (ask.Page from most ∷ asks) [] h = absurd h
from_nothing before last (ask.Page from most ∷ asks) (p ∷ ps) (list, starts, is, rest) = (list, (list, refl), is, rest)
from_nothing before last (ask.Wait count ∷ asks) ps h = from_nothing before last asks ps h
from_nothing before last (ask.Stop ∷ asks) ps h = from_nothing before last asks ps h

pub told_tale : (p : ProblemParts) (before after last : ReaderParts) (asks : List Ask) (tale : ReaderTale) (e : EditionParts) → IsReaderOf p before
    → AreTaken before asks tale.pages.items after → Looked after last e → tale.last.items ≡ e.solids → IsTale p asks tale
told_tale p before after last asks tale e reads taken look whole =
    let (f, known, on) = taken_known reads.edition before after asks tale.pages.items reads.seen taken in
    let begins : GoesOn e f = subst (Begins e) known look.begins in
    let problem : e.problem ≡ p = begins.0 ∙ on.0 ∙ reads.problem in
    record {
      pages = subst (ArePagesOfOneList [] asks tale.pages.items) (sym whole)
          (from_nothing (seen_solids before.edition) e.solids asks tale.pages.items (taken_of_one before after last asks tale.pages.items e taken look));
      solutions = subst (λ (q : ProblemParts). AreSolutions q tale.last.items) problem (subst (AreSolutions e.problem) (sym whole) look.kept);
    }
