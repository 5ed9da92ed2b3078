-- What readers of a book tell.
use Rattle.std.specs.Prelude.{◌≡◌, Bool, List, [], ◌∷◌, Option, Some, None}
use Rattle.solid_model.specs.Blocks.{ProblemParts}
use Rattle.solid_model.specs.Solutions.{AreSolutions}
use Rattle.solution_book.specs.declared.reader.Page.{Page}
use Rattle.solution_book.specs.Editions.{EditionParts, ReaderParts, IsEdition, Looked, StartsWith}
use Rattle.solution_book.specs.Pages.{IsPageOf}
use Rattle.query_session.specs.declared.ask.Ask.{Ask}
use Rattle.query_session.specs.declared.ask.Ask.TheVariants as ask
use Rattle.query_session.specs.declared.ask.ReaderTale.{ReaderTale}

-- a reader of a book of the problem, which has seen what was published
pub record IsReaderOf (p : ProblemParts) (known : ReaderParts) : Type 0 where
  pub edition : EditionParts
  pub seen : known.edition ≡ Some edition
  pub problem : edition.problem ≡ p
  pub kept : IsEdition edition

-- The pages that a reader takes as it is asked, one for each page that it is asked for, in order: each by a look of its own at
-- the edition that was published at one step, and is a page of that. What else is asked changes nothing that it knows.
abbrev pub AreTaken : ReaderParts → List Ask → List Page → ReaderParts → Type 0
AreTaken before [] [] after = after ≡ before
AreTaken before [] (page ∷ pages) after = ⊥
AreTaken before (ask.Page from most ∷ asks) [] after = ⊥
AreTaken before (ask.Page from most ∷ asks) (page ∷ pages) after =
    (next : ReaderParts) × (e : EditionParts) × Looked before next e × IsPageOf from most e.solids page × AreTaken next asks pages after
AreTaken before (ask.Wait count ∷ asks) pages after = AreTaken before asks pages after
AreTaken before (ask.Stop ∷ asks) pages after = AreTaken before asks pages after

-- what was seen of the published list
abbrev pub seen_solids : Option EditionParts → List (List Bool)
seen_solids None = []
seen_solids (Some e) = e.solids

-- One page for each that is asked for, in order: for each there is a list that begins with those of the pages before it, and
-- the page is just its part from the place on that was asked for, at most as long as was asked. The last list begins with all
-- of them.
abbrev pub ArePagesOfOneList : List (List Bool) → List Ask → List Page → List (List Bool) → Type 0
ArePagesOfOneList before [] [] last = StartsWith last before
ArePagesOfOneList before [] (page ∷ pages) last = ⊥
ArePagesOfOneList before (ask.Page from most ∷ asks) [] last = ⊥
ArePagesOfOneList before (ask.Page from most ∷ asks) (page ∷ pages) last =
    (list : List (List Bool)) × StartsWith list before × IsPageOf from most list page × ArePagesOfOneList list asks pages last
ArePagesOfOneList before (ask.Wait count ∷ asks) pages last = ArePagesOfOneList before asks pages last
ArePagesOfOneList before (ask.Stop ∷ asks) pages last = ArePagesOfOneList before asks pages last

-- the tale of a reader: its pages are of one list that grows, whose last members are different solutions of the problem
pub record IsTale (p : ProblemParts) (script : List Ask) (tale : ReaderTale) : Type 0 where
  pub pages : ArePagesOfOneList [] script tale.pages.items tale.last.items
  pub solutions : AreSolutions p tale.last.items

-- one tale for each script, in order
abbrev pub AreTales : ProblemParts → List (List Ask) → List ReaderTale → Type 0
AreTales p [] [] = Unit {0}
AreTales p [] (tale ∷ tales) = ⊥
AreTales p (script ∷ scripts) [] = ⊥
AreTales p (script ∷ scripts) (tale ∷ tales) = IsTale p script tale × AreTales p scripts tales
