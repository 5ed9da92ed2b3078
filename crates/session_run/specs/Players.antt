-- Readers that do what they are asked.
use Rattle.std.specs.Prelude.{List, [], ◌∷◌, Option, IfSome}
use Rattle.solid_model.specs.Blocks.{ProblemParts}
use Rattle.solution_book.specs.declared.reader.Page.{Page}
use Rattle.solution_book.specs.Editions.{ReaderParts}
use Rattle.query_session.specs.declared.ask.Ask.{Ask}
use Rattle.query_session.specs.Tales.{AreTaken, IsReaderOf}

-- a reader, and the pages that it has taken, if it has done what it was asked
pub record PlayerParts : Type 0 where
  pub reader : ReaderParts
  pub pages : Option (List Page)

-- from a reader of a book of the problem it has come to those pages by what its script asks
abbrev pub HasPlayed : ProblemParts → List Ask → PlayerParts → Type 0
HasPlayed p script x = IfSome x.pages (λ pages. (before : ReaderParts) × IsReaderOf p before × AreTaken before script pages x.reader)

-- each by its own script
abbrev pub HaveAllPlayed : ProblemParts → List (List Ask) → List PlayerParts → Type 0
HaveAllPlayed p [] [] = Unit {0}
HaveAllPlayed p [] (x ∷ xs) = ⊥
HaveAllPlayed p (script ∷ scripts) [] = ⊥
HaveAllPlayed p (script ∷ scripts) (x ∷ xs) = HasPlayed p script x × HaveAllPlayed p scripts xs
