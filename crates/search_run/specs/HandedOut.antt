-- What was handed out of a book.
use Rattle.std.specs.Prelude.{◌≡◌, Bool, List, Some}
use Rattle.solid_model.specs.Blocks.{ProblemParts}
use Rattle.solution_book.specs.Editions.{EditionParts, ReaderParts, IsEdition, StartsWith}

-- the edition that a reader knows is of the problem, and its list begins with what was handed out
pub record IsReadUpTo (p : ProblemParts) (known : ReaderParts) (handed : List (List Bool)) : Type 0 where
  pub edition : EditionParts
  pub seen : known.edition ≡ Some edition
  pub problem : edition.problem ≡ p
  pub kept : IsEdition edition
  pub begins : StartsWith edition.solids handed
