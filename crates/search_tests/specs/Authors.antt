-- A writer with the solids that it publishes from.
use Rattle.std.specs.Prelude.{Bool, List}
use Rattle.solid_model.specs.Solutions.{AreSolutions}
use Rattle.solution_book.specs.Editions.{BookParts, StartsWith}

pub record AuthorParts : Type 0 where
  pub book : BookParts
  pub solids : List (List Bool)

-- the solids are solutions of the book's problem, none twice, and the first ones are published
pub record IsAuthor (a : AuthorParts) : Type 0 where
  pub solved : AreSolutions a.book.edition.problem a.solids
  pub first : StartsWith a.solids a.book.edition.solids
