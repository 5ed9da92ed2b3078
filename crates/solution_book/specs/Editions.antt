-- The editions of a book: what is published, as it is after each publishing. The problem stands beside the list and isn't
-- its first entry, so that the places of the list are those of the solids.
use Rattle.std.specs.Prelude.{◌≡◌, ◌<◌, ℕ, Bool, List, ◌++◌, Option, Some, None}
use Rattle.solid_model.specs.Blocks.{ProblemParts}
use Rattle.solid_model.specs.Solutions.{AreSolutions}

-- an edition: a problem, and the list of solids that are published, each told by its choice of the problem's blocks
pub record EditionParts : Type 0 where
  pub problem : ProblemParts
  pub solids : List (List Bool)

-- each solid is a solution of the problem, and none stands twice
abbrev pub IsEdition : EditionParts → Type 0
IsEdition e = AreSolutions e.problem e.solids

-- a list begins with another one
abbrev pub StartsWith : List (List Bool) → List (List Bool) → Type 0
StartsWith xs ys = (rest : List (List Bool)) × (xs ≡ ys ++ rest)

-- an edition goes on from another one: the problem is the same, and the list begins with the other's
abbrev pub GoesOn : EditionParts → EditionParts → Type 0
GoesOn e before = (e.problem ≡ before.problem) × StartsWith e.solids before.solids

-- an edition goes on from what is known, the last edition that was seen or learnt, if any was
abbrev pub Begins : EditionParts → Option EditionParts → Type 0
Begins e None = Unit {0}
Begins e (Some known) = GoesOn e known

-- a book: the edition that is published, and whether its writer is shut
pub record BookParts : Type 0 where
  pub edition : EditionParts
  pub shut : Bool

-- what one knows of a book: the last edition that was seen or learnt, if any was, and how often one has looked
pub record ReaderParts : Type 0 where
  pub edition : Option EditionParts
  pub looks : ℕ

-- who begins knows nothing and hasn't looked
abbrev pub knows_nothing : ReaderParts
knows_nothing = record { edition = None; looks = 0 }

-- A reader's look at the edition that was published at one step: it goes on from what the reader knew, and is what the reader
-- knows afterwards, who has looked once more at least.
pub record Looked (before after : ReaderParts) (e : EditionParts) : Type 0 where
  pub known : after.edition ≡ Some e
  pub begins : Begins e before.edition
  pub looked : before.looks < after.looks
  pub kept : IsEdition e
