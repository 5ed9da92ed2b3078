-- The rule of a book, which holds at each of its steps, whoever makes them.
use Rattle.std.specs.Prelude.{◌≡◌, ◌+◌, ℕ, List, Some}
use mathlib.Core.Option.{some}
use lib.ListN.{get_elem?}
use Rattle.solution_book.specs.Editions.{EditionParts, ReaderParts, Begins}

-- what is published begins with what the writer and each reader know
abbrev pub Keeps : EditionParts → List ReaderParts → Type 0
Keeps published known = (seat : ℕ) (v : ReaderParts) → get_elem? known seat ≡ some v → Begins published v.edition

-- a look: after the step it is known what is published, and that this begins with what was known
abbrev pub Sees : ReaderParts → EditionParts → EditionParts → ReaderParts → Type 0
Sees before _ published after =
    (after ≡ record { edition = Some published; looks = before.looks + 1 }) × Begins published before.edition
