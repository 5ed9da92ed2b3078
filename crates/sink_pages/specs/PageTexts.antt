-- Pages of choices, and their texts.
use Rattle.std.specs.Prelude.{◌+◌, ℕ, List, [], ◌∷◌, ◌++◌, Bool, length}
use Rattle.report.specs.Texts.{page_text}

-- a page, by the choices that it tells
abbrev pub Page : Type 0
Page = List (List Bool)

-- the choices of pages, one page after another
abbrev pub choices_on : List Page → List (List Bool)
choices_on [] = []
choices_on (page ∷ pages) = page ++ choices_on pages

-- The texts of pages, after so many pages with so many choices: each tells its number, how many choices it and those before it
-- have, and its own.
abbrev pub pages_text : ℕ → ℕ → List Page → List ℕ
pages_text number total [] = []
pages_text number total (page ∷ pages) = page_text (number + 1) (total + length page) page
    ++ pages_text (number + 1) (total + length page) pages
