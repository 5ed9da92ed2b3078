-- Pages, which are written while a search goes on.
use Rattle.std.specs.Prelude.{◌≡◌, ◌≤◌, Bool, true, false, ℕ, List, [], ◌++◌, length, take, IsPermutation}
use Rattle.solid_model.specs.Limits.{most_page_choices}
use Rattle.lemmas.specs.Lists.{Each}
use Rattle.sink_pages.specs.PageTexts.{Page, choices_on, pages_text}

-- a page tells 1 to 256 choices
abbrev pub IsPage : Page → Type 0
IsPage page = (1 ≤ length page) × (length page ≤ most_page_choices)

-- The pages that tell these choices: where pages are asked for, together they tell each of them once, in whatever order; and
-- else there are none.
abbrev pub ArePagesOf : Bool → List (List Bool) → List Page → Type 0
ArePagesOf true choices pages = Each IsPage pages × IsPermutation (choices_on pages) choices
ArePagesOf false choices pages = pages ≡ []

-- the text is pages of these choices, if they are asked for
abbrev pub TellsPages : Bool → List (List Bool) → List ℕ → Type 0
TellsPages paged choices text = (pages : List Page) × ArePagesOf paged choices pages × (text ≡ pages_text 0 0 pages)

-- or the first of them
abbrev pub BeginsPages : Bool → List (List Bool) → List ℕ → Type 0
BeginsPages paged choices text =
    (pages : List Page) × ArePagesOf paged choices pages × (first : ℕ) × (text ≡ pages_text 0 0 (take first pages))

-- Two texts are one; where pages are asked for they are one behind their pages, which tell the same choices.
abbrev pub SameButPages : Bool → List ℕ → List ℕ → Type 0
SameButPages false text other = text ≡ other
SameButPages true text other = (pages others : List Page) × IsPermutation (choices_on pages) (choices_on others)
    × (rest : List ℕ) × (text ≡ pages_text 0 0 pages ++ rest) × (other ≡ pages_text 0 0 others ++ rest)
