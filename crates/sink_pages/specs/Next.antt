-- The page that is written next.
use Rattle.std.specs.Prelude.{◌≡◌, ◌+◌, ℕ, [], ◌∷◌, length}
use Rattle.report.specs.Texts.{page_text}
use Rattle.sink_pages.specs.declared.next.Next.{Next}
use Rattle.sink_pages.specs.PageTexts.{Page}

-- after so many pages with so many choices, what is written of a page with these choices: nothing of one without any
abbrev pub IsNext : ℕ → ℕ → Page → Next → Type 0
IsNext number total [] n = (n.number ≡ number) × (n.total ≡ total) × (n.text.items ≡ [])
IsNext number total (choice ∷ page) n = (n.number ≡ number + 1) × (n.total ≡ total + length (choice ∷ page))
    × (n.text.items ≡ page_text n.number n.total (choice ∷ page))
