-- Pages that go to a sink, as texts.
use Rattle.std.specs.Prelude.{◌≡◌, Bool, true, false, ℕ, List, map, length, Option}
use Rattle.std.specs.Io.KnownBytes.{Appends}
use Rattle.page_calls.specs.Pages.{Call}
use Rattle.lemmas.specs.Lists.{Each}
use Rattle.sink_pages.specs.PageTexts.{Page, choices_on, pages_text}
use Rattle.page_calls.specs.Those.{AreThoseOfEach}
use Rattle.tv_base.specs.Pieces.{AppendsPrefix}

-- what the sink holds, where it tells it; how often it has failed; and the calls that handed out pages
pub record PagesState : Type 0 where
  pub held : Option (List ℕ)
  pub faults : ℕ
  pub calls : List Call

-- the pages that calls handed out
abbrev pub pages_of : List Call → List Page
pages_of calls = map (λ c. c.choices) calls

-- the sink gained this text; or, once a call was refused, a prefix of it
abbrev pub GainedText : Bool → Option (List ℕ) → Option (List ℕ) → List Call → List ℕ → Type 0
GainedText false before held calls text = Appends before held text
GainedText true before held calls text = (Each (λ c. c.accepted ≡ true) calls → ⊥) × AppendsPrefix before held text

-- Since pages began to go to the sink, it gained the texts of so many pages with so many choices: of each call those choices that
-- fit, if any do. Or, once a call was refused, a prefix of these.
pub record HasGained (fits : List Bool → Type 0) (refused : Bool) (before held : Option (List ℕ)) (calls : List Call) (number total : ℕ) : Type 0 where
  pub pages : List Page
  pub those : AreThoseOfEach fits (pages_of calls) pages
  pub number_is : number ≡ length pages
  pub total_is : total ≡ length (choices_on pages)
  pub text : GainedText refused before held calls (pages_text 0 0 pages)
