-- A session: readers are asked beside a search.
use Rattle.std.specs.Prelude.{◌≡◌, ◌⊎◌, Bool, true, false, ℕ, List, length}
use Rattle.std.specs.List.{list_any}
use Rattle.solid_model.specs.Blocks.{ProblemParts}
use Rattle.lemmas.specs.Lists.{Member, Each}
use Rattle.solid_model.specs.Search.{SearchLimits}
use Rattle.query_session.specs.declared.ask.Ask.{Ask}
use Rattle.query_session.specs.declared.ask.Ask.TheVariants as ask
use Rattle.query_session.specs.Tales.{AreTales}
use Rattle.search_end.specs.Stopped.{IsEndOf, WasStopped, end_solids}
use Rattle.session_run.specs.declared.session.Session.{Session}

abbrev pub is_stop : Ask → Bool
is_stop (ask.Page from most) = false
is_stop (ask.Wait count) = false
is_stop ask.Stop = true

-- some script asks to stop
abbrev pub asks_stop : List (List Ask) → Bool
asks_stop scripts = list_any (list_any is_stop) scripts

-- each of some choices is listed, or as many are listed as there may be
abbrev pub AreAmong : ℕ → List (List Bool) → List (List Bool) → Type 0
AreAmong most listed choices = Each (Member listed) choices ⊎ (length listed ≡ most)

-- A session of a problem within limits, by the scripts of its readers: there is a tale of each reader, and an end of the
-- search, which was stopped only where some script asks to stop. Whatever a reader was told is listed at the end, or as many
-- solids are listed as the limit.
pub record IsSession (p : ProblemParts) (limits : SearchLimits) (scripts : List (List Ask)) (s : Session) : Type 0 where
  pub tales : AreTales p scripts s.tales.items
  pub end : IsEndOf p limits s.end
  pub stopped : WasStopped s.end → asks_stop scripts ≡ true
  pub listed : Each (λ tale. AreAmong limits.solids (end_solids s.end) tale.last.items) s.tales.items
