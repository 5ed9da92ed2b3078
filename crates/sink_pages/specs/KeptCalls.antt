-- Calls that hand out pages, as they are kept.
use Rattle.sink_pages.specs.declared.pages.Told.{Told}
use Rattle.page_calls.specs.Pages.{Call}

-- the call that is kept so
abbrev pub call_of : Told → Call
call_of t = record { number = t.number; total = t.total; choices = t.choices.items; accepted = t.accepted }
