-- What a desk answers to a report.
use Rattle.std.specs.Prelude.{◌≡◌, ◌≢◌, None}
use Rattle.lemmas.specs.Lists.{Member}
use Rattle.solid_model.specs.Reports.{Report}
use Rattle.search_core.specs.declared.desk.Reported.{Reported}
use Rattle.search_core.specs.declared.desk.Reported.TheVariants.{Taken, Stranger, Stop, Gone}
use Rattle.search_core.specs.Desk.{DeskParts, Takes, IsTaken}

-- A report that the desk takes is taken, and its rest handed over. It is a stranger's where the problems differ; or else the
-- desk has ended; or else the piece is gone. These three change nothing.
abbrev pub IsReported : DeskParts → Report → DeskParts → Reported → Type 0
IsReported before r after (Taken rest) = Takes before r × IsTaken before r after × (rest.items ≡ r.rest)
IsReported before r after Stranger = (r.problem ≢ before.problem) × (after ≡ before)
IsReported before r after Stop = (r.problem ≡ before.problem) × (before.end ≢ None) × (after ≡ before)
IsReported before r after Gone = (r.problem ≡ before.problem) × (before.end ≡ None) × (Member before.frontier r.piece → ⊥) × (after ≡ before)
