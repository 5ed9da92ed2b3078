use Rattle.std.proofs.Common.{◌≡◌, drop}
use Rattle.std.specs.List.{list_any}
use Rattle.session_run.specs.Session.{is_stop}
use Rattle.session_run.proofs.session.is_to_stop.Given as goal

abbrev pub invariant-loop-ask : goal.invariant-loop-ask
invariant-loop-ask l = list_any is_stop (drop l.ask-index l.script) ≡ list_any is_stop l.script
