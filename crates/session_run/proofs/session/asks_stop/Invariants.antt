use Rattle.std.proofs.Common.{◌≡◌, drop, map}
use Rattle.session_run.specs.Session.{asks_stop}
use Rattle.session_run.proofs.session.asks_stop.Given as goal

abbrev pub invariant-loop-script : goal.invariant-loop-script
invariant-loop-script l = asks_stop (map (λ v. v.items) (drop l.script-index l.scripts)) ≡ asks_stop (map (λ v. v.items) l.scripts)
