-- The scripts so far.
use Rattle.std.proofs.Common.{◌≡◌, map}
use Rattle.query_session.specs.Sessions.{scripts_of}
use Rattle.query_session.proofs.scripts.scripts_of.Given as goal

abbrev pub invariant-loop-reader : goal.invariant-loop-reader
invariant-loop-reader l = map (λ v. v.items) l.scripts.items ≡ scripts_of l.reader l.askings
