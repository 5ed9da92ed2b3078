-- The script so far.
use Rattle.std.proofs.Common.{◌≡◌, take}
use Rattle.query_session.specs.Sessions.{script_of}
use Rattle.query_session.proofs.scripts.script_of.Given as goal

abbrev pub invariant-loop-asking : goal.invariant-loop-asking
invariant-loop-asking l = l.script.items ≡ script_of (take l.asking-index l.askings) l.reader
