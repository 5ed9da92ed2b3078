-- Of the choices so far those that fit are kept, and the sieve is as it was.
use Rattle.std.specs.Prelude.{◌≡◌, take}
use Rattle.page_calls.specs.Those.{AreThose}
use Rattle.page_calls.proofs.sieve.sift.Given as goal

abbrev pub invariant-loop-choice : goal.invariant-loop-choice
invariant-loop-choice g l = AreThose (g.S.Sieve.fits l.initial.sieve) (take l.choice-index l.choices) l.kept.items × (l.sieve ≡ l.initial.sieve)
