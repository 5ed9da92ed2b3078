-- Steps that may have a fault.
use Rattle.std.specs.Prelude.{◌≡◌, Result, Ok, Err}
use Rattle.solid_model.specs.declared.fault.Fault.{Fault}
use Rattle.solid_model.specs.declared.fault.Refused.{Refused}
use Rattle.solid_model.specs.declared.fault.Refused.TheVariants as refused

-- what is done with a value; a fault stays
infixl 10 ◌>>=◌
abbrev pub ◌>>=◌ : {A B : Type 0} → Result A Fault → (A → Result B Fault) → Result B Fault
(Ok x) >>= f = f x
(Err e) >>= f = Err e

-- a call that changes a value comes to what is owed: the value is that then, or the fault is answered;
-- out of memory tells nothing
abbrev pub ComesTo : {A : Type 0} → Result A Fault → A → Result (Unit {0}) Refused → Type 0
ComesTo owed new (Ok _) = owed ≡ Ok new
ComesTo owed new (Err (refused.Fault fault)) = owed ≡ Err fault
ComesTo owed new (Err refused.Memory) = Unit {0}
