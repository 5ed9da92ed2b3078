-- Causes that are handed on by `?`.
use Rattle.std.proofs.Common.{◌≡◌, Result, Err}
use Rattle.std.specs.Result.{IsErrOf}

-- the cause that is handed on is the cause that was met
pub cause_handed_on : {A B E : Type 0} (r : Result A E) (met : E) → (x : E) × (r ≡ Err x) × (x ≡ met) → (cause : E) → IsErrOf r cause → IsErrOf {T = B} (Err met) cause
cause_handed_on r met (x, is, same) cause e = cc
