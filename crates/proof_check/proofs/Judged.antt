-- What a line that is there shows.
use Rattle.std.proofs.Common.{◌≡◌, ◌↔◌, Bool, not, ℕ, IsTrue, sym, subst}
use Rattle.solid_model.specs.declared.line_id.LineId.{LineId}
use Rattle.solid_model.specs.Blocks.{ProblemParts}
use Rattle.solid_model.specs.Demands.{has_line, CanBeMet}
use Rattle.solid_model.specs.Forcing.{LineExcludes}
use Rattle.completeness_logs.specs.declared.entry.LinePlace.{LinePlace}
use Rattle.completeness_logs.specs.Logs.{KnownBlocks, line_placed, ShowsFail, ShowsForce}
use Rattle.lemmas.proofs.Truth.{never_both, not_from_never}

pub fails_judged : (p : ProblemParts) (known : KnownBlocks) (s : LinePlace) (l : LineId) (r : Bool) → IsTrue (has_line p.grid l) → l ≡ line_placed s
    → (IsTrue r ↔ CanBeMet p known l) → (IsTrue (not r) ↔ ShowsFail p known s)
fails_judged p known s l r has e same = (
  (λ t. (subst (λ m. IsTrue (has_line p.grid m)) e has, λ met. never_both r (same.1 (subst (λ m. CanBeMet p known m) (sym e) met)) t)),
  (λ shows. not_from_never r (λ t. shows.1 (subst (λ m. CanBeMet p known m) e (same.0 t)))),
)

pub force_judged : (p : ProblemParts) (known : KnownBlocks) (block : ℕ) (full : Bool) (s : LinePlace) (l : LineId) (r : Bool) → IsTrue (has_line p.grid l) → l ≡ line_placed s
    → (IsTrue r ↔ LineExcludes p known l block (not full)) → (IsTrue r ↔ ShowsForce p known block full s)
force_judged p known block full s l r has e same = (
  (λ t. (subst (λ m. IsTrue (has_line p.grid m)) e has, subst (λ m. LineExcludes p known m block (not full)) e (same.0 t))),
  (λ shows. same.1 (subst (λ m. LineExcludes p known m block (not full)) (sym e) shows.1)),
)
