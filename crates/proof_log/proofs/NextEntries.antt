-- What a step tells is right in a log.
use Rattle.std.proofs.Common.{◌≡◌, not, ◌<◌, List, ◌∷◌, ◌++◌, IsTrue, inl, refl, sym, subst}
use Rattle.column_laws.proofs.AllLines.{lines_are_there}
use Rattle.completeness_logs.specs.declared.entry.LogEntry.TheVariants.{Fail, Force}
use Rattle.completeness_logs.specs.declared.entry.LinePlace.{LinePlace}
use Rattle.completeness_logs.specs.Logs.{KnownBlocks, IsRightEntry, line_placed}
use Rattle.lemmas.specs.Lists.{Member}
use Rattle.lemmas.proofs.Lists.{member-append_right}
use Rattle.propagate.specs.Forced.{IsFirstForcing}
use Rattle.solid_model.specs.declared.decision.Decision.{Decision}
use Rattle.solid_model.specs.declared.line_id.LineId.{LineId}
use Rattle.solid_model.specs.Blocks.{ProblemParts}
use Rattle.solid_model.specs.Demands.{has_line, lines_of, CanBeMet, IsFirstBroken}
use Rattle.solid_model.specs.Forcing.{LineExcludes}

module _ (p : ProblemParts) (known : KnownBlocks) (l : LineId) (s : LinePlace) (placed : line_placed s ≡ l) where
  -- a line that stands among those of a grid is there
  stands : (earlier later : List LineId) → lines_of p.grid ≡ earlier ++ l ∷ later → IsTrue (has_line p.grid l)
  stands earlier later e = lines_are_there p.grid l (subst (λ ls. Member ls l) (sym e) (member-append_right earlier (l ∷ later) l (inl refl)))

  pub right_fail : IsFirstBroken p known l → IsRightEntry p known (Fail s)
  right_fail first = subst (λ m. IsTrue (has_line p.grid m) × (CanBeMet p known m → ⊥)) (sym placed) (stands first.earlier first.later first.place, first.broken)

  -- a forced decision is shown by its line
  pub right_force : (d : Decision) → d.block < p.blocks.count → IsFirstForcing p known l d → IsRightEntry p known (Force d.block d.full s)
  right_force d there first = (
    (there, first.least.is.0),
    subst (λ m. IsTrue (has_line p.grid m) × LineExcludes p known m d.block (not d.full)) (sym placed) (stands first.earlier first.later first.place, first.least.is.1),
  )
