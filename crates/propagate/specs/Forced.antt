-- What the lines of a grid force, one after another.
use Rattle.std.specs.Prelude.{◌≡◌, Bool, ℕ, List, [], ◌∷◌, ◌++◌, Option}
use Rattle.propagate.specs.declared.stepping.Forcing.{Forcing}
use Rattle.propagate.specs.declared.stepping.Forcing.TheVariants.{Forced, Stable, Conflict}
use Rattle.propagate.specs.Looking.{IsLeastIn}
use Rattle.solid_model.specs.declared.decision.Decision.{Decision}
use Rattle.solid_model.specs.declared.line_id.LineId.{LineId}
use Rattle.solid_model.specs.Blocks.{ProblemParts}
use Rattle.solid_model.specs.Decisions.{decided_by}
use Rattle.solid_model.specs.Demands.{lines_of, AllMet, IsFirstBroken}
use Rattle.line_demands.specs.Excluding.{ExcludesOpen}
use Rattle.solid_model.specs.Forcing.{IsExcluded}
use Rattle.lemmas.specs.Lists.{Member}

-- a line excludes nothing
abbrev pub IsCalm : ProblemParts → (ℕ → Option Bool) → LineId → Type 0
IsCalm p known l = (block : ℕ) (value : Bool) → ExcludesOpen p known l block value → ⊥

-- The first of these lines that excludes something is this one, and of the blocks of which it excludes a value this is the least,
-- decided the other way; full where it excludes both.
pub record IsFirstForcing (p : ProblemParts) (known : ℕ → Option Bool) (l : LineId) (d : Decision) : Type 0 where
  pub earlier : List LineId
  pub later : List LineId
  pub place : lines_of p.grid ≡ earlier ++ l ∷ later
  pub calm : (m : LineId) → Member earlier m → IsCalm p known m
  pub least : IsLeastIn (ExcludesOpen p known l) d

-- What a step tells, and the decisions after it.
abbrev pub IsStep : ProblemParts → List Decision → List Decision → Forcing → Type 0
IsStep p old now (Conflict l) = (now ≡ old) × IsFirstBroken p (decided_by old) l
IsStep p old now (Forced block full l) = AllMet p (decided_by old) × (now ≡ old ++ record { block = block; full = full } ∷ [])
    × IsFirstForcing p (decided_by old) l record { block = block; full = full }
IsStep p old now Stable = AllMet p (decided_by old) × (now ≡ old) × ((block : ℕ) (value : Bool) → IsExcluded p (decided_by old) block value → ⊥)
