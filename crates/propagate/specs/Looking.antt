-- The least of what is excluded.
use Rattle.std.specs.Prelude.{◌≡◌, ◌==◌, ◌||◌, ◌≤◌, Bool, false, not, ℕ, nat_lt, Option, Some, None, if◌then◌else◌}
use Rattle.solid_model.specs.declared.decision.Decision.{Decision}

-- Of what is excluded, the least block, the opposite of a value of it that is excluded, and full where both are.
pub record IsLeastIn (excluded : ℕ → Bool → Type 0) (d : Decision) : Type 0 where
  pub is : excluded d.block (not d.full)
  pub least : (block : ℕ) (value : Bool) → excluded block value → d.block ≤ block
  pub full : d.full ≡ false → excluded d.block false → ⊥

-- that decision is told, or nothing is excluded
abbrev pub TellsLeast : (ℕ → Bool → Type 0) → Option Decision → Type 0
TellsLeast excluded None = (block : ℕ) (value : Bool) → excluded block value → ⊥
TellsLeast excluded (Some d) = IsLeastIn excluded d

-- the decision that a block has a value, if there is one
abbrev pub decision_on : ℕ → Option Bool → Option Decision
decision_on block None = None
decision_on block (Some full) = Some (record { block = block; full = full })

-- of two decisions the one on the lesser block, or of two on one block that it is full, if one of them is
abbrev pub lesser_decision : Option Decision → Option Decision → Option Decision
lesser_decision None other = other
lesser_decision (Some d) None = Some d
lesser_decision (Some d) (Some e) = if d.block == e.block then Some (record { block = d.block; full = d.full || e.full }) else
    (if nat_lt d.block e.block then Some d else Some e)
