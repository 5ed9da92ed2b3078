-- Each text is right up to the line that is refused.
use Rattle.std.proofs.Common.{inl, inr, true, false, [], ◌∷◌, refl, sym, codes, arith}
use Rattle.std.proofs.lemmas.Option.{none-some}
use Rattle.completeness_logs.specs.declared.entry.LogEntry.TheVariants.{Fail, Whole, Force}
use Rattle.completeness_logs.proofs.NotchedBar.{stroke}
use Rattle.proof_check.specs.declared.fault.LogKind.TheVariants.{BadLine, BadBlock, Unproved, Unsolid, BadCount, Short, Long}
use Rattle.proof_check.proofs.NotchedRefusals.{other_opening, stroke_met, behind_split, behind_force, behind_solid, behind_fail}
use Rattle.proof_check.proofs.laws.refusals_of_notched_bar.Goals as goal

pub returns-clause-exchanged : goal.returns-clause-exchanged
returns-clause-exchanged c = behind_split Unproved 4 (codes "force 1 0 front u 2 1" ∷ codes "fail front u 3 1" ∷ codes "solid" ∷ codes "end 1" ∷ [])
    (behind_force Unproved 4 (codes "fail front u 3 1" ∷ codes "solid" ∷ codes "end 1" ∷ [])
    (inr (Fail (stroke 3), refl, inl (refl, (refl, λ shows. shows.1 stroke_met)))))

pub returns-clause-twice : goal.returns-clause-twice
returns-clause-twice c = behind_split BadBlock 3 (codes "force 0 0 front u 2 1" ∷ codes "solid" ∷ codes "fail front u 3 1" ∷ codes "end 1" ∷ [])
    (inr (Force 0 false (stroke 2), refl, inl (refl, inl (refl, λ undecided. none-some true (sym undecided.1)))))

pub returns-clause-leaf_missing : goal.returns-clause-leaf_missing
returns-clause-leaf_missing c = behind_split BadLine 5 (codes "force 1 0 front u 2 1" ∷ codes "solid" ∷ codes "end 1" ∷ [])
    (behind_force BadLine 5 (codes "solid" ∷ codes "end 1" ∷ [])
    (behind_solid BadLine 5 (codes "end 1" ∷ [])
    (inl (refl, refl, refl))))

pub returns-clause-empty_line : goal.returns-clause-empty_line
returns-clause-empty_line c = behind_split BadLine 3 ([] ∷ codes "force 1 0 front u 2 1" ∷ codes "solid" ∷ codes "fail front u 3 1" ∷ codes "end 1" ∷ [])
    (inl (refl, refl, refl))

pub returns-clause-unforced : goal.returns-clause-unforced
returns-clause-unforced c = behind_split Unsolid 3 (codes "solid" ∷ codes "fail front u 3 1" ∷ codes "end 1" ∷ [])
    (inr (Whole, refl, inl (refl, inl (refl, λ solid. solid.0 1 (omega arith) refl))))

pub returns-clause-no_end : goal.returns-clause-no_end
returns-clause-no_end c = behind_split Short 6 (codes "force 1 0 front u 2 1" ∷ codes "solid" ∷ codes "fail front u 3 1" ∷ [])
    (behind_force Short 6 (codes "solid" ∷ codes "fail front u 3 1" ∷ [])
    (behind_solid Short 6 (codes "fail front u 3 1" ∷ [])
    (behind_fail Short 6 ([])
    ((refl, refl)))))

pub returns-clause-miscounted : goal.returns-clause-miscounted
returns-clause-miscounted c = behind_split BadCount 6 (codes "force 1 0 front u 2 1" ∷ codes "solid" ∷ codes "fail front u 3 1" ∷ codes "end 2" ∷ [])
    (behind_force BadCount 6 (codes "solid" ∷ codes "fail front u 3 1" ∷ codes "end 2" ∷ [])
    (behind_solid BadCount 6 (codes "fail front u 3 1" ∷ codes "end 2" ∷ [])
    (behind_fail BadCount 6 (codes "end 2" ∷ [])
    (inl (refl, (λ e. omega (arith, e)), refl)))))

pub returns-clause-line_behind : goal.returns-clause-line_behind
returns-clause-line_behind c = behind_split Long 7 (codes "force 1 0 front u 2 1" ∷ codes "solid" ∷ codes "fail front u 3 1" ∷ codes "end 1" ∷ [] ∷ [])
    (behind_force Long 7 (codes "solid" ∷ codes "fail front u 3 1" ∷ codes "end 1" ∷ [] ∷ [])
    (behind_solid Long 7 (codes "fail front u 3 1" ∷ codes "end 1" ∷ [] ∷ [])
    (behind_fail Long 7 (codes "end 1" ∷ [] ∷ [])
    (inr (refl, refl, (λ e. cc), refl)))))

pub returns-clause-other_blocks : goal.returns-clause-other_blocks
returns-clause-other_blocks c = inl (other_opening, refl, refl)
