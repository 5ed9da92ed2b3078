-- The last line of a log.
use Rattle.std.proofs.Common.{◌≡◌, ℕ, List, [], ◌∷◌, length, Option, Some, refl, sym, subst, arith}
use Rattle.solid_model.specs.Blocks.{ProblemParts}
use Rattle.dxf_groups.specs.TextLines.{text_lines}
use Rattle.proof_check.specs.declared.fault.LogKind.{LogKind}
use Rattle.proof_check.specs.Checks.{IsRestOfLog, IsRefusedFrom, IsWrongEnd}
use Rattle.proof_check.specs.LogLines.{LogReading}

-- a text without a byte has no line
no_lines : (cs : List ℕ) → length cs ≡ 0 → text_lines cs ≡ []
no_lines [] e = refl
no_lines (c ∷ cs) e = absurd (omega (arith, e))

module _ (r : LogReading) (p : ProblemParts) (listed number : ℕ) (cs line after : List ℕ) (first : text_lines cs ≡ line ∷ text_lines after) where
  -- what is wrong with it
  pub wrong_end : (said : Option ℕ) (kind : LogKind) (at : ℕ) → r.end line ≡ said
      → IsWrongEnd listed number (text_lines after) said kind at → IsRefusedFrom p r [] listed number (text_lines cs) kind at
  wrong_end said kind at e wrong = subst (λ ls. IsRefusedFrom p r [] listed number ls kind at) (sym first)
      (subst (λ o. IsWrongEnd listed number (text_lines after) o kind at) (sym e) wrong)

  -- and when it is right
  pub right_end : r.end line ≡ Some listed → length after ≡ 0 → IsRestOfLog p r [] listed (text_lines cs)
  right_end e none = subst (λ ls. IsRestOfLog p r [] listed ls) (sym first) (e, no_lines after none)
