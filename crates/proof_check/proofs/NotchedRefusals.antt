-- What is refused of texts that begin as the log of the bar with a notch does.
use Rattle.std.proofs.Common.{◌≡◌, ◌≢◌, ◌++◌, inr, false, ℕ, List, [], ◌∷◌, refl, ap, sym, ◌∙◌, codes, arith}
use Rattle.std.proofs.lemmas.Bool.{false≢true}
use Rattle.std.proofs.lemmas.Fmt.{decimal_digit}
use Rattle.std.proofs.lemmas.Slice.Eq.{bytes_eq-Decides}
use Rattle.solid_model.specs.Demands.{CanBeMet}
use Rattle.column_laws.proofs.MetLines.{met_computed}
use Rattle.completeness_logs.specs.declared.entry.LogEntry.TheVariants.{Fail, Whole, Force, Split}
use Rattle.completeness_logs.specs.Logs.{line_placed}
use Rattle.completeness_logs.specs.LogTexts.{opening_line}
use Rattle.completeness_logs.specs.SmallLogs.{notched_bar}
use Rattle.completeness_logs.proofs.NotchedBar.{sized, stroke, bar_full, notch_empty, bar_empty, notch_forced, stroke_fails, all_decided, all_met}
use Rattle.proof_check.specs.declared.fault.LogKind.{LogKind}
use Rattle.proof_check.specs.Checks.{IsRefusedFrom}
use Rattle.proof_check.specs.LogLines.{log_reading}
use Rattle.proof_check.specs.Refusals.{AreRefused}
use Rattle.proof_check.proofs.SaidRefusals.{said_lines}

opening : codes "log 1 blocks 2" ≡ opening_line 2
opening = ap (λ w. codes "log 1 blocks " ++ w) (sym (decimal_digit 2 (omega arith)))

-- no other count of blocks is told so
pub other_opening : codes "log 1 blocks 3" ≢ opening_line 2
other_opening e = false≢true ((bytes_eq-Decides (codes "log 1 blocks 3") (codes "log 1 blocks 2")).1 (e ∙ sym opening))

-- where the notch is empty, the last stroke can be met
pub stroke_met : CanBeMet notched_bar notch_empty (line_placed (stroke 3))
stroke_met = (met_computed notched_bar sized notch_empty (line_placed (stroke 3))).0 refl

module _ (kind : LogKind) (line : ℕ) (ls : List (List ℕ)) where
  pub behind_split : IsRefusedFrom notched_bar log_reading (bar_full ∷ bar_empty ∷ []) 0 3 ls kind line
      → AreRefused notched_bar (codes "log 1 blocks 2" ∷ codes "split 0" ∷ ls) kind line
  behind_split more = said_lines notched_bar (codes "log 1 blocks 2" ∷ codes "split 0" ∷ ls) kind line
      (inr (opening, inr (Split 0, refl, inr ((omega arith, refl), omega arith, more))))

  pub behind_force : IsRefusedFrom notched_bar log_reading (notch_empty ∷ bar_empty ∷ []) 0 4 ls kind line
      → IsRefusedFrom notched_bar log_reading (bar_full ∷ bar_empty ∷ []) 0 3 (codes "force 1 0 front u 2 1" ∷ ls) kind line
  behind_force more = inr (Force 1 false (stroke 2), refl, inr (((omega arith, refl), notch_forced), omega arith, more))

  pub behind_solid : IsRefusedFrom notched_bar log_reading (bar_empty ∷ []) 1 5 ls kind line
      → IsRefusedFrom notched_bar log_reading (notch_empty ∷ bar_empty ∷ []) 0 4 (codes "solid" ∷ ls) kind line
  behind_solid more = inr (Whole, refl, inr ((all_decided, all_met), omega arith, more))

  pub behind_fail : IsRefusedFrom notched_bar log_reading [] 1 6 ls kind line
      → IsRefusedFrom notched_bar log_reading (bar_empty ∷ []) 1 5 (codes "fail front u 3 1" ∷ ls) kind line
  behind_fail more = inr (Fail (stroke 3), refl, inr (stroke_fails, omega arith, more))
