-- The log of a bar with a notch. Each claim of the log is told by a test of one line, and the solid by tests of all lines.
use Rattle.std.proofs.Common.{◌≡◌, ◌≢◌, true, false, ℕ, zero, suc, ◌<◌, ◌≤◌, List, [], ◌∷◌, ◌++◌, map, None, refl, ap, sym, ◌∙◌, codes, arith}
use Rattle.std.specs.Fmt.{decimal}
use Rattle.std.proofs.lemmas.Bool.{false≢true}
use Rattle.std.proofs.lemmas.Fmt.{decimal_digit}
use Rattle.std.proofs.lemmas.Option.{none-some}
use Rattle.lemmas.proofs.Tests.{passes_all}
use Rattle.solid_model.specs.declared.cell.Axis.TheVariants.{X, Y, Z}
use Rattle.solid_model.specs.declared.frame.View.TheVariants.{Front}
use Rattle.solid_model.specs.Demands.{AllMet, can_be_met, lines_of}
use Rattle.dxf_groups.specs.TextLines.{text_lines}
use Rattle.column_laws.proofs.AllLines.{lines_are_listed}
use Rattle.column_laws.proofs.ForcedDecisions.{out_with}
use Rattle.column_laws.proofs.MetLines.{AreSized, met_computed}
use Rattle.completeness_logs.specs.declared.entry.LinePlace.{LinePlace}
use Rattle.completeness_logs.specs.Logs.{KnownBlocks, LogTree, IsTreeUnder, ShowsFail, ShowsForce, line_placed, nothing_known, tree_entries, with_block}
use Rattle.completeness_logs.specs.Logs.LogTree.{fails, whole, forces, splits}
use Rattle.completeness_logs.specs.LogTexts.{IsLog, closing_line, entry_line, most_listed, opening_line}
use Rattle.completeness_logs.specs.SmallLogs.{notched_bar}

pub sized : AreSized notched_bar
sized X = refl
sized Y = refl
sized Z = refl

-- an upright line of the front's upper row
abbrev pub stroke : ℕ → LinePlace
stroke at = record { view = Front; upright = true; at = at; cell = 1 }

abbrev pub bar_tree : LogTree
bar_tree = splits 0 (forces 1 false (stroke 2) whole) (fails (stroke 3))

-- what is known where the bar is full, then that the notch is empty, or where the bar is empty
abbrev pub bar_full : KnownBlocks
bar_full = with_block nothing_known 0 true

abbrev pub notch_empty : KnownBlocks
notch_empty = with_block bar_full 1 false

abbrev pub bar_empty : KnownBlocks
bar_empty = with_block nothing_known 0 false

pub notch_forced : ShowsForce notched_bar bar_full 1 false (stroke 2)
notch_forced = (refl, out_with notched_bar sized bar_full (line_placed (stroke 2)) false 0 (omega arith) 1 refl refl true refl)

pub stroke_fails : ShowsFail notched_bar bar_empty (stroke 3)
stroke_fails = (refl, λ met. false≢true ((met_computed notched_bar sized bar_empty (line_placed (stroke 3))).1 met))

pub all_decided : (block : ℕ) → block < 2 → notch_empty block ≢ None
all_decided zero l e = none-some true (sym e)
all_decided (suc zero) l e = none-some false (sym e)
all_decided (suc (suc n)) l e = omega (arith, l)

pub all_met : AllMet notched_bar notch_empty
all_met l has = (met_computed notched_bar sized notch_empty l).0
    (passes_all (can_be_met notched_bar notch_empty) (lines_of notched_bar.grid) l refl (lines_are_listed notched_bar.grid l has))

under : IsTreeUnder notched_bar nothing_known bar_tree
under = ((omega arith, refl), ((omega arith, refl), notch_forced, (all_decided, all_met)), stroke_fails)

-- the lines, by the words of the numbers 0 to 3
abbrev spelled_by : List ℕ → List ℕ → List ℕ → List ℕ → List (List ℕ)
spelled_by none one two three =
    (codes "log 1 blocks " ++ two)
    ∷ (codes "split " ++ none)
    ∷ (codes "force " ++ (one ++ 32 ∷ (codes "0 front u " ++ (two ++ 32 ∷ one))))
    ∷ codes "solid"
    ∷ (codes "fail front u " ++ (three ++ 32 ∷ one))
    ∷ (codes "end " ++ one)
    ∷ []

in_decimals : spelled_by (decimal 0) (decimal 1) (decimal 2) (decimal 3) ≡ spelled_by (48 ∷ []) (49 ∷ []) (50 ∷ []) (51 ∷ [])
in_decimals =
    ap (λ w. spelled_by w (decimal 1) (decimal 2) (decimal 3)) (decimal_digit 0 (omega arith))
    ∙ ap (λ w. spelled_by (48 ∷ []) w (decimal 2) (decimal 3)) (decimal_digit 1 (omega arith))
    ∙ ap (λ w. spelled_by (48 ∷ []) (49 ∷ []) w (decimal 3)) (decimal_digit 2 (omega arith))
    ∙ ap (λ w. spelled_by (48 ∷ []) (49 ∷ []) (50 ∷ []) w) (decimal_digit 3 (omega arith))

spelled : opening_line 2 ∷ map entry_line (tree_entries bar_tree) ++ closing_line 1 ∷ [] ≡ spelled_by (decimal 0) (decimal 1) (decimal 2) (decimal 3)
spelled = refl

pub log_of : (text : List ℕ) → text_lines text ≡ spelled_by (48 ∷ []) (49 ∷ []) (50 ∷ []) (51 ∷ []) → IsLog notched_bar text ((true ∷ false ∷ []) ∷ [])
log_of text lines = record {
  tree = bar_tree;
  under = under;
  short = (refl, (refl, (refl, (refl, tt))));
  few = (let few : 1 ≤ most_listed = omega arith in few);
  lines = lines ∙ sym in_decimals ∙ sym spelled;
  lists = refl;
}
