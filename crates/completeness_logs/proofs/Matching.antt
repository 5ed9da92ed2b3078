-- The choices that a log lists are all matching ones, each once.
use Rattle.std.proofs.Common.{◌≡◌, ◌≢◌, Bool, ℕ, List, length, IsPermutation, sym, subst}
use Rattle.std.proofs.lemmas.List.Sorted.{IsPermutation-sym}
use Rattle.std.proofs.lemmas.Option.{none-some}
use Rattle.lemmas.specs.Lists.{Member, Each, Ascends}
use Rattle.lemmas.proofs.Lists.{each-from}
use Rattle.lemmas.proofs.Permutations.{member-permutation}
use Rattle.column_laws.proofs.LivePrefixes.{matching_met, met_matching}
use Rattle.solid_model.specs.declared.segment.Segment.{Segment}
use Rattle.solid_model.specs.declared.segment.Style.{Style}
use Rattle.solid_model.specs.Blocks.{ProblemParts, IsBlocksOf}
use Rattle.solid_model.specs.Choices.{AreChoicesThat, ChoicePrecedes, IsMatchingChoice}
use Rattle.solid_model.specs.Panels.{coordinates_of, IsGridOf}
use Rattle.solid_model.specs.Runs.{IsDrawing}
use Rattle.completeness_logs.specs.Logs.{nothing_known}
use Rattle.completeness_logs.specs.LogTexts.{IsLog}
use Rattle.completeness_logs.proofs.Listed.{AreUnder, listed_under}

module _ (p : ProblemParts) (text : List ℕ) (choices : List (List Bool)) (log : IsLog p text choices) where
  -- where nothing is known, nothing is said against a choice
  under : AreUnder p nothing_known choices
  under = subst (AreUnder p nothing_known) (sym log.lists) (listed_under p log.tree nothing_known (λ block value e. absurd (none-some value e)) log.under)

  -- by the log alone the choices are of one length, and differ
  pub log_lengths : Each (λ choice. length choice ≡ p.blocks.count) choices
  log_lengths = each-from (λ choice. length choice ≡ p.blocks.count) choices under.long

  pub log_once : Ascends ◌≢◌ choices
  log_once = under.once

  -- and they are the matching ones of each drawing with this grid
  module _ (drawing : Segment → Style) (is : IsDrawing drawing) (grid : IsGridOf drawing p.grid) (blocks : IsBlocksOf p.grid p.blocks) where
    abbrev IsMatching : List Bool → Type 0
    IsMatching = IsMatchingChoice drawing (coordinates_of p.grid) p.blocks.numbers

    matching : (choice : List Bool) → Member choices choice → (length choice ≡ p.blocks.count) × IsMatching choice
    matching choice m = (under.long choice m, met_matching drawing is p grid blocks choice (under.long choice m) (under.met choice m))

    pub log_matches : Each (λ choice. (length choice ≡ p.blocks.count) × IsMatching choice) choices
    log_matches = each-from (λ choice. (length choice ≡ p.blocks.count) × IsMatching choice) choices matching

    pub log_complete : (choice : List Bool) → length choice ≡ p.blocks.count → IsMatching choice → Member choices choice
    log_complete choice whole matches = under.complete choice whole (λ block value e. absurd (none-some value e)) (matching_met drawing is p grid blocks choice whole matches)

    pub log_ordered : (ordered : List (List Bool)) → IsPermutation choices ordered → Ascends ChoicePrecedes ordered → AreChoicesThat IsMatching p.blocks.count ordered
    log_ordered ordered permuted ascends = record {
      each = each-from (λ choice. (length choice ≡ p.blocks.count) × IsMatching choice) ordered
          (λ choice m. matching choice (member-permutation ordered choices choice (IsPermutation-sym choices ordered permuted) m));
      ordered = ascends;
      complete = λ choice whole matches. member-permutation choices ordered choice permuted (log_complete choice whole matches);
    }
