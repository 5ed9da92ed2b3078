-- Which lines are doubted, while decisions are taken and lines are asked.
use Rattle.std.proofs.Common.{◌≡◌, ◌≢◌, ◌==◌, replicate, inl, inr, Bool, true, false, ℕ, ◌<◌, ◌≤◌, List, [], ◌∷◌, ◌++◌, length, take, get_or, set, slice_get, None, Some, IsTrue, ap, sym, subst, ◌∙◌, arith}
use Rattle.std.proofs.lemmas.Bool.{both_ways, cases_Bool, eqb-true, eqb-false}
use Rattle.std.proofs.lemmas.List.{length-set, length-take-le, length-replicate, get_or-replicate, get_or-set_same, get_or-set_other, get_or-take}
use Rattle.std.proofs.lemmas.Option.{same_Some, slice_get_within, get_or_from_slice_get, slice_get-get_or}
use Rattle.column_laws.proofs.AllLines.{lines_are_there}
use Rattle.line_demands.specs.Free.{LeavesFree}
use Rattle.line_demands.specs.Touching.{touches}
use Rattle.propagate.specs.Doubting.{AreDoubted}
use Rattle.propagate.specs.Forced.{IsCalm}
use Rattle.propagate.proofs.Handled.{calm_apart, free_calm}
use Rattle.solid_model.specs.declared.decision.Decision.{Decision}
use Rattle.solid_model.specs.declared.line_id.LineId.{LineId}
use Rattle.solid_model.specs.Blocks.{ProblemParts, IsBlocksOf}
use Rattle.solid_model.specs.Decisions.{decided_by}
use Rattle.solid_model.specs.Demands.{has_line, lines_of, AllMet, CanBeMet}
use Rattle.solid_model.specs.Forcing.{IsLess, IsStable}
use Rattle.solid_model.proofs.DecidedMore.{decided_push}
use Rattle.solid_model.proofs.Lives.{less_with, met_less}
use Rattle.lemmas.specs.Lists.{Member}
use Rattle.lemmas.proofs.ListPlaces.{member-at, member-place}

-- where no mark is after one was set, none was before, and it is another one
pub was_off : (xs : List Bool) (n k : ℕ) → n < length xs → get_or (set xs n true) k false ≡ false → (n ≢ k) × (get_or xs k false ≡ false)
was_off xs n k within off = elim (cases_Bool (n == k)) as (λ _. (n ≢ k) × (get_or xs k false ≡ false)) [
  | inl same ↦ absurd (both_ways (get_or (set xs n true) k false) off
      (ap (λ j. get_or (set xs n true) j false) (sym (eqb-true n k same)) ∙ get_or-set_same xs n true false within))
  | inr other ↦ (eqb-false n k other, sym (get_or-set_other xs n k true false (λ e. eqb-false n k other (sym e))) ∙ off)
]

module _ (p : ProblemParts) where
  -- the line of a number is there
  pub number_there : (k : ℕ) (l : LineId) → slice_get (lines_of p.grid) k ≡ Some l → IsTrue (has_line p.grid l)
  number_there k l at = lines_are_there p.grid l (subst (Member (lines_of p.grid)) (get_or_from_slice_get (lines_of p.grid) k l l at)
      (member-at (lines_of p.grid) k l (slice_get_within (lines_of p.grid) k l at)))

  -- at first all lines are doubted
  pub all_doubted : (ds : List Decision) (count : ℕ) → count ≡ length (lines_of p.grid) → AreDoubted p ds (replicate count true)
  all_doubted ds count is = record {
    count = length-replicate count true ∙ is;
    calm = λ met k l at off. absurd (both_ways (get_or (replicate count true) k false) off
        (get_or-replicate count k true false (let within = slice_get_within (lines_of p.grid) k l at in omega (arith, within, is))));
  }

  -- where nothing is excluded, no line need be doubted
  pub stable_doubted : (ds : List Decision) (doubted : List Bool) → length doubted ≡ length (lines_of p.grid) → IsStable p (decided_by ds) → AreDoubted p ds doubted
  stable_doubted ds doubted count stable = record {
    count = count;
    calm = λ met k l at off block value (none, out). stable.none block value (none, l, number_there k l at, out);
  }

  -- a line that is asked, and excludes nothing, is doubted no more
  pub asked_doubted : (ds : List Decision) (doubted : List Bool) (n : ℕ) (l : LineId) → AreDoubted p ds doubted → slice_get (lines_of p.grid) n ≡ Some l
      → IsCalm p (decided_by ds) l → AreDoubted p ds (set doubted n false)
  asked_doubted ds doubted n l are there calm = record {
    count = length-set doubted n false ∙ are.count;
    calm = λ met k m at off. elim (cases_Bool (n == k)) as (λ _. IsCalm p (decided_by ds) m) [
      | inl same ↦ subst (IsCalm p (decided_by ds)) (same_Some l m (sym there ∙ ap (slice_get (lines_of p.grid)) (eqb-true n k same) ∙ at)) calm
      | inr other ↦ are.calm met k m at (sym (get_or-set_other doubted n k false false (λ e. eqb-false n k other (sym e))) ∙ off)
    ];
  }

  -- the lines before a number exclude nothing where none of them is doubted
  pub calm_before : (ds : List Decision) (doubted : List Bool) (n : ℕ) → AreDoubted p ds doubted → AllMet p (decided_by ds) → n ≤ length (lines_of p.grid)
      → ((k : ℕ) → k < n → get_or doubted k false ≡ false) → (m : LineId) → Member (take n (lines_of p.grid)) m → IsCalm p (decided_by ds) m
  calm_before ds doubted n are met few none m member =
      let lines = lines_of p.grid in
      let (k, within, is) = member-place (take n lines) m member in
      let less : k < n = omega (arith, within, length-take-le n lines few) in
      are.calm met k m (slice_get-get_or lines k m (omega (arith, less, few)) ∙ ap Some (sym (get_or-take n lines k m less) ∙ is m)) (none k less)

  module _ (blocks : IsBlocksOf p.grid p.blocks) (ds : List Decision) (d : Decision) (undecided : decided_by ds d.block ≡ None) where
    -- A decision more: lines that don't touch its block exclude nothing new, and of those that do the ones that may force something
    -- are doubted.
    pub doubted_on : (old new : List Bool) → AreDoubted p ds old → length new ≡ length old → ((k : ℕ) → get_or new k false ≡ false → get_or old k false ≡ false)
        → ((k : ℕ) (l : LineId) → slice_get (lines_of p.grid) k ≡ Some l → touches p d.block l ≡ true → get_or new k false ≡ false
        → CanBeMet p (decided_by (ds ++ d ∷ [])) l → LeavesFree p (decided_by (ds ++ d ∷ [])) l)
        → AreDoubted p (ds ++ d ∷ []) new
    doubted_on old new are long kept free = record {
      count = long ∙ are.count;
      calm = λ met k l at off. elim (cases_Bool (touches p d.block l)) as (λ _. IsCalm p (decided_by (ds ++ d ∷ [])) l) [
        | inl touch ↦ free_calm p blocks (decided_by (ds ++ d ∷ [])) l (free k l at touch off (met l (number_there k l at)))
        | inr clear ↦ calm_apart p blocks ds d undecided l clear (are.calm (λ m has. met_less p (decided_by ds) (decided_by (ds ++ d ∷ []))
            (subst (IsLess (decided_by ds)) (sym (decided_push ds d undecided)) (less_with (decided_by ds) d undecided)) m (met m has)) k l at (kept k off))
      ];
    }
