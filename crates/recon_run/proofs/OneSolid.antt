-- How the writing of one of the solids ends.
use Rattle.std.proofs.Common.{◌≡◌, ◌-◌, ◌<◌, ◌≤◌, inl, Bool, ℕ, List, length, Some, sym, ap, arith, cond, lt-ltb, le-ltb}
use Rattle.std.specs.List.{slice_get}
use Rattle.file_problem.specs.Inputs.{Input}
use Rattle.replies.specs.declared.status.Answer.{Answer}
use Rattle.replies.specs.declared.status.Answer.TheVariants as answers
use Rattle.recon_run.specs.Answers.{TellsNumbered, numbered_answer}
use Rattle.recon_run.specs.Owed.{IsAnEnd, search_for_one}
use Rattle.recon_run.specs.declared.sought.Sought.{Sought}
use Rattle.recon_run.specs.Searched.{AnswersNumbered, FillSolids, IsFittingSearchOf, IsSoughtBy, SearchedParts}
use Rattle.recon_run.proofs.Filled.{filled_at, filled_count}
use Rattle.recon_run.proofs.OnePiece.{whole_listed}
use Rattle.solid_model.specs.declared.cell.Cell.{Cell}
use Rattle.solid_model.specs.declared.ended.EndKind.TheVariants.{Whole}
use Rattle.solid_model.specs.Blocks.{ProblemParts}
use Rattle.solid_model.specs.Search.{SearchLimits}

-- where a number isn't above that of the solids, the answer is that all is done,
numbered_done : (which solids : ℕ) → which ≤ solids → answers.Done ≡ numbered_answer which solids
numbered_done which solids within = sym (ap (λ b. cond b answers.NoSolid answers.Done) (le-ltb solids which within))

-- and otherwise that there is none
pub numbered_lacks : (which solids : ℕ) → solids < which → answers.NoSolid ≡ numbered_answer which solids
numbered_lacks which solids few = sym (ap (λ b. cond b answers.NoSolid answers.Done) (lt-ltb solids which few))

-- what is written of the solid that the choice of a number fills is told of the solid of that number
pub numbered : (writes : List Cell → List ℕ → Type 0) (which : ℕ) (p : ProblemParts) (choices : List (List Bool)) (solids : List (List Cell)) (are : FillSolids p choices solids)
    (choice : List Bool) → 1 ≤ which → which - 1 < length choices → (at : slice_get choices (which - 1) ≡ Some choice) → (text : List ℕ)
    → writes (filled_at p choices solids are (which - 1) choice at).0 text → AnswersNumbered writes which solids answers.Done text
numbered writes which p choices solids are choice some within at text told =
    let (s, there, filled) = filled_at p choices solids are (which - 1) choice at in (
      numbered_done which (length solids) (let many = filled_count p choices solids are in omega (arith, within, some, many)),
      inl (s, (some, there), told),
    )

module _ (writes : ℕ → List Cell → List ℕ → Type 0) (which : ℕ) (limits : SearchLimits) (t : Input) where
  abbrev Tells : Answer → List ℕ → Type 0
  Tells = IsAnEnd (search_for_one writes which limits) (search_for_one writes which limits).tells t

  module _ (sought : Sought) (by : IsSoughtBy t sought) (s : SearchedParts) (is_of : IsFittingSearchOf limits sought s) where
    -- the answer to a whole search is that of the solid of the number
    pub whole_told : s.ended.kind ≡ Whole
        → (solids : List (List Cell)) × FillSolids s.problem s.ended.solids solids
        × ((answer : Answer) (text : List ℕ) → AnswersNumbered (writes t.decimals) which solids answer text → Tells answer text)
    whole_told whole =
        let is = whole_listed limits (λ t. numbered_answer which) (λ t c. TellsNumbered (writes t.decimals) which c.solids) (λ t text other. text ≡ other) t sought by s is_of whole in
        (is.can.solids, is.filled, λ answer text told. (Whole, is.can, told.0, told.1))
