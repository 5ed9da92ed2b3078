-- Where nothing was excluded before the splits that are to be gone back to.
use Rattle.std.proofs.Common.{◌≡◌, ℕ, List, [], ◌∷◌, ◌++◌, length, take, sym, subst, arith}
use Rattle.completeness_logs.specs.SplitMarks.{AreSplitMarks}
use Rattle.completeness_logs.proofs.SplitMarks.{take_front, take_long}
use Rattle.proof_log.specs.Walks.{AreStableAt}
use Rattle.solid_model.specs.declared.decision.Decision.{Decision}
use Rattle.solid_model.specs.Blocks.{ProblemParts}
use Rattle.solid_model.specs.Decisions.{decided_by}
use Rattle.solid_model.specs.Forcing.{IsStable}

module _ (p : ProblemParts) where
  -- more decisions leave what was before those places as it is
  pub stable_more : (ds es : List Decision) (marks : List ℕ) → AreSplitMarks ds marks → AreStableAt p ds marks → AreStableAt p (ds ++ es) marks
  stable_more ds es [] are stable = tt
  stable_more ds es (m ∷ marks) (l, are) (here, before) =
      let same = sym (take_long ds es m (omega (arith, l))) in
      (subst (λ xs. IsStable p (decided_by xs)) same here, subst (λ xs. AreStableAt p xs marks) same before)

  -- a place more, where nothing is excluded
  pub stable_split : (ds : List Decision) (d : Decision) (marks : List ℕ) → AreStableAt p ds marks → IsStable p (decided_by ds) → AreStableAt p (ds ++ d ∷ []) (length ds ∷ marks)
  stable_split ds d marks before here =
      let same = sym (take_front ds (d ∷ [])) in
      (subst (λ xs. IsStable p (decided_by xs)) same here, subst (λ xs. AreStableAt p xs marks) same before)

  -- back at the last of the places
  module _ (ds : List Decision) (marks : List ℕ) (m : ℕ) (rest : List ℕ) (is : marks ≡ m ∷ rest) (are : AreSplitMarks ds marks) (stable : AreStableAt p ds marks) where
    pub stable_there : IsStable p (decided_by (take m ds))
    stable_there = (subst (AreStableAt p ds) is stable).0

    pub stable_back : (d : Decision) → AreStableAt p (take m ds ++ d ∷ []) rest
    stable_back d = stable_more (take m ds) (d ∷ []) rest (subst (AreSplitMarks ds) is are).1 (subst (AreStableAt p ds) is stable).1
