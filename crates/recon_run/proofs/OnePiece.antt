-- How a search ends that answers in one piece.
use Rattle.std.proofs.Common.{◌≡◌, ◌∙◌, ℕ, List, sym, ap, refl, subst}
use Rattle.file_problem.specs.Inputs.{Input}
use Rattle.replies.specs.declared.status.Answer.{Answer}
use Rattle.replies.specs.Status.{end_answer}
use Rattle.recon_run.specs.Answers.{CanEnd, head_of}
use Rattle.recon_run.specs.Owed.{IsAnEnd, in_one_piece}
use Rattle.recon_run.specs.declared.sought.Sought.{Sought}
use Rattle.recon_run.specs.Searched.{IsFittingSearchOf, IsSoughtBy, SearchedParts, search_head}
use Rattle.recon_run.proofs.Searching.{searched_end, searched_left, searched_listing, searched_problem}
use Rattle.recon_run.proofs.Solved.{IsWholeListing, whole_listing}
use Rattle.solid_model.specs.declared.ended.EndKind.{EndKind}
use Rattle.solid_model.specs.declared.ended.EndKind.TheVariants.{Whole, CutNodes, CutSolids}
use Rattle.solid_model.specs.Forcing.{is_live}
use Rattle.solid_model.specs.Search.{SearchLimits}
use Rattle.solid_model.specs.SearchEnds.{EndsAs}

module _ (limits : SearchLimits) (whole : Input → ℕ → Answer) (tells : (t : Input) → CanEnd limits t Whole → List ℕ → Type 0)
    (alike : Input → List ℕ → List ℕ → Type 0) (t : Input) where
  abbrev Tells : Answer → List ℕ → Type 0
  Tells = IsAnEnd (in_one_piece limits whole tells alike) (in_one_piece limits whole tells alike).tells t

  -- the answer to a cut search is how it ended
  at_cut : (kind : EndKind) → (kind ≡ Whole → ⊥) → (c : CanEnd limits t kind) (answer : Answer) (text : List ℕ) → answer ≡ end_answer kind → text ≡ head_of c → Tells answer text
  at_cut Whole cut c answer text is told = absurd (cut refl)
  at_cut CutNodes cut c answer text is told = (CutNodes, c, is, told)
  at_cut CutSolids cut c answer text is told = (CutSolids, c, is, told)

  module _ (sought : Sought) (by : IsSoughtBy t sought) (s : SearchedParts) (is_of : IsFittingSearchOf limits sought s) where
    pub cut_told : (kind : EndKind) → s.ended.kind ≡ kind → (kind ≡ Whole → ⊥) → (answer : Answer) (text : List ℕ) → answer ≡ end_answer kind → text ≡ search_head limits s
        → Tells answer text
    cut_told kind same cut answer text is told =
        let (solids, listed) = searched_listing limits t sought by s is_of in
        at_cut s.ended.kind (λ is_whole. cut (sym same ∙ is_whole)) listed.can answer text (is ∙ ap end_answer (sym same)) (told ∙ listed.head)

    -- and a whole one lists all solids
    pub whole_listed : s.ended.kind ≡ Whole → IsWholeListing limits t s.problem (searched_problem limits t sought by s is_of) s.ended.opened s.ended.solids
    whole_listed is_whole = whole_listing limits t s.problem (searched_problem limits t sought by s is_of) s.ended.opened is_of.0.ended.solids s.ended.solids
        (subst (λ k. EndsAs (is_live s.problem) s.problem.blocks.count limits k s.ended.opened is_of.0.ended.solids) is_whole (searched_end limits t sought by s is_of))
        (searched_left limits t sought by s is_of)
