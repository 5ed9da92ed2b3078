-- How the writing of all solids ends: pages while they are searched for, and then how the search ended, with the solids.
use Rattle.std.proofs.Common.{◌≡◌, refl, Bool, ℕ, List, length, Option, Result, Ok, Err, sym, ap, subst, ◌∙◌}
use Rattle.std.proofs.Math.Seq.{take-length}
use Rattle.std.specs.Io.KnownBytes.{Appends}
use Rattle.page_calls.specs.Those.{AreThose}
use Rattle.file_problem.specs.Inputs.{HasFurther, HasProblem, Input}
use Rattle.further_views.specs.Further.{further_lines}
use Rattle.replies.specs.declared.status.Answer.{Answer}
use Rattle.replies.specs.declared.status.Failure.{Failure}
use Rattle.replies.specs.Status.{end_answer}
use Rattle.replies.specs.Writings.{EndsText, EndsWriting}
use Rattle.recon_run.specs.Answers.{BeginsAll, BeginsToList, CanEnd, ListsSolids, TellsAll}
use Rattle.recon_run.specs.Owed.{IsAnEnd, answer_at, search_for_all}
use Rattle.recon_run.specs.Pages.{BeginsPages, TellsPages}
use Rattle.recon_run.specs.declared.sought.Sought.{Sought}
use Rattle.recon_run.specs.Searched.{FillSolids, IsFittingSearchOf, IsSoughtBy, SearchedParts, TellsSearch, search_head}
use Rattle.recon_run.proofs.Solved.{IsListing, begins, listing, lists, pages_begin}
use Rattle.recon_run.proofs.TextByText.{ends_after, refused}
use Rattle.sink_pages.specs.PageTexts.{pages_text}
use Rattle.six_views.specs.Further.{FitsChoice, FitsLines}
use Rattle.six_views.proofs.SiftedChoices.{by_lines}
use Rattle.solid_model.specs.declared.cell.Cell.{Cell}
use Rattle.solid_model.specs.declared.ended.EndKind.{EndKind}
use Rattle.solid_model.specs.declared.ended.EndKind.TheVariants.{Whole, CutNodes, CutSolids}
use Rattle.solid_model.specs.Blocks.{ProblemParts}
use Rattle.solid_model.specs.Forcing.{is_live}
use Rattle.solid_model.specs.Search.{SearchLimits}
use Rattle.solid_model.specs.SearchEnds.{EndsAs}

module _ (limits : SearchLimits) (t : Input) (sought : Sought) (by : IsSoughtBy t sought) (s : SearchedParts) (is_of : IsFittingSearchOf limits sought s) where
  abbrev found : SearchedParts
  found = is_of.0

  abbrev same : s.problem ≡ sought.problem
  same = is_of.2.problem ∙ is_of.1.0

  -- the problem that was searched is the input's,
  abbrev searched_sought : HasFurther t s.problem sought.further
  searched_sought = subst (λ (q : ProblemParts). HasFurther t q sought.further) (sym same) by

  abbrev pub searched_problem : HasProblem t s.problem
  searched_problem = searched_sought.0

  -- its search ended so,
  pub searched_end : EndsAs (is_live s.problem) s.problem.blocks.count limits s.ended.kind s.ended.opened found.ended.solids
  searched_end =
      subst (λ k. EndsAs (is_live s.problem) s.problem.blocks.count limits k s.ended.opened found.ended.solids) (sym is_of.2.kind)
      (subst (λ o. EndsAs (is_live s.problem) s.problem.blocks.count limits found.ended.kind o found.ended.solids) (sym is_of.2.opened)
      (subst (λ (q : ProblemParts). EndsAs (is_live q) q.blocks.count limits found.ended.kind found.ended.opened found.ended.solids) (sym same) is_of.1.1))

  -- of what it found those are left that fit,
  pub searched_left : AreThose (FitsLines s.problem (further_lines searched_problem.further)) found.ended.solids s.ended.solids
  searched_left = by_lines s.problem (λ a. (searched_problem.grid.coordinates a).ordered) (further_lines searched_problem.further) sought.further
      searched_sought.1 found.ended.solids s.ended.solids
      (subst (λ (q : ProblemParts). AreThose (FitsChoice q sought.further) found.ended.solids s.ended.solids) (sym is_of.2.problem) is_of.2.those)

  -- so it lists solids
  pub searched_listing : (solids : List (List Cell)) × IsListing limits t s.problem searched_problem s.ended.kind s.ended.opened s.ended.solids solids
  searched_listing = listing limits t s.problem searched_problem s.ended.kind s.ended.opened found.ended.solids s.ended.solids searched_end searched_left

-- the answer of an end, where every whole search is answered alike
all_answered : (paged : Bool) (limits : SearchLimits) (t : Input) (kind : EndKind) (c : CanEnd limits t kind) → end_answer kind ≡ answer_at (search_for_all paged limits) t kind c
all_answered paged limits t Whole c = refl
all_answered paged limits t CutNodes c = refl
all_answered paged limits t CutSolids c = refl

module _ (paged : Bool) (limits : SearchLimits) (t : Input) (sought : Sought) (by : IsSoughtBy t sought) (held mid now : Option (List ℕ)) (rose rises : Type 0) where
  abbrev Tells : Answer → List ℕ → Type 0
  Tells = IsAnEnd (search_for_all paged limits) (ListsSolids paged limits) t

  abbrev Begins : Answer → List ℕ → Type 0
  Begins = IsAnEnd (search_for_all paged limits) (BeginsToList paged limits) t

  -- a search that wasn't written to its end begins an answer by its pages
  pub search_refused : (failure : Failure)
      → EndsWriting (TellsSearch limits sought (TellsPages paged)) (TellsSearch limits sought (BeginsPages paged)) held now rose (Err failure)
      → EndsWriting Tells Begins held now rose (Err failure)
  search_refused = refused SearchedParts Answer (TellsSearch limits sought (TellsPages paged)) (TellsSearch limits sought (BeginsPages paged)) Tells Begins held now rose
      (λ s text begun. let is_of = begun.0 in let (solids, is) = searched_listing limits t sought by s is_of in (
        end_answer s.ended.kind,
        (
          s.ended.kind,
          is.can,
          all_answered paged limits t s.ended.kind is.can,
          pages_begin limits t s.problem (searched_problem limits t sought by s is_of) paged s.ended.kind s.ended.opened s.ended.solids solids is text begun.1,
        ),
      ))

  module _ (s : SearchedParts) (is_of : IsFittingSearchOf limits sought s) (before : List ℕ) (pages : TellsPages paged s.ended.solids before) (appends : Appends held mid before)
      (since : rose → rises) (answer : Answer) (right : answer ≡ end_answer s.ended.kind) where
    -- how the writing of the solids behind the pages ends
    abbrev EndsAll : Result (Unit {0}) Failure → Type 0
    EndsAll r = (solids : List (List Cell)) → FillSolids s.problem s.ended.solids solids
        → EndsText (TellsAll (search_head limits s) t.decimals s.ended.solids solids) (BeginsAll (search_head limits s) t.decimals s.ended.solids solids) mid now rose r

    abbrev of_input : HasProblem t s.problem
    of_input = searched_problem limits t sought by s is_of

    module _ (solids : List (List Cell)) (is : IsListing limits t s.problem of_input s.ended.kind s.ended.opened s.ended.solids solids) where
      -- what is written after the pages of a search is written with them
      after_pages : (r : Result (Unit {0}) Failure) → EndsAll r
          → EndsText (ListsSolids paged limits t s.ended.kind is.can) (BeginsToList paged limits t s.ended.kind is.can) held now rises r
      after_pages r ends =
          ends_after (TellsAll (search_head limits s) t.decimals s.ended.solids solids) (ListsSolids paged limits t s.ended.kind is.can)
          (BeginsAll (search_head limits s) t.decimals s.ended.solids solids) (BeginsToList paged limits t s.ended.kind is.can) before held mid now rose rises
          appends since (begins limits t s.problem of_input paged s.ended.kind s.ended.opened s.ended.solids solids is before pages)
          (pages_begin limits t s.problem of_input paged s.ended.kind s.ended.opened s.ended.solids solids is before
          (pages.0, pages.1, length pages.0, pages.2 ∙ ap (pages_text 0 0) (sym (take-length pages.0))))
          (lists limits t s.problem of_input paged s.ended.kind s.ended.opened s.ended.solids solids is before pages) r (ends solids is.filled)

      is_right : answer ≡ answer_at (search_for_all paged limits) t s.ended.kind is.can
      is_right = right ∙ all_answered paged limits t s.ended.kind is.can

      refused_then : (failure : Failure) → EndsAll (Err failure) → EndsWriting Tells Begins held now rises (Err failure)
      refused_then failure ends =
          refused (Unit {0}) Answer (λ _. ListsSolids paged limits t s.ended.kind is.can) (λ _. BeginsToList paged limits t s.ended.kind is.can) Tells Begins held now rises
          (λ _ text begun. (answer, (s.ended.kind, is.can, is_right, begun))) failure (after_pages (Err failure) ends)

      written_then : (given : Unit {0}) → EndsAll (Ok given) → EndsWriting Tells Begins held now rises (Ok answer)
      written_then given ends =
          let (text, told, more) = after_pages (Ok given) ends in (text, (s.ended.kind, is.can, is_right, told), more)

    pub solids_refused : (failure : Failure) → EndsAll (Err failure) → EndsWriting Tells Begins held now rises (Err failure)
    solids_refused = let (solids, is) = searched_listing limits t sought by s is_of in refused_then solids is

    pub solids_written : (given : Unit {0}) → EndsAll (Ok given) → EndsWriting Tells Begins held now rises (Ok answer)
    solids_written = let (solids, is) = searched_listing limits t sought by s is_of in written_then solids is
