-- Pages that were handed out, as they are told: of each the choices that fit.
use Rattle.std.proofs.Common.{◌≡◌, ◌≢◌, ◌↔◌, ◌+◌, inl, inr, Bool, true, false, ℕ, ◌≤◌, List, [], ◌∷◌, ◌++◌, length, Option, Some, Err, IsPermutation, refl, sym, ap, subst, ◌∙◌, arith}
use Rattle.std.proofs.Math.Seq.{take-length}
use Rattle.std.proofs.lemmas.List.{take-append-le}
use Rattle.std.proofs.lemmas.List.Sorted.{IsPermutation-refl, IsPermutation-sym, length_permutation}
use Rattle.std.specs.Io.KnownBytes.{Appends}
use Rattle.page_calls.specs.Those.{AreThose}
use Rattle.page_calls.proofs.Those.{decided_those, few_those, joined, joined_those, those-append, those_alike, those_ascend, those_within}
use Rattle.column_laws.proofs.LivePrefixes.{live_keeps_matching}
use Rattle.further_views.specs.Further.{HasRuns}
use Rattle.replies.specs.Writings.{EndsWriting}
use Rattle.recon_run.specs.declared.sought.Sought.{Sought}
use Rattle.recon_run.specs.Pages.{ArePagesOf, BeginsPages, IsPage, TellsPages}
use Rattle.recon_run.specs.Searched.{SearchedParts, TellsSearch, run_failure}
use Rattle.sink_pages.specs.Gained.{GainedText, HasGained, pages_of}
use Rattle.sink_pages.specs.PageTexts.{Page, choices_on, pages_text}
use Rattle.sink_pages.proofs.Gained.{choices_append}
use Rattle.six_views.specs.Further.{FitsChoice}
use Rattle.six_views.proofs.SiftedChoices.{sifted}
use Rattle.recon_run.proofs.PossibleEnds.{can_list, ordered_once, rearranged}
use Rattle.page_calls.specs.Pages.{AreNumbered, Call, HasAllPaged, HasPaged, choices_of}
use Rattle.page_calls.specs.declared.page_out.RunFault.{RunFault}
use Rattle.page_calls.specs.declared.page_out.RunFault.TheVariants as run_fault
use Rattle.search_end.proofs.DeskAnswers.{live_solution}
use Rattle.solid_model.specs.declared.ended.EndKind.{EndKind}
use Rattle.solid_model.specs.declared.ended.EndKind.TheVariants.{Whole, CutNodes, CutSolids}
use Rattle.solid_model.specs.SearchEnds.{EndsAs}
use Rattle.solid_model.specs.Blocks.{IsBlocksOf, ProblemParts}
use Rattle.solid_model.specs.Cells.{IsSolid}
use Rattle.solid_model.specs.Choices.{AreChoicesThat, ChoicePrecedes, IsMatchingChoice}
use Rattle.solid_model.specs.Forcing.{is_live}
use Rattle.solid_model.specs.Limits.{most_page_choices}
use Rattle.solid_model.specs.Matching.{Matches}
use Rattle.solid_model.specs.Orders.{IsInStatedForm}
use Rattle.lemmas.specs.Lists.{Each, Ascends, Member}
use Rattle.lemmas.specs.Truth.{same_values}
use Rattle.lemmas.proofs.Lists.{IsWithin, each-append, each-at, each-from, each-weaker, member-append_right}
use Rattle.lemmas.proofs.Permutations.{member-permutation, once-permutation}
use Rattle.lemmas.proofs.Truth.{Decides-same_values}
use Rattle.lemmas.proofs.Decisions.{IsDecided}
use Rattle.solid_model.specs.declared.segment.Segment.{Segment}
use Rattle.solid_model.specs.declared.segment.Style.{Style}
use Rattle.solid_model.specs.Runs.{IsDrawing}
use Rattle.solid_model.specs.Panels.{IsGrid, IsGridOf, coordinates_of}
use Rattle.solid_model.specs.Search.{SearchLimits}
use Rattle.solid_model.specs.Solutions.{AreSolutions, IsSolutionOf}
use Rattle.solid_model.specs.Tree.{live_below}
use Rattle.solid_model.proofs.BlockChoices.{some_solids_of_blocks}
use Rattle.solid_model.proofs.CompleteTree.{complete_tree}
use Rattle.tv_base.specs.Pieces.{AppendsPrefix}

-- ---- pages of calls

same_choices : (calls : List Call) → choices_of calls ≡ choices_on (pages_of calls)
same_choices [] = refl
same_choices (c ∷ calls) = ap (λ cs. c.choices ++ cs) (same_choices calls)

same_joined : (P : List Bool → Type 0) (pages : List Page) → joined P pages ≡ choices_on pages
same_joined P [] = refl
same_joined P (page ∷ pages) = ap (λ cs. page ++ cs) (same_joined P pages)

few_on_pages : (n t : ℕ) (calls : List Call) → AreNumbered n t calls → Each (λ page. length page ≤ most_page_choices) (pages_of calls)
few_on_pages n t [] numbered = tt
few_on_pages n t (c ∷ calls) (number, some, few, total, rest) = (few, few_on_pages (n + 1) (t + length c.choices) calls rest)

-- the calls that were added are all, where there were none before
added : (calls more : List Call) → Some calls ≡ Some ([] ++ more) → more ≡ calls
added calls more e = cc

-- ---- what is left of choices in one order and in another

within_permutation : (xs us : List (List Bool)) → IsPermutation xs us → IsWithin xs us
within_permutation xs us moved x k = member-permutation xs us x moved k

-- it is the same in another order
left_moved : (P : List Bool → Type 0) (xs us ys vs : List (List Bool)) → IsPermutation xs us → Ascends ◌≢◌ us → AreThose P xs ys → AreThose P us vs → IsPermutation ys vs
left_moved P xs us ys vs moved once are are_too =
    let back = IsPermutation-sym xs us moved in
    let once_too = once-permutation same_values Decides-same_values us xs back once in
    rearranged ys vs (those_ascend P ◌≢◌ xs ys are once_too) (those_ascend P ◌≢◌ us vs are_too once)
    (those_within P xs us ys vs (within_permutation xs us moved) are are_too) (those_within P us xs vs ys (within_permutation us xs back) are_too are)

-- ---- pages of what fits of calls

module _ (P : List Bool → Type 0) (before now : Option (List ℕ)) (refused : Bool) (calls : List Call) (number total : ℕ)
    (gained : HasGained P refused before now calls number total) (numbered : AreNumbered 0 0 calls) where
  -- they are what is left of the choices of the calls,
  pages_left : AreThose P (choices_of calls) (choices_on gained.pages)
  pages_left = subst (λ cs. AreThose P cs (choices_on gained.pages)) (same_joined P (pages_of calls) ∙ sym (same_choices calls))
      (subst (AreThose P (joined P (pages_of calls))) (same_joined P gained.pages) (joined_those P (pages_of calls) gained.pages gained.those))

  -- and no page is empty or above the limit
  pages_kept : Each IsPage gained.pages
  pages_kept = few_those P most_page_choices (pages_of calls) gained.pages (few_on_pages 0 0 calls numbered) gained.those

-- ---- pages of all that was found

-- where pages of all solids were accepted, the sink gained the texts of pages of those that fit
pub all_told : (P : List Bool → Type 0) (p : ProblemParts) (before now : Option (List ℕ)) (refused : Bool) (calls : List Call) (number total : ℕ)
    (solids kept : List (List Bool)) → HasGained P refused before now calls number total → HasAllPaged p (Some []) (Some calls) solids
    → AreThose P solids kept → (text : List ℕ) × TellsPages true kept text × Appends before now text
all_told P p before now refused calls number total solids kept gained paged are =
    let same = added calls paged.calls paged.adds in
    let once = once-permutation same_values Decides-same_values (choices_of paged.calls) solids paged.all paged.pages.solutions.once in
    let numbered = subst (AreNumbered 0 0) same paged.pages.numbered in
    let accepted = subst (Each (λ c. c.accepted ≡ true)) same paged.accepted in
    let moved = subst (λ cs. IsPermutation (choices_of cs) solids) same paged.all in (
      pages_text 0 0 gained.pages,
      (
        gained.pages,
        (
          pages_kept P before now refused calls number total gained numbered,
          left_moved P (choices_of calls) solids (choices_on gained.pages) kept moved once (pages_left P before now refused calls number total gained numbered) are,
        ),
        refl,
      ),
      by refused accepted gained.text,
    )
  where
    by : (b : Bool) → Each (λ c. c.accepted ≡ true) calls → GainedText b before now calls (pages_text 0 0 gained.pages) → Appends before now (pages_text 0 0 gained.pages)
    by true accepted told = absurd (told.0 accepted)
    by false accepted told = told

-- ---- pages of a search that didn't come to its end

-- a page for each choice
singles : List (List Bool) → List Page
singles [] = []
singles (choice ∷ choices) = (choice ∷ []) ∷ singles choices

single_pages : (choices : List (List Bool)) → Each IsPage (singles choices)
unfolding singles
single_pages [] = tt
single_pages (choice ∷ choices) = ((omega arith, omega arith), single_pages choices)

single_choices : (choices : List (List Bool)) → choices_on (singles choices) ≡ choices
unfolding singles
single_choices [] = refl
single_choices (choice ∷ choices) = ap (λ cs. choice ∷ cs) (single_choices choices)

-- all choices can be told in pages, one in each
pub some_pages : (paged : Bool) (choices : List (List Bool)) → (pages : List Page) × ArePagesOf paged choices pages
some_pages true choices = (singles choices, (single_pages choices, subst (λ cs. IsPermutation cs choices) (sym (single_choices choices)) (IsPermutation-refl choices)))
some_pages false choices = ([], refl)

-- what was gained is a prefix of the texts of all pages
gained_prefix : (before now : Option (List ℕ)) (refused : Bool) (calls : List Call) (text : List ℕ) → GainedText refused before now calls text → AppendsPrefix before now text
gained_prefix before now true calls text gained = gained.1
gained_prefix before now false calls text gained = (length text, omega arith, subst (Appends before now) (sym (take-length text)) gained)

module _ (sought : Sought) (limits : SearchLimits) (blocks : IsBlocksOf sought.problem.grid sought.problem.blocks) (grid : IsGrid sought.problem.grid)
    (runs : HasRuns sought.further) (Fitting : List Bool → Type 0)
    (alike : (choice : List Bool) → FitsChoice sought.problem sought.further choice ↔ Fitting choice) where
  abbrev p : ProblemParts
  p = sought.problem

  abbrev all : List (List Bool)
  all = live_below (is_live p) p.blocks.count []

  matching : (drawing : Segment → Style) → IsDrawing drawing → IsGridOf drawing p.grid → AreChoicesThat (IsMatchingChoice drawing (coordinates_of p.grid) p.blocks.numbers) p.blocks.count all
  matching drawing is of = complete_tree (IsMatchingChoice drawing (coordinates_of p.grid) p.blocks.numbers) (is_live p) p.blocks.count (live_keeps_matching drawing is p of blocks)

  ordered : IsGrid p.grid → Ascends ChoicePrecedes all
  ordered (drawing, is, of) = (matching drawing is of).ordered

  -- of each choice that matches it is decided whether it fits
  decided : IsGrid p.grid → (choice : List Bool) → Member all choice → IsDecided (Fitting choice)
  decided (drawing, is, of) choice member =
      let has = each-at (λ c. (length c ≡ p.blocks.count) × IsMatchingChoice drawing (coordinates_of p.grid) p.blocks.numbers c) all choice (matching drawing is of).each member in
      let (solids, match, fill) = some_solids_of_blocks drawing p.grid of p.blocks.numbers p.blocks.count blocks.blocks (choice ∷ []) (has, tt) (tt, tt) in
      let (kept, left) = sifted p (λ a. (of.coordinates a).ordered) sought.further runs (choice ∷ []) solids fill in by kept left
    where
      by : (kept : List (List Bool)) → AreThose (FitsChoice p sought.further) (choice ∷ []) kept → IsDecided (Fitting choice)
      by kept (inl (none, rest)) = inr (λ fits. none ((alike choice).1 fits))
      by kept (inr (holds, rest)) = inl ((alike choice).0 holds)

  left : (choices : List (List Bool)) → IsWithin choices all → (kept : List (List Bool)) × AreThose Fitting choices kept
  left choices within = decided_those Fitting choices (λ x k. decided grid x (within x k))

  -- pages of some solutions, no more than the limit of solids, are the first pages of a search that can end so
  pub some_told : (before now : Option (List ℕ)) (refused : Bool) (calls : List Call) (number total : ℕ) → HasGained Fitting refused before now calls number total
      → HasPaged p limits.solids (Some []) (Some calls)
      → (s : SearchedParts) × (text : List ℕ) × TellsSearch limits sought (BeginsPages true) s text × AppendsPrefix before now text
  some_told before now refused calls number total gained paged =
      let same = added calls paged.calls paged.adds in
      let numbered = subst (AreNumbered 0 0) same paged.pages.numbered in
      let solutions = subst (λ cs. AreSolutions p (choices_of cs)) same paged.pages.solutions in
      let few = subst (λ cs. length (choices_of cs) ≤ limits.solids) same paged.few in
      let given = choices_of calls in
      let each = each-from (Member all) given (λ x k. live_solution p blocks grid x (each-at (IsSolutionOf p) given x solutions.each k)) in
      let can = can_list (is_live p) p.blocks.count limits (ordered grid) given each solutions.once few in
      let in_all : IsWithin can.choices all = λ x k. each-at (Member all) can.choices x can.some.listed k in
      let in_choices : IsWithin (given ++ can.more) can.choices = within_permutation (given ++ can.more) can.choices can.listed in
      let (kept, are) = left can.choices in_all in
      let (more, more_are) = left can.more (λ x k. in_all x (in_choices x (member-append_right given can.more x k))) in
      let told : IsPermutation (choices_on gained.pages ++ more) kept = left_moved Fitting (given ++ can.more) can.choices (choices_on gained.pages ++ more) kept can.listed
      (ordered_once can.choices can.some.ordered)
      (those-append Fitting given can.more (choices_on gained.pages) more (pages_left Fitting before now refused calls number total gained numbered) more_are) are in
      let pages = gained.pages in
      let on : choices_on (pages ++ singles more) ≡ choices_on pages ++ more = choices_append pages (singles more) ∙ ap (λ cs. choices_on pages ++ cs) (single_choices more) in (
        record { problem = p; ended = record { kind = can.kind; opened = can.opened; solids = kept } },
        pages_text 0 0 pages,
        (
          (
            record { problem = p; ended = record { kind = can.kind; opened = can.opened; solids = can.choices } },
            (refl, can.ends),
            record {
              problem = refl;
              kind = refl;
              opened = refl;
              those = those_alike Fitting (FitsChoice p sought.further) (λ c. ((alike c).1, (alike c).0)) can.choices kept are;
            },
          ),
          (
            pages ++ singles more,
            (
              each-append IsPage pages (singles more) (pages_kept Fitting before now refused calls number total gained numbered) (single_pages more),
              subst (λ cs. IsPermutation cs kept) (sym on) told,
            ),
            length pages,
            ap (pages_text 0 0) (sym (take-append-le (length pages) pages (singles more) (omega arith) ∙ take-length pages)),
          ),
        ),
        gained_prefix before now refused calls (pages_text 0 0 pages) gained.text,
      )

  -- so a search that failed has written a prefix of such pages
  pub failed_ends : (before now : Option (List ℕ)) (refused : Bool) (calls : List Call) (number total : ℕ) (rose : Type 0)
      → HasGained Fitting refused before now calls number total
      → HasPaged p limits.solids (Some []) (Some calls) → (fault : RunFault) → (fault ≡ run_fault.PageFault → rose)
      → EndsWriting (TellsSearch limits sought (TellsPages true)) (TellsSearch limits sought (BeginsPages true)) before now rose (Err (run_failure fault))
  failed_ends before now refused calls number total rose gained paged run_fault.PageFault rises =
      let (s, text, told, prefix) = some_told before now refused calls number total gained paged in (rises refl, s, text, told, prefix)
  failed_ends before now refused calls number total rose gained paged run_fault.Memory rises =
      let (s, text, told, prefix) = some_told before now refused calls number total gained paged in inr (s, text, told, prefix)

-- where all pages of a search were accepted they are pages of it
pub all_paged : (p : ProblemParts) (limits : SearchLimits) (before now : Option (List Call)) (kind : EndKind) (opened : ℕ) (solids : List (List Bool))
    → EndsAs (is_live p) p.blocks.count limits kind opened solids → HasAllPaged p before now solids → HasPaged p limits.solids before now
all_paged p limits before now kind opened solids ends paged =
    let many = length_permutation (choices_of paged.calls) solids paged.all in let few = by kind ends in
    record { calls = paged.calls; adds = paged.adds; pages = paged.pages; few = omega (arith, many, few) }
  where
    by : (k : EndKind) → EndsAs (is_live p) p.blocks.count limits k opened solids → length solids ≤ limits.solids
    by Whole (few_nodes, few_solids, counted, is_whole) = let same = ap (λ (cs : List (List Bool)). length cs) is_whole in omega (arith, few_solids, same)
    by CutNodes (many, counted, are, few) = few
    by CutSolids (many, counted, are, as_asked) = omega (arith, as_asked)
