-- From the end of a search to the solids that are listed.
use Rattle.std.proofs.Common.{◌≡◌, ℕ, ◌<◌, ◌≤◌, ◌<ℤ◌, List, [], ◌++◌, Bool, length, inl, inr, refl, sym, ap, subst, ◌∙◌, arith}
use Rattle.column_laws.proofs.LivePrefixes.{live_keeps_matching}
use Rattle.page_calls.specs.Those.{AreThose}
use Rattle.page_calls.proofs.Those.{no_more_those, some_those}
use Rattle.dxf_entities.specs.declared.layer.Layer.{Layer}
use Rattle.file_problem.specs.Inputs.{HasProblem, Input}
use Rattle.further_views.specs.Further.{further_lines}
use Rattle.six_views.specs.Fits.{Fits}
use Rattle.six_views.specs.Further.{FitsLines}
use Rattle.six_views.proofs.SiftedChoices.{all_left, none_out, some_left}
use Rattle.recon_run.specs.Answers.{AllowsEnd, AreListed, AreSomeTold, AreTold, BeginsAll, BeginsToList, CanEnd, ListedSolids, ListsSolids, TellsAll, head_of, node_count}
use Rattle.recon_run.specs.Pages.{BeginsPages, TellsPages}
use Rattle.sink_pages.specs.PageTexts.{pages_text}
use Rattle.recon_run.specs.Readers.{EndsListing, SomeMatching, listing_head}
use Rattle.recon_run.specs.Searched.{FillSolids}
use Rattle.recon_run.proofs.GoingOn.{some_telling}
use Rattle.recon_run.proofs.Paged.{some_pages}
use Rattle.file_problem.proofs.Problems.{problem_drawing}
use Rattle.report.specs.Texts.{head_text}
use Rattle.solid_model.specs.declared.cell.Axis.{Axis}
use Rattle.solid_model.specs.declared.cell.Cell.{Cell}
use Rattle.solid_model.specs.declared.ended.EndKind.{EndKind}
use Rattle.solid_model.specs.declared.ended.EndKind.TheVariants.{Whole, CutNodes, CutSolids}
use Rattle.solid_model.specs.declared.segment.Segment.{Segment}
use Rattle.solid_model.specs.declared.segment.Style.{Style}
use Rattle.solid_model.specs.Blocks.{ProblemParts}
use Rattle.solid_model.specs.Choices.{AreChoicesThat, IsMatchingChoice, AreSolidsOfChoices}
use Rattle.solid_model.specs.Forcing.{is_live}
use Rattle.solid_model.specs.Drawings.{drawing_of}
use Rattle.lemmas.specs.Lists.{Ascends, Each, Member}
use Rattle.solid_model.specs.Line.{Line}
use Rattle.solid_model.specs.Matching.{AreSolidsOf, AreSomeSolidsOf, Matches}
use Rattle.solid_model.specs.Orders.{IsInStatedForm}
use Rattle.solid_model.specs.Panels.{coordinates_of}
use Rattle.solid_model.specs.Search.{SearchLimits}
use Rattle.solid_model.specs.SearchEnds.{AreSomeOf, EndsAs}
use Rattle.solid_model.specs.Tree.{live_below}
use Rattle.solid_model.proofs.BlockChoices.{all_solids_of_blocks, some_solids_of_blocks}
use Rattle.solid_model.proofs.CompleteTree.{complete_tree}
use Rattle.lemmas.proofs.Lists.{each-at, each-weaker}
use Rattle.solid_model.proofs.SolidsOfChoices.{as_many}

module _ (limits : SearchLimits) (t : Input) (p : ProblemParts) (has : HasProblem t p) where
  abbrev drawing : Segment → Style
  drawing = drawing_of has.lines

  abbrev Fill : List (List Bool) → List (List Cell) → Type 0
  Fill = AreSolidsOfChoices (coordinates_of p.grid) p.blocks.numbers p.blocks.count

  -- ---- what is found

  -- the live prefixes of full length
  abbrev whole : List (List Bool)
  whole = live_below (is_live p) p.blocks.count []

  -- are all matching choices
  pub matching : AreChoicesThat (IsMatchingChoice drawing (coordinates_of p.grid) p.blocks.numbers) p.blocks.count whole
  matching = complete_tree (IsMatchingChoice drawing (coordinates_of p.grid) p.blocks.numbers) (is_live p) p.blocks.count
      (live_keeps_matching drawing (problem_drawing t p has) p has.grid has.blocks)

  -- and fill all matching solids
  pub all : (solids : List (List Cell)) × AreSolidsOf drawing solids × Fill whole solids
  all = all_solids_of_blocks drawing p.grid has.grid p.blocks.numbers p.blocks.count has.blocks.blocks whole matching

  count_solids : (choices : List (List Bool)) (solids : List (List Cell)) → Fill choices solids → length choices ≡ length solids
  count_solids = as_many (coordinates_of p.grid) p.blocks.numbers p.blocks.count

  -- some of those choices fill some of those solids
  pub some : (choices : List (List Bool)) → AreSomeOf (is_live p) p.blocks.count choices
      → (solids : List (List Cell)) × AreSomeSolidsOf drawing solids × Fill choices solids
  some choices are = some_solids_of_blocks drawing p.grid has.grid p.blocks.numbers p.blocks.count has.blocks.blocks choices
      (each-weaker (Member whole) (λ choice. (length choice ≡ p.blocks.count) × IsMatchingChoice drawing (coordinates_of p.grid) p.blocks.numbers choice) choices
      (λ choice member. each-at (λ choice. (length choice ≡ p.blocks.count) × IsMatchingChoice drawing (coordinates_of p.grid) p.blocks.numbers choice) whole choice matching.each member)
      are.listed) are.ordered

  -- a cut is an end of the input
  abbrev nodes_end : (opened : ℕ) (choices : List (List Bool)) → EndsAs (is_live p) p.blocks.count limits CutNodes opened choices → CanEnd limits t CutNodes
  nodes_end opened choices (many, counted, are, few) =
      record { problem = p; has = has; counted = all.0; all = all.1; allows = omega (arith, many, counted); solids = []; told = refl }

  abbrev solids_end : (opened : ℕ) (choices : List (List Bool)) → EndsAs (is_live p) p.blocks.count limits CutSolids opened choices → CanEnd limits t CutSolids
  solids_end opened choices (many, counted, are, as_asked) = record {
    problem = p;
    has = has;
    counted = all.0;
    all = all.1;
    allows = subst (λ n. limits.solids < n) (count_solids whole all.0 all.2) many;
    solids = [];
    told = refl;
  }

  -- a whole search keeps both limits, and what it found fills all solids
  pub whole_allowed : (opened : ℕ) (choices : List (List Bool)) → EndsAs (is_live p) p.blocks.count limits Whole opened choices → AllowsEnd limits p all.0 Whole
  whole_allowed opened choices (few_nodes, few_solids, counted, is_whole) = (few_nodes, omega (arith, few_solids, count_solids whole all.0 all.2))

  pub whole_filled : (opened : ℕ) (choices : List (List Bool)) → EndsAs (is_live p) p.blocks.count limits Whole opened choices → FillSolids p choices all.0
  whole_filled opened choices (few_nodes, few_solids, counted, is_whole) =
      record { drawing = drawing; grid = has.grid; filled = subst (λ cs. Fill cs all.0) (sym is_whole) all.2; matching = all.1.matching }

  pub some_filled : (choices : List (List Bool)) (are : AreSomeOf (is_live p) p.blocks.count choices) → FillSolids p choices (some choices are).0
  some_filled choices are =
      let found = some choices are in record { drawing = drawing; grid = has.grid; filled = found.2; matching = found.1.matching }

  -- what a search that ended so lists, whatever is left of it
  pub matched : (kind : EndKind) (opened : ℕ) (found : List (List Bool)) → EndsAs (is_live p) p.blocks.count limits kind opened found
      → (m : SomeMatching limits t) × (m.choices ≡ found) × (e : EndsListing limits t kind m)
      × (listing_head e ≡ head_text limits kind (length found) opened p.blocks.count) × FillSolids p found m.solids
  matched Whole opened found (few_nodes, few_solids, counted, is_whole) =
      let ends : EndsAs (is_live p) p.blocks.count limits Whole opened found = (few_nodes, few_solids, counted, is_whole) in
      let filled = whole_filled opened found ends in let many = count_solids found all.0 filled.filled in (
        record {
          problem = p;
          has = has;
          solids = all.0;
          some = record { matching = all.1.matching; ordered = all.1.ordered };
          few = (whole_allowed opened found ends).1;
          choices = found;
          filled = filled.filled;
        },
        refl,
        record { all = all.0; matching = all.1; allows = whole_allowed opened found ends; lists = refl },
        (λ i. head_text limits Whole (sym many i) (sym counted i) p.blocks.count),
        filled,
      )
  matched CutNodes opened found (many, counted, are, few) = let (solids, some_are, fill) = some found are in (
    record {
      problem = p;
      has = has;
      solids = solids;
      some = some_are;
      few = subst (λ n. n ≤ limits.solids) (count_solids found solids fill) few;
      choices = found;
      filled = fill;
    },
    refl,
    record { all = all.0; matching = all.1; allows = omega (arith, many, counted); lists = tt },
    refl,
    some_filled found are,
  )
  matched CutSolids opened found (many, counted, are, as_asked) = let (solids, some_are, fill) = some found are in
      let as_many_are = sym (count_solids found solids fill) ∙ as_asked in (
        record { problem = p; has = has; solids = solids; some = some_are; few = omega (arith, as_many_are); choices = found; filled = fill },
        refl,
        record { all = all.0; matching = all.1; allows = subst (λ n. limits.solids < n) (count_solids whole all.0 all.2) many; lists = as_many_are },
        refl,
        some_filled found are,
      )

  -- ---- what is left of it

  abbrev further : Layer → List Line
  further = further_lines has.further

  abbrev pub Left : List (List Bool) → List (List Bool) → Type 0
  Left = AreThose (FitsLines p further)

  ascends : (a : Axis) → Ascends ◌<ℤ◌ (coordinates_of p.grid a)
  ascends a = (has.grid.coordinates a).ordered

  -- choices that are left fill solids that match and fit
  left_filled : (kept : List (List Bool)) (those : List (List Cell)) → Each (λ s. (Matches drawing s × Fits further s) × IsInStatedForm s) those → Fill kept those
      → FillSolids p kept those
  left_filled kept those each fill = record {
    drawing = drawing;
    grid = has.grid;
    filled = fill;
    matching = each-weaker (λ s. (Matches drawing s × Fits further s) × IsInStatedForm s) (λ s. Matches drawing s × IsInStatedForm s) those (λ s h. (h.0.0, h.1)) each;
  }

  -- what a search that ended so lists
  pub record IsListing (kind : EndKind) (opened : ℕ) (choices : List (List Bool)) (solids : List (List Cell)) : Type 0 where
    pub can : CanEnd limits t kind
    pub listed : AreListed limits has kind solids
    pub filled : FillSolids p choices solids
    pub head : head_text limits kind (length choices) opened p.blocks.count ≡ head_of can

  -- what a whole search opens and lists
  pub record IsWholeListing (opened : ℕ) (choices : List (List Bool)) : Type 0 where
    pub can : CanEnd limits t Whole
    pub problem : can.problem ≡ p
    pub listed : AreTold has can.solids
    pub filled : FillSolids p choices can.solids
    pub many : length choices ≡ length can.solids
    pub opened_all : opened ≡ node_count p
    pub head : head_text limits Whole (length choices) opened p.blocks.count ≡ head_of can

  pub whole_listing : (opened : ℕ) (found kept : List (List Bool)) → EndsAs (is_live p) p.blocks.count limits Whole opened found → Left found kept
      → IsWholeListing opened kept
  whole_listing opened found kept (few_nodes, few_solids, counted, is_whole) left =
      let ends : EndsAs (is_live p) p.blocks.count limits Whole opened found = (few_nodes, few_solids, counted, is_whole) in
      let (those, told, fill) = all_left p ascends further drawing found kept all.0 all.1 (whole_filled opened found ends).filled left in record {
        can = record { problem = p; has = has; counted = all.0; all = all.1; allows = whole_allowed opened found ends; solids = those; told = told };
        problem = refl;
        listed = told;
        filled = left_filled kept those told.each fill;
        many = count_solids kept those fill;
        opened_all = counted;
        head = λ i. head_text limits Whole (count_solids kept those fill i) (counted i) p.blocks.count;
      }

  -- some of what a cut search found, no more than the limit
  some_told : (found kept : List (List Bool)) → AreSomeOf (is_live p) p.blocks.count found → length found ≤ limits.solids → Left found kept
      → (those : List (List Cell)) × AreSomeTold limits has those × FillSolids p kept those
  some_told found kept are few left =
      let (solids, match, filled) = some found are in
      let (those, told, fill) = some_left p ascends further drawing found kept solids match filled left in
      let kept_few = no_more_those (FitsLines p further) found kept left in let counted = count_solids kept those fill in
      (those, (told, omega (arith, few, kept_few, counted)), left_filled kept those told.each fill)

  pub listing : (kind : EndKind) (opened : ℕ) (found kept : List (List Bool)) → EndsAs (is_live p) p.blocks.count limits kind opened found → Left found kept
      → (solids : List (List Cell)) × IsListing kind opened kept solids
  listing Whole opened found kept ends left =
      let is = whole_listing opened found kept ends left in (
        is.can.solids,
        record {
          can = is.can;
          listed = is.listed;
          filled = is.filled;
          head = is.head;
        },
      )
  listing CutNodes opened found kept (many, counted, are, few) left =
      let (those, told, filled) = some_told found kept are few left in
      (those, record { can = nodes_end opened found (many, counted, are, few); listed = told; filled = filled; head = refl })
  listing CutSolids opened found kept (many, counted, are, as_asked) left =
      let (those, told, filled) = some_told found kept are (omega (arith, as_asked)) left in (
        those,
        record {
          can = solids_end opened found (many, counted, are, as_asked);
          listed = (told, λ none. sym (count_solids kept those filled.filled) ∙ ap (λ (cs : List (List Bool)). length cs) (none_out p ascends further none found kept left) ∙ as_asked);
          filled = filled;
          head = refl;
        },
      )

  -- ---- what is answered

  -- the solids that it lists
  abbrev listed_solids : (kind : EndKind) (opened : ℕ) (choices : List (List Bool)) (solids : List (List Cell)) → IsListing kind opened choices solids
      → ListedSolids limits t kind
  listed_solids kind opened choices solids is =
      record { problem = p; has = has; solids = solids; listed = is.listed; choices = choices; filled = is.filled.filled }

  module _ (paged : Bool) (kind : EndKind) (opened : ℕ) (choices : List (List Bool)) (solids : List (List Cell)) (is : IsListing kind opened choices solids) where
    abbrev first_line : List ℕ
    first_line = head_text limits kind (length choices) opened p.blocks.count

    -- pages, how the search ended, and the texts of all its choices, list its solids
    pub lists : (before : List ℕ) → TellsPages paged choices before → (rest : List ℕ) → TellsAll first_line t.decimals choices solids rest
        → ListsSolids paged limits t kind is.can (before ++ rest)
    lists before pages rest tells =
        (listed_solids kind opened choices solids is, before, pages, rest, subst (λ head. TellsAll head t.decimals choices solids rest) is.head tells, refl)

    -- with the texts of the first of them they begin to be,
    pub begins : (before : List ℕ) → TellsPages paged choices before → (rest : List ℕ) → BeginsAll first_line t.decimals choices solids rest
        → BeginsToList paged limits t kind is.can (before ++ rest)
    begins before pages rest tells = (
      listed_solids kind opened choices solids is,
      inr (before, pages, rest, subst (λ head. BeginsAll head t.decimals choices solids rest) is.head tells, refl),
    )

    -- and with the first pages alone
    pub pages_begin : (text : List ℕ) → BeginsPages paged choices text → BeginsToList paged limits t kind is.can text
    pages_begin text pages = (listed_solids kind opened choices solids is, inl pages)

  -- ---- some answer

  -- it can't be that no text lists solids where the search ends so
  pub some_listing : (paged : Bool) (kind : EndKind) (opened : ℕ) (choices : List (List Bool)) → EndsAs (is_live p) p.blocks.count limits kind opened choices
      → ((c : CanEnd limits t kind) (text : List ℕ) → ListsSolids paged limits t kind c text → ⊥) → ⊥
  some_listing paged kind opened found ends never = some_those (FitsLines p further) found (λ kept left.
      let (solids, is) = listing kind opened found kept ends left in let (pages, are) = some_pages paged kept in
      some_telling t.decimals (coordinates_of p.grid) p.blocks.numbers p.blocks.count 1 kept solids is.filled.filled (λ texts tells.
      let before = pages_text 0 0 pages in let rest = head_of is.can ++ texts in
      never is.can (before ++ rest) (listed_solids kind opened kept solids is, before, (pages, are, refl), rest, (texts, tells, refl), refl)))
