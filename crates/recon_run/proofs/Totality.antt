-- Words and an input never lack a right answer.
use Rattle.lemmas.specs.Lists.{Each}
use Rattle.replies.specs.Status.{end_answer}
use Rattle.recon_run.proofs.GoingOn.{some_telling}
use Rattle.recon_run.proofs.Verdicts.{rest_there}
use Rattle.recon_run.specs.Readers.{AnswersScripts, TellsReader, TellsReaders, ask_kind_name, page_told, listing_head}
use Rattle.session_run.specs.Session.{AreAmong}
use Rattle.query_session.specs.declared.ask.Ask.TheVariants as ask
use Rattle.query_session.specs.Sessions.{read_session}
use Rattle.query_session.specs.declared.ask.AskFault.{AskFault}
use Rattle.query_session.specs.declared.ask.Ask.{Ask}
use Rattle.dxf_groups.specs.TextLines.{text_lines}
use Rattle.dxf_groups.specs.Pairs.{rest_of_text}
use Rattle.std.proofs.Common.{◌≡◌, refl, inl, inr, ⊎_elim, Bool, true, false, ℕ, ◌+◌, ◌-◌, ◌<◌, ◌≤◌, List, [], ◌∷◌, length, drop, Option, Some, None, Result, Ok, Err, ℤ, sym, ap, subst, ◌∙◌, arith, ◌++◌, codes}
use Rattle.std.proofs.lemmas.Bool.{cases_lt}
use Rattle.dxf_entities.specs.declared.layer_line.LayerLine.{LayerLine}
use Rattle.dxf_entities.specs.declared.layer_set.LayerSet.TheVariants.{Main}
use Rattle.dxf_entities.specs.Apart.{lines_read}
use Rattle.dxf_entities.proofs.KeptLines.{lines_read_are_kept}
use Rattle.replies.specs.declared.status.Answer.{Answer}
use Rattle.replies.specs.declared.status.Answer.TheVariants as answers
use Rattle.file_problem.specs.Cuts.{first_uncut}
use Rattle.file_problem.specs.Inputs.{HasNoFault, HasProblem, Input, IsFaultOfLines, IsFileFault, form_of}
use Rattle.recon_run.specs.Answers.{usage_text, AreSomeLogs, CanEnd, IsSomeLog, IsTried, TellsNumbered, head_of, numbered_answer}
use Rattle.solid_model.specs.Search.{default_limits, SearchLimits}
use Rattle.recon_run.specs.Endings.{Answers}
use Rattle.recon_run.specs.Owed.{AnswersOwed, HasRead, Judgement, Owed, Search, alone, answer_at, drawing_profile, in_one_piece, input_of, judgement_of, owed, owed_for, read, search_for_all, search_for_log, search_for_one, searched, session_judgement}
use Rattle.recon_run.specs.Searched.{FillSolids}
use Rattle.recon_run.proofs.Filled.{filled_at, some_first}
use Rattle.page_calls.specs.Those.{AreThose}
use Rattle.page_calls.proofs.Those.{some_those}
use Rattle.further_views.specs.Further.{further_lines}
use Rattle.six_views.specs.Further.{FitsLines}
use Rattle.file_problem.proofs.Faults.{file_fault}
use Rattle.file_problem.proofs.Problems.{problem_drawing}
use Rattle.block_texts.specs.BlockTexts.{blocks_text}
use Rattle.completeness_logs.specs.LogTexts.{IsLog}
use Rattle.proof_log.proofs.Begun.{some_log}
use Rattle.recon_run.proofs.Checked.{some_checked}
use Rattle.recon_run.proofs.FewMatching.{few_matching}
use Rattle.recon_run.proofs.PossibleEnds.{can_list}
use Rattle.recon_run.proofs.Solved.{IsWholeListing, listing, matching, some_listing, whole_listing, matched}
use Rattle.report.specs.FaultText.{fault_text}
use Rattle.solid_model.specs.declared.cell.Axis.{Axis}
use Rattle.solid_model.specs.declared.cell.Axis.TheVariants.{X, Y, Z}
use Rattle.solid_model.specs.declared.ended.EndKind.{EndKind}
use Rattle.solid_model.specs.declared.ended.EndKind.TheVariants.{Whole, CutNodes, CutSolids}
use Rattle.solid_model.specs.declared.fault.Fault.{Fault}
use Rattle.solid_model.specs.declared.fault.Fault.TheVariants.{EmptyView, NoCut, TooFine, TooLong, TooManyBlocks}
use Rattle.solid_model.specs.declared.frame.View.{View}
use Rattle.solid_model.specs.declared.frame.View.TheVariants.{Front, Top, Side}
use Rattle.solid_model.specs.declared.segment.Segment.{Segment}
use Rattle.solid_model.specs.declared.segment.Style.{Style}
use Rattle.solid_model.specs.Blocks.{AreBlocksOf, IsBlocksOf, ProblemParts}
use Rattle.solid_model.specs.Cells.{IsSolid}
use Rattle.solid_model.specs.Choices.{cells_of_choice}
use Rattle.solid_model.specs.Forcing.{is_live}
use Rattle.solid_model.specs.Drawings.{drawing_of, IsShown, IsEmptyView, LacksView}
use Rattle.solid_model.specs.Grid.{Coordinates, AreGridCoordinates, IsFineEnough, IsFirstTooFine}
use Rattle.solid_model.specs.Limits.{most_blocks, most_grid_coordinates, most_solid_limit}
use Rattle.solid_model.specs.Line.{Line}
use Rattle.solid_model.specs.Panels.{PanelStyles, GridParts, coordinates_of, grid_styles, AreGridStyles, IsGrid, IsGridOf}
use Rattle.solid_model.specs.PerAxis.{numbers_of}
use Rattle.solid_model.specs.Runs.{IsDrawing}
use Rattle.solid_model.specs.SearchEnds.{EndsAs}
use Rattle.solid_model.specs.VirtualFaces.{IsVirtual}
use Rattle.solid_model.specs.GridBox.{grid_sizes}
use Rattle.solid_model.proofs.KeptDrawings.{lines_are_drawing}
use Rattle.solid_model.proofs.SomeGrid.{some_coordinates}
use Rattle.solid_model.proofs.SomeNumbering.{some_numbering}
use Rattle.words.specs.declared.job.Job.{Job}
use Rattle.words.specs.declared.job.Job.TheVariants as job
use Rattle.words.specs.Jobs.{IsCounted, job_said}
use Rattle.words.proofs.Commands.{said_is_counted}
use Rattle.drawing_maker.specs.Made.{made_solid}
use Rattle.made_laws.proofs.MadeSolid.{made_is_solid}
use Rattle.redraw.specs.Files.{IsFileOf}
use Rattle.redraw.proofs.SomeFile.{some_file}
use Rattle.report.specs.Texts.{no_solid_text, trial_text, refusal_text}
use Rattle.stl_out.specs.SolidStl.{IsSolidStl}
use Rattle.stl_out.proofs.SolidTexts.{some_text}
use Rattle.made_laws.proofs.MadeLimits.{made_problem}
use Rattle.recon_run.proofs.Trials.{figures_are, made_has_problem}
use Rattle.std.specs.List.{slice_get}
use Rattle.std.proofs.lemmas.Option.{none-some, slice_get-get_or}
use Rattle.solid_model.specs.declared.cell.Cell.{Cell}

-- lines that lack no view show something in each, or where one may be missing, in one of any two
shown_by_views : (two : Bool) (ls : List Line) → ((v : View) → LacksView two ls v → ⊥) → IsShown two ls
shown_by_views false ls none = shown
  where
    front : IsEmptyView ls Front → ⊥
    front = none Front

    top : IsEmptyView ls Top → ⊥
    top e = none Top (front, e)

    shown : IsShown false ls
    shown Front = front
    shown Top = top
    shown Side = λ e. none Side (front, top, e)
shown_by_views true ls none = shown
  where
    front : IsEmptyView ls Front → (w : View) → (w ≡ Front → ⊥) → IsEmptyView ls w → ⊥
    front e w other f = none Front (e, w, other, f)

    top : IsEmptyView ls Top → IsEmptyView ls Side → ⊥
    top e f = none Top (((λ g. front g Top (λ same. cc) e), e), Side, (λ same. cc), f)

    shown : IsShown true ls
    shown Front w other e f = front e w (λ same. other (sym same)) f
    shown v Front other e f = front f v other e
    shown Top Top other e f = other refl
    shown Top Side other e f = top e f
    shown Side Top other e f = top f e
    shown Side Side other e f = other refl

-- coordinates along the three axes
abbrev along : List ℤ → List ℤ → List ℤ → Coordinates
along xs ys zs X = xs
along xs ys zs Y = ys
along xs ys zs Z = zs

-- the grid of a drawing, from its coordinates
abbrev grid_with : (Segment → Style) → List ℤ → List ℤ → List ℤ → GridParts
grid_with drawing xs ys zs = record { xs = xs; ys = ys; zs = zs; panels = record { front = panel Front; top = panel Top; side = panel Side } }
  where
    panel : View → PanelStyles
    panel v = record { level = grid_styles drawing (along xs ys zs) v false; upright = grid_styles drawing (along xs ys zs) v true }

-- no search of an input's problem ends
abbrev EndlessSearch : SearchLimits → Input → Type 0
EndlessSearch limits t = (p : ProblemParts) → HasProblem t p → (kind : EndKind) (opened : ℕ) (choices : List (List Bool))
    → EndsAs (is_live p) p.blocks.count limits kind opened choices → ⊥

module _ (limits : SearchLimits) (t : Input) (short : length t.bytes ≤ t.most) (faultless : (fault : Fault) → IsFileFault t fault → ⊥)
    (endless : EndlessSearch limits t) where
  module _ (ls : List Line) (further : List LayerLine) (reads : lines_read (form_of t) t.bytes ≡ Ok (ls, further)) where
    abbrev drawing : Segment → Style
    drawing = drawing_of ls

    no_fault_after : (f : Fault) → IsFaultOfLines t.two ls f → ⊥
    no_fault_after f after = faultless f (file_fault t (Ok (ls, further)) f short reads (inl after))

    shown : IsShown t.two ls
    shown = shown_by_views t.two ls (λ v empty. no_fault_after (EmptyView v) (inl (v, empty, refl)))

    is_drawing : IsDrawing drawing
    is_drawing = lines_are_drawing t.two ls (lines_read_are_kept (form_of t) t.bytes ls further reads) shown

    -- no axis is too fine
    not_first : (a : Axis) (count : ℕ) → IsFirstTooFine drawing a count → ⊥
    not_first a count fine = no_fault_after (TooFine a count) (inr (inl (shown, a, count, fine, refl)))

    x_fine : IsFineEnough drawing X
    x_fine count fine = not_first X count fine

    y_fine : IsFineEnough drawing Y
    y_fine count fine = not_first Y count (x_fine, fine)

    z_fine : IsFineEnough drawing Z
    z_fine count fine = not_first Z count (x_fine, y_fine, fine)

    few : (a : Axis) (zs : List ℤ) → AreGridCoordinates drawing a zs → IsFineEnough drawing a → length zs ≤ most_grid_coordinates
    few a zs are fine = ⊎_elim (λ many. absurd (fine (length zs) (zs, are, refl, many))) (λ l. l) (cases_lt most_grid_coordinates (length zs))

    -- with this grid and few blocks each plane cuts, and a search ends somehow
    with_blocks : (g : GridParts) → IsGridOf drawing g → (numbers : List (Option ℕ)) (count : ℕ) → AreBlocksOf g numbers count → count ≤ most_blocks → ⊥
    with_blocks g grid numbers count are few_blocks = by (first_uncut g further) refl
      where
        problem : ProblemParts
        problem = record {
          grid = g;
          blocks = record { sizes = record { x = grid_sizes g X; y = grid_sizes g Y; z = grid_sizes g Z }; numbers = numbers; count = count };
        }

        sized : (a : Axis) → numbers_of problem.blocks.sizes a ≡ grid_sizes g a
        sized X = refl
        sized Y = refl
        sized Z = refl

        blocks : IsBlocksOf g problem.blocks
        blocks = record { sized = sized; blocks = are }

        by : (uncut : Option ℕ) → first_uncut g further ≡ uncut → ⊥
        by (Some line) uncut = faultless (NoCut line) (file_fault t (Ok (ls, further)) (NoCut line) short reads
            (inr (record { problem = problem; shown = shown; grid = grid; blocks = blocks; few = few_blocks; line = line; first = uncut; is = refl })))
        by None cuts =
            let has : HasProblem t problem = record {
              short = short;
              lines = ls;
              further = further;
              reads = reads;
              shown = shown;
              grid = grid;
              blocks = blocks;
              few = few_blocks;
              cuts = cuts;
            } in
            let end = can_list (is_live problem) count limits (matching limits t problem has).ordered [] tt tt (omega arith) in
            endless problem has end.kind end.opened end.choices end.ends

    -- it has some blocks
    with_grid : (g : GridParts) → IsGridOf drawing g → ⊥
    with_grid g grid = some_numbering (grid_sizes g) (IsVirtual g) (λ numbers count are. ⊎_elim
        (λ many. no_fault_after (TooManyBlocks count) (inr (inr (shown, g, grid, count, (numbers, are, many), refl))))
        (λ few_blocks. with_blocks g grid numbers count are few_blocks) (cases_lt most_blocks count))

    -- it can't be that an input with lines has no fault and no end of a search
    input_with_lines : ⊥
    input_with_lines =
        some_coordinates drawing is_drawing X (λ xs x_are.
        some_coordinates drawing is_drawing Y (λ ys y_are.
        some_coordinates drawing is_drawing Z (λ zs z_are.
        with_grid (grid_with drawing xs ys zs) (record {
          coordinates = λ a. ordered xs ys zs x_are y_are z_are a;
          few = λ a. few_along xs ys zs x_are y_are z_are a;
          styles = λ v upright. styles xs ys zs v upright;
          sees = is_drawing.sees;
        }))))
      where
        ordered : (xs ys zs : List ℤ) → AreGridCoordinates drawing X xs → AreGridCoordinates drawing Y ys → AreGridCoordinates drawing Z zs
            → (a : Axis) → AreGridCoordinates drawing a (coordinates_of (grid_with drawing xs ys zs) a)
        ordered xs ys zs x_are y_are z_are X = x_are
        ordered xs ys zs x_are y_are z_are Y = y_are
        ordered xs ys zs x_are y_are z_are Z = z_are

        few_along : (xs ys zs : List ℤ) → AreGridCoordinates drawing X xs → AreGridCoordinates drawing Y ys → AreGridCoordinates drawing Z zs
            → (a : Axis) → length (coordinates_of (grid_with drawing xs ys zs) a) ≤ most_grid_coordinates
        few_along xs ys zs x_are y_are z_are X = few X xs x_are x_fine
        few_along xs ys zs x_are y_are z_are Y = few Y ys y_are y_fine
        few_along xs ys zs x_are y_are z_are Z = few Z zs z_are z_fine

        styles : (xs ys zs : List ℤ) → AreGridStyles drawing (coordinates_of (grid_with drawing xs ys zs)) (grid_with drawing xs ys zs).panels
        styles xs ys zs Front false = refl
        styles xs ys zs Front true = refl
        styles xs ys zs Top false = refl
        styles xs ys zs Top true = refl
        styles xs ys zs Side false = refl
        styles xs ys zs Side true = refl

  -- it can't be that an input that isn't too long has no fault and no end of a search
  short_input : (r : Result (List Line × List LayerLine) Fault) → lines_read (form_of t) t.bytes ≡ r → ⊥
  short_input (Err found) reads = faultless found (file_fault t (Err found) found short reads refl)
  short_input (Ok (ls, further)) reads = input_with_lines ls further reads

-- it can't be that an input of any length has neither a fault nor an end of a search
searched_somehow : (limits : SearchLimits) (t : Input) → HasNoFault t → EndlessSearch limits t → ⊥
searched_somehow limits t faultless endless = ⊎_elim (λ long. faultless TooLong (inl (long, refl)))
    (λ short. short_input limits t short faultless endless (lines_read (form_of t) t.bytes) refl) (cases_lt t.most (length t.bytes))

-- a source that had t left can have been read to its end, or past the most
can_be_read : (most : ℕ) (t : List ℕ) → ((rest : Option (List ℕ)) → HasRead most (Some t) rest t → ⊥) → ⊥
can_be_read most t never = ⊎_elim (λ long. never (Some (drop (most + 1) t)) (refl, inr (long, refl)))
    (λ short. never (Some []) (refl, inl (short, refl))) (cases_lt most (length t))

-- ---- some text of each command

-- it can't be that an end of a search is told by no text
abbrev TellsSome : Search → Type 0
TellsSome s = (t : Input) (p : ProblemParts) → HasProblem t p → (kind : EndKind) (opened : ℕ) (choices : List (List Bool))
    → EndsAs (is_live p) p.blocks.count s.limits kind opened choices
    → ((c : CanEnd s.limits t kind) (text : List ℕ) → s.tells t kind c text → ⊥) → ⊥

-- of choices something is left that fits the further views, be it nothing
some_left : {t : Input} (p : ProblemParts) (has : HasProblem t p) (found : List (List Bool))
    → ((kept : List (List Bool)) → AreThose (FitsLines p (further_lines has.further)) found kept → ⊥) → ⊥
some_left p has found = some_those (FitsLines p (further_lines has.further)) found

-- nor one of a search that answers in one piece, if no whole one lacks its text
some_in_one_piece : (limits : SearchLimits) (whole : Input → ℕ → Answer) (tells : (t : Input) → CanEnd limits t Whole → List ℕ → Type 0)
    (alike : Input → List ℕ → List ℕ → Type 0) → ((t : Input) (p : ProblemParts) (has : HasProblem t p) (opened : ℕ) (found kept : List (List Bool))
    (ends : EndsAs (is_live p) p.blocks.count limits Whole opened found) (is : IsWholeListing limits t p has opened kept)
    → ((text : List ℕ) → tells t is.can text → ⊥) → ⊥)
    → TellsSome (in_one_piece limits whole tells alike)
some_in_one_piece limits whole tells alike some t p has Whole opened found ends never = some_left p has found (λ kept left.
    let is = whole_listing limits t p has opened found kept ends left in some t p has opened found kept ends is (never is.can))
some_in_one_piece limits whole tells alike some t p has CutNodes opened found ends never = some_left p has found (λ kept left.
    let (solids, is) = listing limits t p has CutNodes opened found kept ends left in never is.can (head_of is.can) refl)
some_in_one_piece limits whole tells alike some t p has CutSolids opened found ends never = some_left p has found (λ kept left.
    let (solids, is) = listing limits t p has CutSolids opened found kept ends left in never is.can (head_of is.can) refl)

-- a whole search has a solid of a number, of which something is written; or there are fewer
module _ (writes : ℕ → List Cell → List ℕ → Type 0)
    (written : (decimals : ℕ) (p : ProblemParts) (choice : List Bool) (s : List Cell) → FillSolids p (choice ∷ []) (s ∷ []) → (text : List ℕ) × writes decimals s text)
    (which : ℕ) (some : 1 ≤ which) (limits : SearchLimits) where
  module _ (t : Input) (p : ProblemParts) (has : HasProblem t p) (opened : ℕ) (found choices : List (List Bool))
      (ends : EndsAs (is_live p) p.blocks.count limits Whole opened found) (is : IsWholeListing limits t p has opened choices)
      (never : (text : List ℕ) → TellsNumbered (writes t.decimals) which is.can.solids text → ⊥) where
    choice_at : (o : Option (List Bool)) → slice_get choices (which - 1) ≡ o → which - 1 < length choices → ⊥
    choice_at None none within = none-some _ (sym none ∙ slice_get-get_or choices (which - 1) [] within)
    choice_at (Some choice) at within =
        let (s, at_s, filled) = filled_at p choices is.can.solids is.filled (which - 1) choice at in
        let (text, writes_it) = written t.decimals p choice s filled in
        never text (inl (s, (some, at_s), writes_it))

    never_lacking : ⊥
    never_lacking = ⊎_elim (λ few. never (no_solid_text which (length is.can.solids)) (inr (few, refl)))
        (λ enough. choice_at (slice_get choices (which - 1)) refl (let e = is.many in let within : which - 1 < length choices = omega (arith, e, some, enough) in within))
        (cases_lt (length is.can.solids) which)

  some_numbered : TellsSome (search_for_one writes which limits)
  some_numbered = some_in_one_piece limits (λ t. numbered_answer which) (λ t c. TellsNumbered (writes t.decimals) which c.solids)
      (λ t text other. text ≡ other) never_lacking

-- a whole search has a log
some_proof : (limits : SearchLimits) → limits.solids ≤ most_solid_limit → TellsSome (search_for_log limits)
some_proof limits most = some_in_one_piece limits (λ t solids. answers.Done) (λ t c. IsSomeLog c.problem) AreSomeLogs
    (λ t p has opened found kept (few_nodes, few_solids, counted, is_whole) is never.
    let same = ap length is_whole in
    let few = few_matching p has.blocks found is_whole (omega (arith, few_solids, same, most)) in
    let grid : IsGrid p.grid = (drawing_of has.lines, problem_drawing t p has, has.grid) in
    let count = has.few in
    let (text, listed, log) = some_log p grid has.blocks (omega (arith, count)) few in
    never text (listed, subst (λ (q : ProblemParts). IsLog q text listed) (sym is.problem) log))

-- no solid lacks a file,
some_written_file : (s : List Cell) → IsSolid s → ((text : List ℕ) → IsFileOf 0 s text → ⊥) → ⊥
some_written_file s is never = let (text, file) = some_file s is 0 in never text file

-- nor one that matches an STL text
some_stl : (decimals : ℕ) (p : ProblemParts) (choice : List Bool) (s : List Cell) → FillSolids p (choice ∷ []) (s ∷ []) → (text : List ℕ) × IsSolidStl s text
some_stl decimals p choice s are =
    some_text are.drawing (coordinates_of p.grid) are.grid.coordinates s are.matching.0.0 (cells_of_choice p.blocks.numbers choice) are.filled.1

-- the search of a made file ends, and has figures
tried_somehow : (n : ℕ) → ((text : List ℕ) → IsTried n text → ⊥) → ⊥
tried_somehow n never =
    let (t, file) = some_file (made_solid n) (made_is_solid n) 0 in
    let p = made_problem n in let has = made_has_problem n t file in
    let end = can_list (is_live p) p.blocks.count default_limits (matching default_limits (input_of (drawing_profile Main 0 false) t) p has).ordered [] tt tt (omega arith) in
    let (volume, first) = some_first p end.choices in
    let line : ℕ → List ℕ = λ v. trial_text n p.blocks.count (length end.choices) end.opened v in
    never (line volume) (figures_are n t file p has end.kind end.opened end.choices end.ends (line volume) (λ solids are. ap line (first solids are)))

-- no input without a fault lacks an answer
abbrev JudgesSome : Judgement → Type 0
JudgesSome j = (t : Input) → HasNoFault t → ((answer : Answer) (text : List ℕ) → j.tells t answer text → ⊥) → ⊥

some_search : (s : Search) → TellsSome s → JudgesSome (judgement_of (searched s))
some_search s some t none never = searched_somehow s.limits t none (λ p has kind opened choices ends.
    some t p has kind opened choices ends (λ c text tells. never (answer_at s t kind c) text (kind, c, refl, tells)))

-- ---- what readers are asked

-- readers that see nothing
no_lists : List (List Ask) → List (List (List Bool))
no_lists [] = []
no_lists (script ∷ scripts) = [] ∷ no_lists scripts

-- tell something
told_nothing : (reader : ℕ) (script : List Ask) → (text : List ℕ) × TellsReader reader script [] [] text
told_nothing reader [] = ([], (([], refl), refl))
told_nothing reader (ask.Page from most ∷ asks) =
    let (rest, told) = told_nothing reader asks in (page_told reader from most [] ++ rest, ([], ([], refl), rest, told, refl))
told_nothing reader (ask.Wait count ∷ asks) = told_nothing reader asks
told_nothing reader (ask.Stop ∷ asks) = told_nothing reader asks

all_told_nothing : (p : ProblemParts) (reader : ℕ) (scripts : List (List Ask)) → (text : List ℕ) × TellsReaders p reader scripts (no_lists scripts) text
unfolding no_lists
all_told_nothing p reader [] = ([], refl)
all_told_nothing p reader (script ∷ scripts) =
    let (first, told) = told_nothing reader script in let (rest, others) = all_told_nothing p (reader + 1) scripts in
    (first ++ rest, (record { each = tt; once = tt }, first, told, rest, others, refl))

none_among : (most : ℕ) (listed : List (List Bool)) (scripts : List (List Ask)) → Each (AreAmong most listed) (no_lists scripts)
unfolding no_lists
none_among most listed [] = tt
none_among most listed (script ∷ scripts) = (inl tt, none_among most listed scripts)

-- so what readers are asked has some answer
some_session : (limits : SearchLimits) → JudgesSome (session_judgement limits)
some_session limits t none never = searched_somehow limits t none (λ p has kind opened found ends.
    let (asked, behind) = rest_there (form_of t) t.bytes (has.lines, has.further) has.reads in
    by p has kind opened found ends asked behind (read_session (text_lines asked)) (λ answer text told. never answer text (asked, behind, told)))
  where
    by : (p : ProblemParts) (has : HasProblem t p) (kind : EndKind) (opened : ℕ) (found : List (List Bool))
        → EndsAs (is_live p) p.blocks.count limits kind opened found → (asked : List ℕ) → rest_of_text t.bytes ≡ Some asked
        → (r : Result (List (List Ask)) AskFault) → ((answer : Answer) (text : List ℕ) → AnswersScripts limits t r answer text → ⊥) → ⊥
    by p has kind opened found ends asked behind (Err fault) stuck =
        stuck answers.NotAsked (refusal_text (codes "ask") (ask_kind_name fault.kind) fault.line) (refl, refl)
    by p has kind opened found ends asked behind (Ok scripts) stuck =
        let (m, same, e, head, fill) = matched limits t p has kind opened found ends in
        let (before, readers) = all_told_nothing p 0 scripts in
        some_telling t.decimals (coordinates_of m.problem.grid) m.problem.blocks.numbers m.problem.blocks.count 1 m.choices m.solids m.filled (λ texts tells.
        let rest = listing_head e ++ texts in
        stuck (end_answer kind) (before ++ rest) (
          before,
          rest,
          record {
            problem = p;
            has = has;
            lasts = no_lists scripts;
            readers = readers;
            ends = inl (kind, m, e, none_among limits.solids m.choices scripts, refl, (texts, tells, refl));
          },
          refl,
        ))

-- what is owed for a job is some answer
abbrev OwesSome : Owed → Type 0
OwesSome (read profile asked) = JudgesSome (judgement_of asked)
OwesSome (alone right tells) = ((text : List ℕ) → tells text → ⊥) → ⊥

some_owed : (j : Job) → IsCounted j → OwesSome (owed_for j)
some_owed (job.Solve workers limits pages decimals two sections) counted =
    some_search (search_for_all pages limits) (λ t p has. some_listing limits t p has pages)
some_owed (job.Redraw which workers limits decimals two sections) counted = some_search (search_for_one IsFileOf which limits)
    (some_numbered IsFileOf (λ d p choice s are. some_file s are.matching.0.0.0 d) which counted.0 limits)
some_owed (job.Stl which workers limits two sections) counted = some_search (search_for_one (λ _. IsSolidStl) which limits)
    (some_numbered (λ _. IsSolidStl) some_stl which counted.0 limits)
some_owed (job.Prove workers limits two) counted = some_search (search_for_log limits) (some_proof limits counted.1)
some_owed (job.Check two sections) counted = λ t none never. searched_somehow default_limits t none (λ p has kind opened choices ends.
    some_checked t p has _ (matching default_limits t p has) never)
some_owed (job.Ask workers limits two) counted = some_session limits
some_owed (job.Blocks decimals two) counted = λ t none never. searched_somehow default_limits t none (λ p has kind opened choices ends.
    never answers.Done (blocks_text t.decimals p) (refl, p, has, refl))
some_owed (job.Make n) counted = some_written_file (made_solid n) (made_is_solid n)
some_owed (job.Trial n workers) counted = tried_somehow n

-- ---- some answer

-- so there is an answer to each input
answered : (o : Owed) → OwesSome o → (t : List ℕ)
    → ((rest : Option (List ℕ)) (answer : Answer) (text : List ℕ) → AnswersOwed o (Some t) rest answer text → ⊥) → ⊥
answered (alone right tells) some t never = some (λ text is. never (Some t) right text (refl, refl, is))
answered (read profile asked) some t never = can_be_read profile.most t (λ rest reads.
    let none : HasNoFault (input_of profile t) = λ fault is. never rest answers.Faulty (fault_text fault) (t, reads, inl (refl, (fault, is, refl))) in
    some (input_of profile t) none (λ answer text told. never rest answer text (t, reads, inr (none, told))))

pub answered_somehow : (words : List (List ℕ)) (t : List ℕ)
    → ((rest : Option (List ℕ)) (answer : Answer) (text : List ℕ) → Answers words (Some t) rest answer text → ⊥) → ⊥
answered_somehow words t = answered (owed (job_said words)) (by (job_said words) refl) t
  where
    by : (said : Option Job) → job_said words ≡ said → OwesSome (owed said)
    by None none = λ never. never usage_text refl
    by (Some j) asks = some_owed j (said_is_counted words j asks)
