-- Words and an input have at most one right answer, up to what is left open.
use Rattle.replies.specs.Status.{end_answer}
use Rattle.block_texts.specs.BlockTexts.{blocks_text}
use Rattle.session_run.specs.Session.{asks_stop}
use Rattle.recon_run.specs.Readers.{AnswersScripts, AsksToStop, EndsAsked, SameBehindReaders, StopsAsked, TellsAsked, TellsReaders, TellsSession, EndsListing, SomeMatching, listing_head}
use Rattle.query_session.specs.Sessions.{read_session}
use Rattle.query_session.specs.declared.ask.AskFault.{AskFault}
use Rattle.query_session.specs.declared.ask.Ask.{Ask}
use Rattle.dxf_groups.specs.TextLines.{text_lines}
use Rattle.dxf_groups.specs.Pairs.{rest_of_text}
use Rattle.std.proofs.Common.{◌≡◌, ◌⊎◌, ⊎_elim, inl, inr, refl, Bool, true, false, IsPermutation, ℕ, ◌+◌, ◌-◌, List, [], ◌∷◌, ◌++◌, length, Option, Some, None, sym, subst, ap, ◌∙◌, arith, Result, Ok, Err}
use Rattle.std.proofs.Math.Path.{transport}
use Rattle.std.proofs.lemmas.List.Sorted.{IsPermutation-refl, IsPermutation-sym, IsPermutation-trans}
use Rattle.std.proofs.lemmas.Option.{slice_get_within}
use Rattle.std.specs.List.{slice_get}
use Rattle.drawing_maker.specs.Made.{made_solid}
use Rattle.replies.specs.declared.status.Answer.{Answer}
use Rattle.file_problem.specs.Inputs.{HasNoFault, HasProblem, Input}
use Rattle.recon_run.specs.Answers.{node_count, CanEnd, IsSomeLog, TellsNumbered, TellsSolids, IsTried, first_volume, made_drawing, TellsAll, head_of}
use Rattle.recon_run.specs.Endings.{Answers, AreAlike, LeavesOpen, owed_to}
use Rattle.recon_run.specs.Owed.{AnswersInput, AnswersOwed, AreCuts, IsCut, Judgement, Owed, Search, alone, answer_at, input_of, judgement_of, owed, read, search_for_all, search_for_log, search_for_one, searched, session_judgement}
use Rattle.recon_run.specs.Pages.{ArePagesOf, SameButPages}
use Rattle.sink_pages.specs.PageTexts.{Page, choices_on, pages_text}
use Rattle.file_problem.proofs.Faults.{one_fault}
use Rattle.file_problem.proofs.Grids.{one_grid}
use Rattle.recon_run.proofs.Checked.{one_checked}
use Rattle.recon_run.proofs.OneEnd.{kept_or_passed, one_count, one_head, one_solids, one_told, one_list}
use Rattle.file_problem.proofs.Problems.{one_blocks, one_problem}
use Rattle.report.specs.FaultText.{fault_text}
use Rattle.report.specs.Texts.{head_text, no_solid_text, solid_text, trial_text}
use Rattle.redraw.specs.Files.{IsFileOf}
use Rattle.redraw.proofs.OneFile.{one_file}
use Rattle.stl_out.specs.SolidStl.{IsSolidStl}
use Rattle.stl_out.proofs.SolidTexts.{one_text}
use Rattle.solid_model.specs.declared.cell.Cell.{Cell}
use Rattle.solid_model.specs.declared.ended.EndKind.{EndKind}
use Rattle.solid_model.specs.declared.ended.EndKind.TheVariants.{Whole, CutNodes, CutSolids}
use Rattle.solid_model.specs.Blocks.{ProblemParts}
use Rattle.solid_model.specs.Cells.{is_full}
use Rattle.solid_model.specs.Choices.{AreSolidsOfChoices}
use Rattle.solid_model.specs.Panels.{coordinates_of}
use Rattle.solid_model.specs.Search.{SearchLimits}
use Rattle.solid_model.proofs.BlockChoices.{one_list_of_block_choices}
use Rattle.face_laws.proofs.FaceLists.{one_list_of_faces}
use Rattle.solid_model.proofs.SolidOrder.{one_list_of_solids}
use Rattle.words.specs.declared.job.Job.{Job}
use Rattle.words.specs.declared.job.Job.TheVariants as job
use Rattle.words.specs.Jobs.{job_said}

-- ---- one text of each command

-- a whole search of an input is told by one text, up to what counts as one
abbrev TellsOne : Search → Type 0
TellsOne s = (t : Input) (c d : CanEnd s.limits t Whole) (text other : List ℕ) → s.tells t Whole c text → s.tells t Whole d other → s.alike t text other

-- texts are so where what follows their pages is one
same_behind : (paged : Bool) (choices others : List (List Bool)) (pages more : List Page) → choices ≡ others → ArePagesOf paged choices pages → ArePagesOf paged others more
    → (rest last : List ℕ) → rest ≡ last → (text other : List ℕ) → text ≡ pages_text 0 0 pages ++ rest → other ≡ pages_text 0 0 more ++ last → SameButPages paged text other
same_behind false choices others pages more same are are_too rest last ends text other is is_too =
    is ∙ (λ i. pages_text 0 0 (are i) ++ ends i) ∙ (λ i. pages_text 0 0 (sym are_too i) ++ last) ∙ sym is_too
same_behind true choices others pages more same are are_too rest last ends text other is is_too = (
  pages,
  more,
  IsPermutation-trans (choices_on pages) choices (choices_on more) are.1
      (IsPermutation-sym (choices_on more) choices (subst (IsPermutation (choices_on more)) (sym same) are_too.1)),
  rest,
  is,
  is_too ∙ ap (λ end. pages_text 0 0 more ++ end) (sym ends),
)

-- solids are told by one text
one_telling : (decimals number : ℕ) (choices : List (List Bool)) (solids : List (List Cell)) (text other : List ℕ)
    → TellsSolids decimals number choices solids text → TellsSolids decimals number choices solids other → text ≡ other
one_telling decimals number [] [] text other first second = first ∙ sym second
one_telling decimals number [] (s ∷ solids) text other first second = absurd first
one_telling decimals number (choice ∷ choices) [] text other first second = absurd first
one_telling decimals number (choice ∷ choices) (s ∷ solids) text other (one, (faces, are, told), rest, tells, is) (one_too, (others, are_too, told_too), more, tells_too, is_too) =
    let same = one_list_of_faces (is_full s) faces others are are_too in
    let ends = one_telling decimals (number + 1) choices solids rest more tells tells_too in
    is ∙ ap (λ bytes. bytes ++ rest) told ∙ (λ i. solid_text decimals number choice (length s) (same i) ++ ends i)
    ∙ ap (λ bytes. bytes ++ more) (sym told_too) ∙ sym is_too

-- one list of solids of an input has one list of choices that fill it, and one text behind a first line
one_filled : (t : Input) (p q : ProblemParts) (has : HasProblem t p) (has_too : HasProblem t q) (choices others : List (List Bool)) (solids solids_too : List (List Cell))
    → AreSolidsOfChoices (coordinates_of p.grid) p.blocks.numbers p.blocks.count choices solids
    → AreSolidsOfChoices (coordinates_of q.grid) q.blocks.numbers q.blocks.count others solids_too → solids ≡ solids_too
    → (head head_too : List ℕ) → head ≡ head_too → (rest rest_too : List ℕ)
    → TellsAll head t.decimals choices solids rest → TellsAll head_too t.decimals others solids_too rest_too → (choices ≡ others) × (rest ≡ rest_too)
one_filled t p q has has_too choices others solids solids_too fill fill_too same head head_too heads rest rest_too (texts, tells, is) (more, tells_too, is_too) =
    let one = one_problem has has_too in
    let filled : AreSolidsOfChoices (coordinates_of p.grid) p.blocks.numbers p.blocks.count choices solids
    ≡ AreSolidsOfChoices (coordinates_of q.grid) q.blocks.numbers q.blocks.count choices solids_too =
    λ i. AreSolidsOfChoices (coordinates_of (one.problem i).grid) (one.problem i).blocks.numbers (one.problem i).blocks.count choices (same i) in
    let alike = one_list_of_block_choices q.grid (λ a. (has_too.grid.coordinates a).ordered) q.blocks.numbers q.blocks.count has_too.blocks.blocks
    choices others solids_too (transport filled fill) fill_too in
    let tells_same : TellsSolids t.decimals 1 choices solids texts ≡ TellsSolids t.decimals 1 others solids_too texts =
    λ i. TellsSolids t.decimals 1 (alike i) (same i) texts in
    let one_text = one_telling t.decimals 1 others solids_too texts more (transport tells_same tells) tells_too in
    (alike, is ∙ (λ i. heads i ++ one_text i) ∙ sym is_too)

-- an input has at most one text that lists all its solids
one_listing : (paged : Bool) (limits : SearchLimits) → TellsOne (search_for_all paged limits)
one_listing paged limits t c d text other (first, before, (pages, are, shown), rest, tells, told)
    (second, before_too, (more, are_too, shown_too), rest_too, tells_too, told_too) =
    let solids = one_told t first.problem second.problem first.has second.has first.solids second.solids first.listed second.listed in
    let (choices, same) = one_filled t first.problem second.problem first.has second.has first.choices second.choices first.solids second.solids
    first.filled second.filled solids (head_of c) (head_of d) (one_head limits t c d) rest rest_too tells tells_too in
    same_behind paged first.choices second.choices pages more choices are are_too rest rest_too same text other
    (told ∙ ap (λ bytes. bytes ++ rest) shown) (told_too ∙ ap (λ bytes. bytes ++ rest_too) shown_too)

same_place : {A : Type 0} (xs ys : List A) (k : ℕ) (x y : A) → xs ≡ ys → slice_get xs k ≡ Some x → slice_get ys k ≡ Some y → x ≡ y
same_place xs ys k x y same at at_too = let e : Some x ≡ Some y = sym at ∙ ap (λ zs. slice_get zs k) same ∙ at_too in cc

-- or one that tells the solid of a number, where one is written of each
one_numbered : (writes : ℕ → List Cell → List ℕ → Type 0)
    → ((decimals : ℕ) (s : List Cell) (text other : List ℕ) → writes decimals s text → writes decimals s other → text ≡ other)
    → (which : ℕ) (limits : SearchLimits) → TellsOne (search_for_one writes which limits)
one_numbered writes one which limits t c d text other = by
  where
    by : TellsNumbered (writes t.decimals) which c.solids text → TellsNumbered (writes t.decimals) which d.solids other → text ≡ other
    by (inl (s, (some, at), written)) (inl (u, (some_too, at_too), written_too)) =
        let same = same_place c.solids d.solids (which - 1) s u (one_solids limits t c d) at at_too in
        one t.decimals u text other (subst (λ x. writes t.decimals x text) same written) written_too
    by (inl (s, (some, at), written)) (inr (fewer, told)) =
        let within = slice_get_within c.solids (which - 1) s at in let many = one_count limits t c d in absurd (omega arith)
    by (inr (fewer, told)) (inl (s, (some, at), written)) =
        let within = slice_get_within d.solids (which - 1) s at in let many = one_count limits t c d in absurd (omega arith)
    by (inr (fewer, told)) (inr (fewer_too, told_too)) = told ∙ ap (no_solid_text which) (one_count limits t c d) ∙ sym told_too

-- all logs of an input count as one text
one_logs : (limits : SearchLimits) → TellsOne (search_for_log limits)
one_logs limits t c d text other log log_too =
    inr (c.problem, c.has, log, subst (λ (p : ProblemParts). IsSomeLog p other) (sym (one_problem c.has d.has).problem) log_too)

-- a number has one file
pub one_made_file : (n : ℕ) (text other : List ℕ) → IsFileOf 0 (made_solid n) text → IsFileOf 0 (made_solid n) other → text ≡ other
one_made_file n text other = one_file (made_solid n) (made_solid n) (λ g. refl) 0 text other

-- and its drawing one line of figures
one_figures : (n : ℕ) (text other : List ℕ) → IsTried n text → IsTried n other → text ≡ other
one_figures n text other a b =
    let grid = one_grid (made_drawing n) a.problem.grid b.problem.grid a.grid b.grid in
    let blocks = one_blocks a.problem.grid b.problem.grid grid a.problem.blocks b.problem.blocks a.blocks b.blocks in
    let solids = one_list_of_solids (made_drawing n) a.solids b.solids a.all b.all in
    a.told ∙ (λ i. trial_text n (blocks i).count (length (solids i)) (node_count (record { grid = grid i; blocks = blocks i })) (first_volume (solids i)))
    ∙ sym b.told

-- ---- one answer to an input

-- an answer and another one, with their texts: one answer, and texts that count as one; or two that are left open
abbrev pub AreOne : (Answer → Answer → Type 0) → (List ℕ → List ℕ → Type 0) → Answer → Answer → List ℕ → List ℕ → Type 0
AreOne leaves_open alike a b text other = ((a ≡ b) × alike text other) ⊎ leaves_open a b

-- one text counts as one
abbrev CountsOne : Judgement → Type 0
CountsOne j = (t : Input) (text other : List ℕ) → text ≡ other → j.alike t text other

-- an input has one answer
abbrev JudgesOne : Judgement → Type 0
JudgesOne j = CountsOne j × ((t : Input) (a b : Answer) (text other : List ℕ) → j.tells t a text → j.tells t b other
    → AreOne (j.leaves_open t) (j.alike t) a b text other)

module _ (s : Search) (t : Input) (a b : Answer) (text other : List ℕ) where
  -- two cuts
  cuts : IsCut a → IsCut b → AreOne AreCuts (s.alike t) a b text other
  cuts cut cut_too = inr (cut, cut_too)

  passed : (kind : EndKind) (c : CanEnd s.limits t Whole) (d : CanEnd s.limits t kind) → (kind ≡ Whole → ⊥) → ⊥
  passed kind c d cut = cut (kept_or_passed s.limits t kind c d)

  -- two ends
  one_end : TellsOne s → (kind other_kind : EndKind) (c : CanEnd s.limits t kind) (d : CanEnd s.limits t other_kind)
      → a ≡ answer_at s t kind c → b ≡ answer_at s t other_kind d → s.tells t kind c text → s.tells t other_kind d other
      → AreOne AreCuts (s.alike t) a b text other
  one_end one Whole Whole c d is is_too tells tells_too =
      inl (is ∙ ap (s.whole t) (one_count s.limits t c d) ∙ sym is_too, one t c d text other tells tells_too)
  one_end one Whole CutNodes c d is is_too tells tells_too = absurd (passed CutNodes c d (λ e. cc))
  one_end one Whole CutSolids c d is is_too tells tells_too = absurd (passed CutSolids c d (λ e. cc))
  one_end one CutNodes Whole c d is is_too tells tells_too = absurd (passed CutNodes d c (λ e. cc))
  one_end one CutSolids Whole c d is is_too tells tells_too = absurd (passed CutSolids d c (λ e. cc))
  one_end one CutNodes CutNodes c d is is_too tells tells_too = cuts (subst IsCut (sym is) tt) (subst IsCut (sym is_too) tt)
  one_end one CutNodes CutSolids c d is is_too tells tells_too = cuts (subst IsCut (sym is) tt) (subst IsCut (sym is_too) tt)
  one_end one CutSolids CutNodes c d is is_too tells tells_too = cuts (subst IsCut (sym is) tt) (subst IsCut (sym is_too) tt)
  one_end one CutSolids CutSolids c d is is_too tells tells_too = cuts (subst IsCut (sym is) tt) (subst IsCut (sym is_too) tt)

-- the ends of a search are one answer
one_search : (s : Search) → CountsOne (judgement_of (searched s)) → TellsOne s → JudgesOne (judgement_of (searched s))
one_search s counts one = (
  counts,
  λ t a b text other first second.
      let (kind, c, is, tells) = first in let (other_kind, d, is_too, tells_too) = second in
      one_end s t a b text other one kind other_kind c d is is_too tells tells_too,
)

-- one text is one up to its pages
text_alike : (paged : Bool) (text other : List ℕ) → text ≡ other → SameButPages paged text other
text_alike false text other is = is
text_alike true text other is = ([], [], IsPermutation-refl [], text, refl, sym is)

-- what readers tell is one answer, unless the search was stopped as some reader asks
module _ (limits : SearchLimits) (t : Input) (a b : Answer) (text other : List ℕ) where
  abbrev Open : Answer → Answer → Type 0
  Open = (session_judgement limits).leaves_open t

  abbrev One : Type 0
  One = AreOne Open (SameBehindReaders t) a b text other

  two_cuts : IsCut a → IsCut b → One
  two_cuts cut cut_too = inr (inl (cut, cut_too))

  module _ (scripts : List (List Ask)) (before before_too rest rest_too : List ℕ) (told : text ≡ before ++ rest) (told_too : other ≡ before_too ++ rest_too)
      (s : TellsSession TellsAll limits t scripts a before rest) (u : TellsSession TellsAll limits t scripts b before_too rest_too) where
    -- all solids are one list, and its first line
    one_all : (m n : SomeMatching limits t) (kind other_kind : EndKind) (e : EndsListing limits t kind m) (f : EndsListing limits t other_kind n) → e.all ≡ f.all
    one_all m n kind other_kind e f = one_list t m.problem n.problem m.has n.has e.all f.all e.matching f.matching

    first_lines : (m n : SomeMatching limits t) (e : EndsListing limits t Whole m) (f : EndsListing limits t Whole n) → listing_head e ≡ listing_head f
    first_lines m n e f =
        let p = (one_problem m.has n.has).problem in let all = one_all m n Whole Whole e f in
        λ i. head_text limits Whole (length (all i)) (node_count (p i)) (p i).blocks.count

    -- where both limits are kept none is passed
    no_cut_nodes : (m n : SomeMatching limits t) → EndsListing limits t Whole m → EndsListing limits t CutNodes n → ⊥
    no_cut_nodes m n e f =
        let same = ap node_count (one_problem m.has n.has).problem in let few = e.allows.0 in let many = f.allows in absurd (omega arith)

    no_cut_solids : (m n : SomeMatching limits t) → EndsListing limits t Whole m → EndsListing limits t CutSolids n → ⊥
    no_cut_solids m n e f =
        let same = ap (λ (ss : List (List Cell)). length ss) (one_all m n Whole CutSolids e f) in let few = e.allows.1 in let many = f.allows in absurd (omega arith)

    one_end_asked : (kind other_kind : EndKind) (m n : SomeMatching limits t) (e : EndsListing limits t kind m) (f : EndsListing limits t other_kind n)
        → a ≡ end_answer kind → b ≡ end_answer other_kind
        → TellsAll (listing_head e) t.decimals m.choices m.solids rest → TellsAll (listing_head f) t.decimals n.choices n.solids rest_too → One
    one_end_asked Whole Whole m n e f is is_too tells tells_too = inl (
      is ∙ sym is_too,
      inr (
        s.problem,
        s.has,
        scripts,
        before,
        before_too,
        (s.lasts, s.readers),
        (u.lasts, subst (λ (p : ProblemParts). TellsReaders p 0 scripts u.lasts before_too) (sym (one_problem s.has u.has).problem) u.readers),
        rest,
        told,
        told_too ∙ ap (λ bytes. before_too ++ bytes) (sym (one_filled t m.problem n.problem m.has n.has m.choices n.choices m.solids n.solids m.filled n.filled
            (e.lists ∙ one_all m n Whole Whole e f ∙ sym f.lists) (listing_head e) (listing_head f) (first_lines m n e f) rest rest_too tells tells_too).1),
      ),
    )
    one_end_asked Whole CutNodes m n e f is is_too tells tells_too = absurd (no_cut_nodes m n e f)
    one_end_asked Whole CutSolids m n e f is is_too tells tells_too = absurd (no_cut_solids m n e f)
    one_end_asked CutNodes Whole m n e f is is_too tells tells_too = absurd (no_cut_nodes n m f e)
    one_end_asked CutSolids Whole m n e f is is_too tells tells_too = absurd (no_cut_solids n m f e)
    one_end_asked CutNodes CutNodes m n e f is is_too tells tells_too = two_cuts (subst IsCut (sym is) tt) (subst IsCut (sym is_too) tt)
    one_end_asked CutNodes CutSolids m n e f is is_too tells tells_too = two_cuts (subst IsCut (sym is) tt) (subst IsCut (sym is_too) tt)
    one_end_asked CutSolids CutNodes m n e f is is_too tells tells_too = two_cuts (subst IsCut (sym is) tt) (subst IsCut (sym is_too) tt)
    one_end_asked CutSolids CutSolids m n e f is is_too tells tells_too = two_cuts (subst IsCut (sym is) tt) (subst IsCut (sym is_too) tt)

    -- scripts that stop are read behind the drawing
    one_by_ends : (asks_stop scripts ≡ true → AsksToStop t)
        → EndsAsked TellsAll limits t s.lasts a rest ⊎ StopsAsked TellsAll limits t scripts s.lasts a rest
        → EndsAsked TellsAll limits t u.lasts b rest_too ⊎ StopsAsked TellsAll limits t scripts u.lasts b rest_too → One
    one_by_ends asks (inl (kind, m, e, among, is, tells)) (inl (other_kind, n, f, among_too, is_too, tells_too)) =
        one_end_asked kind other_kind m n e f is is_too tells tells_too
    one_by_ends asks (inl ends) (inr (stops, m, many, among, is, tells)) = inr (inr (asks stops, inr is))
    one_by_ends asks (inr (stops, m, many, among, is, tells)) ends = inr (inr (asks stops, inl is))

  one_by_scripts : (asked : List ℕ) → rest_of_text t.bytes ≡ Some asked → (r : Result (List (List Ask)) AskFault) → read_session (text_lines asked) ≡ r
      → AnswersScripts limits t r a text → AnswersScripts limits t r b other → One
  one_by_scripts asked behind (Err fault) reads (is, told) (is_too, told_too) = inl (is ∙ sym is_too, inl (told ∙ sym told_too))
  one_by_scripts asked behind (Ok scripts) reads (before, rest, s, told) (before_too, rest_too, u, told_too) =
      one_by_ends scripts before before_too rest rest_too told told_too s u (λ stops. (asked, behind, scripts, reads, stops)) s.ends u.ends

  one_asked : TellsAsked limits t a text → TellsAsked limits t b other → One
  one_asked (asked, behind, said) (asked_too, behind_too, said_too) =
      let same : asked_too ≡ asked = (let e : Some asked_too ≡ Some asked = sym behind_too ∙ behind in cc) in
      one_by_scripts asked behind (read_session (text_lines asked)) refl said
      (subst (λ bytes. AnswersScripts limits t (read_session (text_lines bytes)) b other) same said_too)

one_session : (limits : SearchLimits) → JudgesOne (session_judgement limits)
one_session limits = ((λ t text other is. inl is), one_asked limits)

-- what is owed for a job is one answer
abbrev OwesOne : Owed → Type 0
OwesOne (read profile asked) = JudgesOne (judgement_of asked)
OwesOne (alone right tells) = (text other : List ℕ) → tells text → tells other → text ≡ other

one_owed : (said : Option Job) → OwesOne (owed said)
one_owed (Some (job.Solve workers limits pages decimals two sections)) =
    one_search (search_for_all pages limits) (λ t. text_alike pages) (one_listing pages limits)
one_owed (Some (job.Redraw which workers limits decimals two sections)) =
    one_search (search_for_one IsFileOf which limits) (λ t text other is. is) (one_numbered IsFileOf (λ d s. one_file s s (λ g. refl) d) which limits)
one_owed (Some (job.Stl which workers limits two sections)) =
    one_search (search_for_one (λ _. IsSolidStl) which limits) (λ t text other is. is) (one_numbered (λ _. IsSolidStl) (λ d. one_text) which limits)
one_owed (Some (job.Prove workers limits two)) = one_search (search_for_log limits) (λ t text other is. inl is) (one_logs limits)
one_owed (Some (job.Check two sections)) = (
  λ t text other is. is,
  λ t a b text other told told_too. inl (one_checked t a b text other told told_too),
)
one_owed (Some (job.Ask workers limits two)) = one_session limits
one_owed (Some (job.Blocks decimals two)) = (
  λ t text other is. is,
  λ t a b text other (is, p, has, told) (is_too, q, has_too, told_too).
      inl (is ∙ sym is_too, told ∙ ap (blocks_text t.decimals) (one_problem has has_too).problem ∙ sym told_too),
)
one_owed (Some (job.Make n)) = one_made_file n
one_owed (Some (job.Trial n workers)) = one_figures n
one_owed None = λ text other is is_too. is ∙ sym is_too

-- ---- one answer to words

module _ (a b : Answer) (text other : List ℕ) where
  one_input : (j : Judgement) → JudgesOne j → (t : Input) → AnswersInput j.tells t a text → AnswersInput j.tells t b other
      → AreOne (λ x y. HasNoFault t × j.leaves_open t x y) (j.alike t) a b text other
  one_input j one t (inl (is, (fault, at, told))) (inl (is_too, (fault_too, at_too, told_too))) =
      inl (is ∙ sym is_too, one.0 t text other (told ∙ ap fault_text (one_fault t fault fault_too at at_too) ∙ sym told_too))
  one_input j one t (inl (is, (fault, at, told))) (inr (none, told_too)) = absurd (none fault at)
  one_input j one t (inr (none, told)) (inl (is, (fault, at, told_too))) = absurd (none fault at)
  one_input j one t (inr (none, told)) (inr (none_too, told_too)) =
      ⊎_elim inl (λ (both : j.leaves_open t a b). inr (none, both)) (one.1 t a b text other told told_too)

  one_answer_owed : (o : Owed) → OwesOne o → (t : List ℕ) (rest left : Option (List ℕ)) → AnswersOwed o (Some t) rest a text
      → AnswersOwed o (Some t) left b other → AreOne (LeavesOpen o t) (AreAlike o t) a b text other
  one_answer_owed (read profile asked) one t rest left (bytes, (same, reads), told) (bytes_too, (same_too, reads_too), told_too) =
      one_input (judgement_of asked) one (input_of profile t)
      (subst (λ u. AnswersInput (judgement_of asked).tells (input_of profile u) a text) (sym same) told)
      (subst (λ u. AnswersInput (judgement_of asked).tells (input_of profile u) b other) (sym same_too) told_too)
  one_answer_owed (alone right tells) one t rest left (reads, is, told) (reads_too, is_too, told_too) =
      inl (is ∙ sym is_too, one text other told told_too)

pub same_answer : (words : List (List ℕ)) (t : List ℕ) (rest left : Option (List ℕ)) (a b : Answer) (text other : List ℕ)
    → Answers words (Some t) rest a text → Answers words (Some t) left b other
    → AreOne (LeavesOpen (owed_to words) t) (AreAlike (owed_to words) t) a b text other
same_answer words t rest left a b text other = one_answer_owed a b text other (owed_to words) (one_owed (job_said words)) t rest left
