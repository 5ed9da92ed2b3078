-- A text that begins a right answer goes on to one.
use Rattle.solid_model.specs.Blocks.{ProblemParts}
use Rattle.recon_run.specs.Readers.{AnswersScripts, BeginsScripts, EndsAsked, StopsAsked, TellsSession, listing_head}
use Rattle.dxf_groups.specs.TextLines.{text_lines}
use Rattle.query_session.specs.Sessions.{read_session}
use Rattle.query_session.specs.declared.ask.AskFault.{AskFault}
use Rattle.query_session.specs.declared.ask.Ask.{Ask}
use Rattle.std.proofs.Common.{◌≡◌, ◌⊎◌, ℕ, zero, suc, ◌+◌, List, [], ◌∷◌, ◌++◌, Bool, length, take, Option, Some, None, inl, inr, refl, sym, ap, subst, ◌∙◌, append_assoc, drop, Result, Ok, Err}
use Rattle.std.proofs.lemmas.List.{append-nil, take-append-drop}
use Rattle.face_laws.proofs.SomeFaces.{some_faces}
use Rattle.file_problem.specs.Inputs.{Input}
use Rattle.replies.specs.declared.status.Answer.{Answer}
use Rattle.recon_run.specs.Answers.{BeginsToList, CanEnd, ListsSolids, TellsBlocks, TellsChecked, TellsSolids, head_of, BeginsAll, TellsAll}
use Rattle.recon_run.specs.Endings.{owed_to}
use Rattle.recon_run.specs.Owed.{AnswersOwed, BeginsOwed, Judgement, Owed, Search, alone, input_of, judgement_of, owed, read, search_for_all, search_for_log, search_for_one, searched, session_judgement}
use Rattle.sink_pages.specs.PageTexts.{Page, pages_text}
use Rattle.report.specs.Texts.{page_text, solid_text, stopped_text}
use Rattle.redraw.specs.Files.{IsFileOf}
use Rattle.stl_out.specs.SolidStl.{IsSolidStl}
use Rattle.solid_model.specs.declared.cell.Cell.{Cell}
use Rattle.solid_model.specs.declared.ended.EndKind.{EndKind}
use Rattle.solid_model.specs.Choices.{AreSolidsOfChoices}
use Rattle.solid_model.specs.Grid.{Coordinates}
use Rattle.solid_model.specs.Panels.{coordinates_of}
use Rattle.solid_model.specs.Search.{SearchLimits}
use Rattle.words.specs.declared.job.Job.{Job}
use Rattle.words.specs.declared.job.Job.TheVariants as job
use Rattle.words.specs.Jobs.{job_said}

-- ---- texts

-- the text of pages begins with that of the first of them
pages_split : (number total first : ℕ) (pages : List Page) → (rest : List ℕ) × (pages_text number total (take first pages) ++ rest ≡ pages_text number total pages)
pages_split number total zero pages = (pages_text number total pages, refl)
pages_split number total (suc first) [] = ([], refl)
pages_split number total (suc first) (page ∷ pages) =
    let (rest, is) = pages_split (number + 1) (total + length page) first pages in
    let told = page_text (number + 1) (total + length page) page in
    (rest, append_assoc told (pages_text (number + 1) (total + length page) (take first pages)) rest ∙ ap (λ text. told ++ text) is)

module _ (decimals : ℕ) (coordinates : Coordinates) (numbers : List (Option ℕ)) (count : ℕ) where
  -- it can't be that no text tells solids, since none lacks its faces
  pub some_telling : (number : ℕ) (choices : List (List Bool)) (solids : List (List Cell)) → AreSolidsOfChoices coordinates numbers count choices solids
      → ((text : List ℕ) → TellsSolids decimals number choices solids text → ⊥) → ⊥
  some_telling number [] [] filled never = never [] refl
  some_telling number [] (s ∷ solids) filled never = absurd filled
  some_telling number (choice ∷ choices) [] filled never = absurd filled
  some_telling number (choice ∷ choices) (s ∷ solids) filled never =
      some_faces s (λ faces are. some_telling (number + 1) choices solids filled.2 (λ rest tells.
      let first = solid_text decimals number choice (length s) faces in
      never (first ++ rest) (first, (faces, are, refl), rest, tells, refl)))

  -- or that a text which tells the first of them doesn't go on
  telling_goes_on : (number first : ℕ) (choices : List (List Bool)) (solids : List (List Cell)) → AreSolidsOfChoices coordinates numbers count choices solids
      → (text : List ℕ) → TellsSolids decimals number (take first choices) (take first solids) text
      → ((more : List ℕ) → TellsSolids decimals number choices solids (text ++ more) → ⊥) → ⊥
  telling_goes_on number zero choices solids filled text none never = some_telling number choices solids filled
      (λ more tells. never more (subst (λ bytes. TellsSolids decimals number choices solids (bytes ++ more)) (sym none) tells))
  telling_goes_on number (suc first) [] [] filled text none never = never [] (append-nil text ∙ none)
  telling_goes_on number (suc first) [] (s ∷ solids) filled text tells never = absurd filled
  telling_goes_on number (suc first) (choice ∷ choices) [] filled text tells never = absurd filled
  telling_goes_on number (suc first) (choice ∷ choices) (s ∷ solids) filled text (one, is, rest, tells, both) never =
      telling_goes_on (number + 1) first choices solids filled.2 rest tells (λ more told.
      never more (one, is, rest ++ more, told, ap (λ bytes. bytes ++ more) both ∙ append_assoc one rest more))

-- ---- answers

-- it can't be that what begins an answer to an input doesn't go on to one
abbrev GoesOn : Judgement → Type 0
GoesOn j = (t : Input) (answer : Answer) (text : List ℕ) → j.begins t answer text
    → ((other : Answer) (more : List ℕ) → j.tells t other (text ++ more) → ⊥) → ⊥

-- what begins to list solids
listing_goes_on : (paged : Bool) (limits : SearchLimits) (t : Input) (kind : EndKind) (c : CanEnd limits t kind) (text : List ℕ) → BeginsToList paged limits t kind c text
    → ((more : List ℕ) → ListsSolids paged limits t kind c (text ++ more) → ⊥) → ⊥
listing_goes_on paged limits t kind c text (l, inl (pages, are, first, is)) never =
    let (rest, split) = pages_split 0 0 first pages in
    some_telling t.decimals (coordinates_of l.problem.grid) l.problem.blocks.numbers l.problem.blocks.count 1 l.choices l.solids l.filled (λ texts tells.
    let last = head_of c ++ texts in
    never (rest ++ last) (
      l,
      pages_text 0 0 pages,
      (pages, are, refl),
      last,
      (texts, tells, refl),
      ap (λ bytes. bytes ++ (rest ++ last)) is ∙ sym (append_assoc (pages_text 0 0 (take first pages)) rest last) ∙ ap (λ bytes. bytes ++ last) split,
    ))
listing_goes_on paged limits t kind c text (l, inr (before, pages, rest, (first, (texts, tells, is)), both)) never =
    telling_goes_on t.decimals (coordinates_of l.problem.grid) l.problem.blocks.numbers l.problem.blocks.count 1 first l.choices l.solids l.filled texts tells (λ more told.
    never more (
      l,
      before,
      pages,
      rest ++ more,
      (texts ++ more, told, ap (λ bytes. bytes ++ more) is ∙ append_assoc (head_of c) texts more),
      ap (λ bytes. bytes ++ more) both ∙ append_assoc before rest more,
    ))

-- what is begun whole is told
whole_goes_on : (tells : List ℕ → Type 0) (text : List ℕ) → tells text → ((more : List ℕ) → tells (text ++ more) → ⊥) → ⊥
whole_goes_on tells text told never = never [] (subst tells (sym (append-nil text)) told)

-- a search goes on to the same end
search_goes_on : (s : Search) → ((t : Input) (kind : EndKind) (c : CanEnd s.limits t kind) (text : List ℕ) → s.begins t kind c text
    → ((more : List ℕ) → s.tells t kind c (text ++ more) → ⊥) → ⊥) → GoesOn (judgement_of (searched s))
search_goes_on s on t answer text (kind, c, is, begun) never = on t kind c text begun (λ more told. never answer more (kind, c, is, told))

-- what is told in one piece
piece_goes_on : (writes : ℕ → List Cell → List ℕ → Type 0) (which : ℕ) (limits : SearchLimits) (t : Input) (kind : EndKind) (c : CanEnd limits t kind) (text : List ℕ)
    → (search_for_one writes which limits).begins t kind c text → ((more : List ℕ) → (search_for_one writes which limits).tells t kind c (text ++ more) → ⊥) → ⊥
piece_goes_on writes which limits t kind c text = whole_goes_on ((search_for_one writes which limits).tells t kind c) text

-- what begins to tell solids behind a first line
begun_goes_on : (head : List ℕ) (decimals : ℕ) (p : ProblemParts) (choices : List (List Bool)) (solids : List (List Cell))
    → AreSolidsOfChoices (coordinates_of p.grid) p.blocks.numbers p.blocks.count choices solids → (rest : List ℕ) → BeginsAll head decimals choices solids rest
    → ((more : List ℕ) → TellsAll head decimals choices solids (rest ++ more) → ⊥) → ⊥
begun_goes_on head decimals p choices solids filled rest (first, (texts, tells, is)) never =
    telling_goes_on decimals (coordinates_of p.grid) p.blocks.numbers p.blocks.count 1 first choices solids filled texts tells (λ more told.
    never more (texts ++ more, told, ap (λ bytes. bytes ++ more) is ∙ append_assoc head texts more))

-- what begins an answer to what readers are asked
asked_goes_on : (limits : SearchLimits) → GoesOn (session_judgement limits)
asked_goes_on limits t answer text (asked, behind, begun) never = by (read_session (text_lines asked)) begun
    (λ more told. never answer more (asked, behind, told))
  where
    by : (r : Result (List (List Ask)) AskFault) → BeginsScripts limits t r answer text
        → ((more : List ℕ) → AnswersScripts limits t r answer (text ++ more) → ⊥) → ⊥
    by (Err fault) told stuck = whole_goes_on (AnswersScripts limits t (Err fault) answer) text told stuck
    by (Ok scripts) (before, rest, s, (n, is)) stuck = at s.ends
      where
        goes : (more : List ℕ) → TellsSession TellsAll limits t scripts answer before (rest ++ more) → ⊥
        goes more told = stuck (drop n (before ++ rest) ++ more) (
          before,
          rest ++ more,
          told,
          ap (λ bytes. bytes ++ (drop n (before ++ rest) ++ more)) is ∙ sym (append_assoc (take n (before ++ rest)) (drop n (before ++ rest)) more)
              ∙ ap (λ bytes. bytes ++ more) (take-append-drop n (before ++ rest)) ∙ append_assoc before rest more,
        )

        at : EndsAsked BeginsAll limits t s.lasts answer rest ⊎ StopsAsked BeginsAll limits t scripts s.lasts answer rest → ⊥
        at (inl (kind, m, e, among, right, begins)) = begun_goes_on (listing_head e) t.decimals m.problem m.choices m.solids m.filled rest begins (λ more told.
            goes more (record { problem = s.problem; has = s.has; lasts = s.lasts; readers = s.readers; ends = inl (kind, m, e, among, right, told) }))
        at (inr (stops, m, some, among, right, begins)) =
            begun_goes_on (stopped_text (length m.choices)) t.decimals m.problem m.choices m.solids m.filled rest begins (λ more told.
            goes more (record { problem = s.problem; has = s.has; lasts = s.lasts; readers = s.readers; ends = inr (stops, m, some, among, right, told) }))

-- what is owed for a job
abbrev OwesOn : Owed → Type 0
OwesOn (read profile asked) = GoesOn (judgement_of asked)
OwesOn (alone right tells) = Unit {0}

on_owed : (said : Option Job) → OwesOn (owed said)
on_owed (Some (job.Solve workers limits pages decimals two sections)) = search_goes_on (search_for_all pages limits) (listing_goes_on pages limits)
on_owed (Some (job.Redraw which workers limits decimals two sections)) = search_goes_on (search_for_one IsFileOf which limits) (piece_goes_on IsFileOf which limits)
on_owed (Some (job.Stl which workers limits two sections)) = search_goes_on (search_for_one (λ _. IsSolidStl) which limits) (piece_goes_on (λ _. IsSolidStl) which limits)
on_owed (Some (job.Prove workers limits two)) =
    search_goes_on (search_for_log limits) (λ t kind c text. whole_goes_on ((search_for_log limits).tells t kind c) text)
on_owed (Some (job.Check two sections)) = λ t answer text told never. whole_goes_on (TellsChecked t answer) text told (never answer)
on_owed (Some (job.Ask workers limits two)) = asked_goes_on limits
on_owed (Some (job.Blocks decimals two)) = λ t answer text told never. whole_goes_on (TellsBlocks t answer) text told (never answer)
on_owed (Some (job.Make n)) = tt
on_owed (Some (job.Trial n workers)) = tt
on_owed None = tt

going_on : (o : Owed) → OwesOn o → (left rest : Option (List ℕ)) (answer : Answer) (text : List ℕ) → BeginsOwed o left rest answer text
    → ((other : Answer) (more : List ℕ) → AnswersOwed o left rest other (text ++ more) → ⊥) → ⊥
going_on (alone right tells) on left rest answer text (kept, is, told) never =
    whole_goes_on (λ bytes. AnswersOwed (alone right tells) left rest answer bytes) text (kept, is, told) (never answer)
going_on (read profile asked) on left rest answer text (t, reads, inl fault) never =
    whole_goes_on (λ bytes. AnswersOwed (read profile asked) left rest answer bytes) text (t, reads, inl fault) (never answer)
going_on (read profile asked) on left rest answer text (t, reads, inr (none, begun)) never =
    on (input_of profile t) answer text begun (λ other more told. never other more (t, reads, inr (none, told)))

pub goes_on : (words : List (List ℕ)) (left rest : Option (List ℕ)) (answer : Answer) (text : List ℕ) → BeginsOwed (owed_to words) left rest answer text
    → ((other : Answer) (more : List ℕ) → AnswersOwed (owed_to words) left rest other (text ++ more) → ⊥) → ⊥
goes_on words = going_on (owed_to words) (on_owed (job_said words))
