-- What is answered to what readers of the growing list are asked, behind a drawing.
use Rattle.std.specs.Prelude.{◌≡◌, ◌⊎◌, ◌+◌, ◌≤◌, Bool, true, ℕ, nat_le, List, [], ◌∷◌, ◌++◌, length, take, drop, Some, Result, Ok, Err, codes}
use Rattle.dxf_groups.specs.Pairs.{rest_of_text}
use Rattle.dxf_groups.specs.TextLines.{text_lines}
use Rattle.file_problem.specs.Inputs.{HasProblem, Input}
use Rattle.lemmas.specs.Lists.{Each}
use Rattle.query_session.specs.declared.ask.Ask.{Ask}
use Rattle.query_session.specs.declared.ask.Ask.TheVariants as ask
use Rattle.query_session.specs.declared.ask.ReaderTale.{ReaderTale}
use Rattle.query_session.specs.declared.ask.AskFault.{AskFault}
use Rattle.query_session.specs.declared.ask.AskKind.{AskKind}
use Rattle.query_session.specs.declared.ask.AskKind.TheVariants.{BadLine, TooMany, NoGo}
use Rattle.query_session.specs.Sessions.{read_session}
use Rattle.replies.specs.declared.status.Answer.{Answer}
use Rattle.replies.specs.declared.status.Answer.TheVariants as answers
use Rattle.replies.specs.Status.{end_answer}
use Rattle.report.specs.Texts.{head_text, reader_text, refusal_text, stopped_text}
use Rattle.recon_run.specs.Answers.{AllowsEnd, BeginsAll, TellsAll, node_count}
use Rattle.session_run.specs.Session.{AreAmong, asks_stop}
use Rattle.solid_model.specs.declared.cell.Cell.{Cell}
use Rattle.solid_model.specs.declared.ended.EndKind.{EndKind}
use Rattle.solid_model.specs.declared.ended.EndKind.TheVariants.{Whole, CutNodes, CutSolids}
use Rattle.solid_model.specs.Blocks.{ProblemParts}
use Rattle.solid_model.specs.Choices.{AreSolidsOfChoices}
use Rattle.solid_model.specs.Drawings.{drawing_of}
use Rattle.solid_model.specs.Matching.{AreSolidsOf, AreSomeSolidsOf}
use Rattle.solid_model.specs.Panels.{coordinates_of}
use Rattle.solid_model.specs.Search.{SearchLimits}
use Rattle.solid_model.specs.Solutions.{AreSolutions}
use Rattle.solution_book.specs.declared.reader.Page.{Page}
use Rattle.solution_book.specs.Editions.{StartsWith}
use Rattle.std.specs.List.{flat_map}

-- ---- readers

-- the text of the page of a list from a place on, at most so long, that this reader tells
abbrev pub page_told : ℕ → ℕ → ℕ → List (List Bool) → List ℕ
page_told reader from most list = reader_text reader from (take most (drop from list)) (nat_le (length list) (from + most))

-- The text of what a reader tells by its script, who has seen a list before and sees one at last: for each page that is asked for
-- there is a list, which begins with those of the pages before it, and its page is told. The last list begins with all of them.
abbrev pub TellsReader : ℕ → List Ask → List (List Bool) → List (List Bool) → List ℕ → Type 0
TellsReader reader [] before last text = StartsWith last before × (text ≡ [])
TellsReader reader (ask.Page from most ∷ asks) before last text = (list : List (List Bool)) × StartsWith list before
    × (rest : List ℕ) × TellsReader reader asks list last rest × (text ≡ page_told reader from most list ++ rest)
TellsReader reader (ask.Wait count ∷ asks) before last text = TellsReader reader asks before last text
TellsReader reader (ask.Stop ∷ asks) before last text = TellsReader reader asks before last text

-- The texts of readers, from this number on, by the lists that they see at last: different solutions of the problem.
abbrev pub TellsReaders : ProblemParts → ℕ → List (List Ask) → List (List (List Bool)) → List ℕ → Type 0
TellsReaders p reader [] [] text = text ≡ []
TellsReaders p reader (script ∷ scripts) (last ∷ lasts) text = AreSolutions p last × (first : List ℕ) × TellsReader reader script [] last first
    × (rest : List ℕ) × TellsReaders p (reader + 1) scripts lasts rest × (text ≡ first ++ rest)
TellsReaders p reader _ _ text = ⊥

-- the text of a page as a reader keeps it
abbrev pub page_text_of : ℕ → Page → List ℕ
page_text_of reader page = reader_text reader page.from page.solids.items page.ends_here

-- the texts of all pages of readers, from this number on
abbrev pub tales_text : ℕ → List ReaderTale → List ℕ
tales_text reader [] = []
tales_text reader (tale ∷ tales) = flat_map (page_text_of reader) tale.pages.items ++ tales_text (reader + 1) tales

-- ---- the end

-- what tells a first line and solids, as `TellsAll` does
abbrev pub TellsListed : Type 1
TellsListed = List ℕ → ℕ → List (List Bool) → List (List Cell) → List ℕ → Type 0

-- solids that match the input's drawing, at most as many as the limit, and the choices of blocks that fill them
pub record SomeMatching (limits : SearchLimits) (t : Input) : Type 0 where
  pub problem : ProblemParts
  pub has : HasProblem t problem
  pub solids : List (List Cell)
  pub some : AreSomeSolidsOf (drawing_of has.lines) solids
  pub few : length solids ≤ limits.solids
  pub choices : List (List Bool)
  pub filled : AreSolidsOfChoices (coordinates_of problem.grid) problem.blocks.numbers problem.blocks.count choices solids

-- which of all solids are listed at an end: all, or some, at a cut at solids as many as the limit
abbrev pub ListsOf : SearchLimits → EndKind → List (List Cell) → List (List Cell) → Type 0
ListsOf limits Whole all solids = solids ≡ all
ListsOf limits CutNodes all solids = Unit {0}
ListsOf limits CutSolids all solids = length solids ≡ limits.solids

-- a search of the input can end so, and lists these
pub record EndsListing (limits : SearchLimits) (t : Input) (kind : EndKind) (m : SomeMatching limits t) : Type 0 where
  pub all : List (List Cell)
  pub matching : AreSolidsOf (drawing_of m.has.lines) all
  pub allows : AllowsEnd limits m.problem all kind
  pub lists : ListsOf limits kind all m.solids

-- the first line of such an end
abbrev pub listing_head : {limits : SearchLimits} {t : Input} {kind : EndKind} {m : SomeMatching limits t} → EndsListing limits t kind m → List ℕ
listing_head {limits} {t} {kind} {m} e = head_text limits kind (length e.all) (node_count m.problem) m.problem.blocks.count

-- how the search ended, and the solids that are listed, among which is what readers saw at last
abbrev pub EndsAsked : TellsListed → SearchLimits → Input → List (List (List Bool)) → Answer → List ℕ → Type 0
EndsAsked tells limits t lasts answer text = (kind : EndKind) × (m : SomeMatching limits t) × (e : EndsListing limits t kind m)
    × Each (AreAmong limits.solids m.choices) lasts × (answer ≡ end_answer kind) × tells (listing_head e) t.decimals m.choices m.solids text

-- Or that it was stopped, as some script asks, and some solids. Of how far the search had come that says only that some prefix is
-- live.
abbrev pub StopsAsked : TellsListed → SearchLimits → Input → List (List Ask) → List (List (List Bool)) → Answer → List ℕ → Type 0
StopsAsked tells limits t scripts lasts answer text = (asks_stop scripts ≡ true) × (m : SomeMatching limits t) × (1 ≤ node_count m.problem)
    × Each (AreAmong limits.solids m.choices) lasts × (answer ≡ answers.Stopped)
    × tells (stopped_text (length m.choices)) t.decimals m.choices m.solids text

-- ---- the answer

-- the number and the name of what is wrong with a line of askings
abbrev pub ask_kind_name : AskKind → List ℕ
ask_kind_name BadLine = codes "A1 BadLine"
ask_kind_name TooMany = codes "A2 TooMany"
ask_kind_name NoGo = codes "A3 NoGo"

-- the texts of readers by their scripts, and then how the search ended
pub record TellsSession (tells : TellsListed) (limits : SearchLimits) (t : Input) (scripts : List (List Ask)) (answer : Answer) (before rest : List ℕ) : Type 0 where
  pub problem : ProblemParts
  pub has : HasProblem t problem
  pub lasts : List (List (List Bool))
  pub readers : TellsReaders problem 0 scripts lasts before
  pub ends : EndsAsked tells limits t lasts answer rest ⊎ StopsAsked tells limits t scripts lasts answer rest

-- what is answered to lines that read as these scripts, or as this first fault
abbrev pub AnswersScripts : SearchLimits → Input → Result (List (List Ask)) AskFault → Answer → List ℕ → Type 0
AnswersScripts limits t (Err fault) answer text = (answer ≡ answers.NotAsked) × (text ≡ refusal_text (codes "ask") (ask_kind_name fault.kind) fault.line)
AnswersScripts limits t (Ok scripts) answer text = (before : List ℕ) × (rest : List ℕ) × TellsSession TellsAll limits t scripts answer before rest × (text ≡ before ++ rest)

-- what begins it: some of the texts of readers; or all of them, how the search ended, and the first of the solids
abbrev pub BeginsScripts : SearchLimits → Input → Result (List (List Ask)) AskFault → Answer → List ℕ → Type 0
BeginsScripts limits t (Err fault) answer text = AnswersScripts limits t (Err fault) answer text
BeginsScripts limits t (Ok scripts) answer text = (before : List ℕ) × (rest : List ℕ) × TellsSession BeginsAll limits t scripts answer before rest
    × ((n : ℕ) × (text ≡ take n (before ++ rest)))

-- the lines behind the drawing are read as a session
abbrev pub TellsAsked : SearchLimits → Input → Answer → List ℕ → Type 0
TellsAsked limits t answer text = (asked : List ℕ) × (rest_of_text t.bytes ≡ Some asked) × AnswersScripts limits t (read_session (text_lines asked)) answer text

abbrev pub BeginsAsked : SearchLimits → Input → Answer → List ℕ → Type 0
BeginsAsked limits t answer text = (asked : List ℕ) × (rest_of_text t.bytes ≡ Some asked) × BeginsScripts limits t (read_session (text_lines asked)) answer text

-- some reader is asked to stop
abbrev pub AsksToStop : Input → Type 0
AsksToStop t = (asked : List ℕ) × (rest_of_text t.bytes ≡ Some asked) × (scripts : List (List Ask)) × (read_session (text_lines asked) ≡ Ok scripts)
    × (asks_stop scripts ≡ true)

-- two texts are one, or one behind what readers of the input's problem tell by their scripts
abbrev pub SameBehindReaders : Input → List ℕ → List ℕ → Type 0
SameBehindReaders t text other = (text ≡ other)
    ⊎ ((p : ProblemParts) × HasProblem t p × (scripts : List (List Ask)) × (before : List ℕ) × (after : List ℕ)
    × ((lasts : List (List (List Bool))) × TellsReaders p 0 scripts lasts before) × ((lasts : List (List (List Bool))) × TellsReaders p 0 scripts lasts after)
    × (rest : List ℕ) × (text ≡ before ++ rest) × (other ≡ after ++ rest))
