-- What is owed for the words of a run: each command by one line.
use Rattle.std.specs.Prelude.{◌≡◌, ◌⊎◌, Bool, true, false, ℕ, ◌+◌, ◌≤◌, List, [], length, Option, Some, None, IfSome}
use Rattle.drawing_maker.specs.Made.{made_solid}
use Rattle.dxf_entities.specs.declared.layer_set.LayerSet.{LayerSet}
use Rattle.dxf_entities.specs.declared.layer_set.LayerSet.TheVariants.{Main, Six, Sections}
use Rattle.replies.specs.declared.status.Answer.{Answer}
use Rattle.replies.specs.declared.status.Answer.TheVariants as answers
use Rattle.file_problem.specs.Inputs.{HasNoFault, Input, IsFileFault}
use Rattle.recon_run.specs.Answers.{AreSomeLogs, BeginsToList, CanEnd, IsSomeLog, IsTried, ListsSolids, TellsBlocks, TellsChecked, TellsNumbered, head_of, numbered_answer, usage_text}
use Rattle.recon_run.specs.Pages.{SameButPages}
use Rattle.recon_run.specs.Readers.{AsksToStop, BeginsAsked, SameBehindReaders, TellsAsked}
use Rattle.redraw.specs.Files.{IsFileOf}
use Rattle.report.specs.FaultText.{fault_text}
use Rattle.solid_model.specs.declared.cell.Cell.{Cell}
use Rattle.solid_model.specs.declared.ended.EndKind.{EndKind}
use Rattle.solid_model.specs.declared.ended.EndKind.TheVariants.{Whole, CutNodes, CutSolids}
use Rattle.solid_model.specs.declared.fault.Fault.{Fault}
use Rattle.solid_model.specs.Limits.{most_file_bytes, most_text_bytes}
use Rattle.solid_model.specs.Search.{SearchLimits}
use Rattle.stl_out.specs.SolidStl.{IsSolidStl}
use Rattle.tv_base.specs.Pieces.{ReadsPast}
use Rattle.words.specs.declared.job.Job.{Job}
use Rattle.words.specs.declared.job.Job.TheVariants as job

-- ---- how an input is read

-- how an input is read: how many bytes it may have at most, how many decimals its coordinates are read with, which layers are
-- read, and whether two of the three views are enough: then one of them may show nothing
pub record ProfileParts : Type 0 where
  pub most : ℕ
  pub decimals : ℕ
  pub layers : LayerSet
  pub two : Bool

-- a drawing alone, of which these layers are read, whose coordinates have so many decimals; one of the three views may be missing,
-- or none
abbrev pub drawing_profile : LayerSet → ℕ → Bool → ProfileParts
drawing_profile layers decimals two = record { most = most_file_bytes; decimals = decimals; layers = layers; two = two }

-- the same with a log behind it, whose coordinates have no decimals
abbrev pub log_profile : LayerSet → Bool → ProfileParts
log_profile layers two = record { most = most_text_bytes; decimals = 0; layers = layers; two = two }

-- the layers that are read where sections are asked for, and else these
abbrev pub layers_or : Bool → LayerSet → LayerSet
layers_or true layers = Sections
layers_or false layers = layers

-- the input that is read so of these bytes
abbrev pub input_of : ProfileParts → List ℕ → Input
input_of profile t = record { bytes = t; most = profile.most; decimals = profile.decimals; layers = profile.layers; two = profile.two }

-- ---- searches

-- A search of an input: its limits; the answer where it is whole, by how many solids are told; the texts that tell that the search
-- ends so; those that begin to tell it; and which of its texts count as one.
pub record Search : Type 1 where
  pub limits : SearchLimits
  pub whole : Input → ℕ → Answer
  pub tells : (t : Input) (kind : EndKind) → CanEnd limits t kind → List ℕ → Type 0
  pub begins : (t : Input) (kind : EndKind) → CanEnd limits t kind → List ℕ → Type 0
  pub alike : Input → List ℕ → List ℕ → Type 0

-- the answer where the search of an input ends so
abbrev pub answer_at : (s : Search) (t : Input) (kind : EndKind) → CanEnd s.limits t kind → Answer
answer_at s t Whole c = s.whole t (length c.solids)
answer_at s t CutNodes c = answers.CutNodes
answer_at s t CutSolids c = answers.CutSolids

-- a search for all solids, which are listed, after pages of them or without
abbrev pub search_for_all : Bool → SearchLimits → Search
search_for_all paged limits = record {
  limits = limits;
  whole = λ t solids. answers.Done;
  tells = ListsSolids paged limits;
  begins = BeginsToList paged limits;
  alike = λ t. SameButPages paged;
}

-- where a search is whole, this text; at a cut how it ended, alone
abbrev pub WholeOrHead : (limits : SearchLimits) → ((t : Input) → CanEnd limits t Whole → List ℕ → Type 0)
    → (t : Input) (kind : EndKind) → CanEnd limits t kind → List ℕ → Type 0
WholeOrHead limits tells t Whole c text = tells t c text
WholeOrHead limits tells t CutNodes c text = text ≡ head_of c
WholeOrHead limits tells t CutSolids c text = text ≡ head_of c

-- a search that answers in one piece, so where it is whole
abbrev pub in_one_piece : (limits : SearchLimits) → (Input → ℕ → Answer)
    → ((t : Input) → CanEnd limits t Whole → List ℕ → Type 0) → (Input → List ℕ → List ℕ → Type 0) → Search
in_one_piece limits whole tells alike = record {
  limits = limits;
  whole = whole;
  tells = WholeOrHead limits tells;
  begins = WholeOrHead limits tells;
  alike = alike;
}

-- a search for the solid of a number, of which this is written, with so many decimals
abbrev pub search_for_one : (ℕ → List Cell → List ℕ → Type 0) → ℕ → SearchLimits → Search
search_for_one writes which limits = in_one_piece limits (λ t. numbered_answer which)
    (λ t c. TellsNumbered (writes t.decimals) which c.solids) (λ t text other. text ≡ other)

-- a search that a log shows to be complete: any log of the problem, and all of these count as one
abbrev pub search_for_log : SearchLimits → Search
search_for_log limits = in_one_piece limits (λ t solids. answers.Done) (λ t c. IsSomeLog c.problem) AreSomeLogs

-- ---- judgements

-- What is judged of an input without a fault: the right answers, with their texts; those that begin one; which two answers are left
-- open, so that either may come, and with any of its texts; and which texts count as one.
pub record Judgement : Type 1 where
  pub tells : Input → Answer → List ℕ → Type 0
  pub begins : Input → Answer → List ℕ → Type 0
  pub leaves_open : Input → Answer → Answer → Type 0
  pub alike : Input → List ℕ → List ℕ → Type 0

-- the search of an input can end so, and the text is one of these of that end
abbrev pub IsAnEnd : (s : Search) → ((t : Input) (kind : EndKind) → CanEnd s.limits t kind → List ℕ → Type 0)
    → Input → Answer → List ℕ → Type 0
IsAnEnd s texts t answer text =
    (kind : EndKind) × (c : CanEnd s.limits t kind) × (answer ≡ answer_at s t kind c) × texts t kind c text

-- an answer is a cut
abbrev pub IsCut : Answer → Type 0
IsCut answers.CutNodes = Unit {0}
IsCut answers.CutSolids = Unit {0}
IsCut answers.Done = ⊥
IsCut answers.Faulty = ⊥
IsCut answers.Usage = ⊥
IsCut answers.NoSolid = ⊥
IsCut answers.Refused = ⊥
IsCut answers.Stopped = ⊥
IsCut answers.NotAsked = ⊥

-- both answers are cuts: either may be right where both limits are passed, and which of the solids are told is open
abbrev pub AreCuts : Answer → Answer → Type 0
AreCuts a b = IsCut a × IsCut b

-- some reader asks to stop, and one of both answers is that the search was stopped
abbrev pub IsStopOpen : Input → Answer → Answer → Type 0
IsStopOpen t a b = AsksToStop t × ((a ≡ answers.Stopped) ⊎ (b ≡ answers.Stopped))

-- what is judged of a log behind a drawing
abbrev pub log_judgement : Judgement
log_judgement = record {
  tells = TellsChecked;
  begins = TellsChecked;
  leaves_open = λ t a b. ⊥;
  alike = λ t text other. text ≡ other;
}

-- what is judged of an input's blocks: where they are
abbrev pub blocks_judgement : Judgement
blocks_judgement = record {
  tells = TellsBlocks;
  begins = TellsBlocks;
  leaves_open = λ t a b. ⊥;
  alike = λ t text other. text ≡ other;
}

-- what is judged of what readers are asked behind a drawing, whose problem is searched within these limits
abbrev pub session_judgement : SearchLimits → Judgement
session_judgement limits = record {
  tells = TellsAsked limits;
  begins = BeginsAsked limits;
  leaves_open = λ t a b. AreCuts a b ⊎ IsStopOpen t a b;
  alike = SameBehindReaders;
}

-- what an input is asked for: a search, or what is judged of it without a search of its own
pub data Asked : Type 1 where
  searched : Search → Asked
  judged : Judgement → Asked

-- the judgement that is asked for: of a search its ends; two cuts are left open
abbrev pub judgement_of : Asked → Judgement
judgement_of (searched s) = record {
  tells = IsAnEnd s s.tells;
  begins = IsAnEnd s s.begins;
  leaves_open = λ t. AreCuts;
  alike = s.alike;
}
judgement_of (judged j) = j

-- ---- what is owed

-- what an input that is read so is asked for; or, to words that ask for none, one answer, with these texts
pub data Owed : Type 1 where
  read : ProfileParts → Asked → Owed
  alone : Answer → (List ℕ → Type 0) → Owed

-- for each job, however many work at it: a command is one line
abbrev pub owed_for : Job → Owed
owed_for (job.Solve workers limits pages decimals two sections) =
    read (drawing_profile (layers_or sections Six) decimals two) (searched (search_for_all pages limits))
owed_for (job.Redraw which workers limits decimals two sections) =
    read (drawing_profile (layers_or sections Six) decimals two) (searched (search_for_one IsFileOf which limits))
owed_for (job.Stl which workers limits two sections) =
    read (drawing_profile (layers_or sections Main) 0 two) (searched (search_for_one (λ _. IsSolidStl) which limits))
owed_for (job.Prove workers limits two) = read (drawing_profile Main 0 two) (searched (search_for_log limits))
owed_for (job.Check two sections) = read (log_profile (layers_or sections Main) two) (judged log_judgement)
owed_for (job.Ask workers limits two) = read (drawing_profile Main 0 two) (judged (session_judgement limits))
owed_for (job.Blocks decimals two) = read (drawing_profile Main decimals two) (judged blocks_judgement)
owed_for (job.Make n) = alone answers.Done (IsFileOf 0 (made_solid n))
owed_for (job.Trial n workers) = alone answers.Done (IsTried n)

-- and for words that ask for none the usage line
abbrev pub owed : Option Job → Owed
owed (Some j) = owed_for j
owed None = alone answers.Usage (λ text. text ≡ usage_text)

-- the source is read for it
abbrev pub reads_source : Owed → Bool
reads_source (read profile asked) = true
reads_source (alone answer tells) = false

-- so many bytes of it at most: one more than an input may have
abbrev pub most_read : Owed → ℕ
most_read (read profile asked) = profile.most + 1
most_read (alone answer tells) = 0

-- ---- the right answers

-- an input has this first fault, and the text tells it
abbrev pub TellsFault : Input → List ℕ → Type 0
TellsFault t text = (fault : Fault) × IsFileFault t fault × (text ≡ fault_text fault)

-- the right answer to an input, and its text: its first fault; or, where it has none, one of these
abbrev pub AnswersInput : (Input → Answer → List ℕ → Type 0) → Input → Answer → List ℕ → Type 0
AnswersInput tells t answer text = ((answer ≡ answers.Faulty) × TellsFault t text) ⊎ (HasNoFault t × tells t answer text)

-- The source had t left and was read to its end; or, where t is too long, up to one byte more than
-- the most.
abbrev pub ReadsAllOrPast : ℕ → List ℕ → Option (List ℕ) → Type 0
ReadsAllOrPast most t rest = ((length t ≤ most) × (rest ≡ Some [])) ⊎ ReadsPast (Some t) rest most

-- a source that had `left` and has `rest` had t left, where that is told, and was read so
abbrev pub HasRead : ℕ → Option (List ℕ) → Option (List ℕ) → List ℕ → Type 0
HasRead most left rest t = IfSome left (λ told. (told ≡ t) × ReadsAllOrPast most t rest)

-- the right answer to an input that is read of a source, and its text
abbrev pub AnswersRead : ProfileParts → (Input → Answer → List ℕ → Type 0) → Option (List ℕ) → Option (List ℕ) → Answer → List ℕ → Type 0
AnswersRead profile tells left rest answer text =
    (t : List ℕ) × HasRead profile.most left rest t × AnswersInput tells (input_of profile t) answer text

-- the right answer, over a source that had `left` and has `rest`, where told, and its text
abbrev pub AnswersOwed : Owed → Option (List ℕ) → Option (List ℕ) → Answer → List ℕ → Type 0
AnswersOwed (read profile asked) left rest answer text = AnswersRead profile (judgement_of asked).tells left rest answer text
AnswersOwed (alone right tells) left rest answer text = (rest ≡ left) × (answer ≡ right) × tells text

-- the same of a text that begins one
abbrev pub BeginsOwed : Owed → Option (List ℕ) → Option (List ℕ) → Answer → List ℕ → Type 0
BeginsOwed (read profile asked) left rest answer text = AnswersRead profile (judgement_of asked).begins left rest answer text
BeginsOwed (alone right tells) left rest answer text = AnswersOwed (alone right tells) left rest answer text
