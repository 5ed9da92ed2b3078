-- How a run ends: what it read, answered and wrote.
use Rattle.std.specs.Prelude.{◌≡◌, ◌⊎◌, ℕ, List, Option, IfSome, IsTrue, Ok, Err}
use Rattle.std.specs.Io.KnownBytes.{Appends, Keeps}
use Rattle.replies.specs.declared.status.Answer.{Answer}
use Rattle.replies.specs.declared.status.Failure.{Failure}
use Rattle.replies.specs.declared.status.Failure.TheVariants.{ReadFault, WriteFault, Memory}
use Rattle.file_problem.specs.Inputs.{HasNoFault, Input}
use Rattle.recon_run.specs.Answers.{CanEnd}
use Rattle.recon_run.specs.Owed.{AnswersOwed, Asked, BeginsOwed, Owed, Search, alone, answer_at, input_of, judged, judgement_of, owed, read, reads_source, searched}
use Rattle.replies.specs.Status.{Status, answer_code, failure_code}
use Rattle.solid_model.specs.declared.ended.EndKind.{EndKind}
use Rattle.tv_base.specs.Pieces.{AppendsPrefix}
use Rattle.words.specs.Jobs.{job_said}

-- ---- what is owed to words

-- what is owed to these words
abbrev pub owed_to : List (List ℕ) → Owed
owed_to words = owed (job_said words)

-- the right answer to words and a source that had `left` and has `rest`, where told, and its text
abbrev pub Answers : List (List ℕ) → Option (List ℕ) → Option (List ℕ) → Answer → List ℕ → Type 0
Answers words = AnswersOwed (owed_to words)

-- of these bytes, which have no fault, two answers are left open: either may come, and with any of its texts
abbrev pub LeavesOpen : Owed → List ℕ → Answer → Answer → Type 0
LeavesOpen (read profile asked) t a b = HasNoFault (input_of profile t) × (judgement_of asked).leaves_open (input_of profile t) a b
LeavesOpen (alone right tells) t a b = ⊥

-- two texts that answer them count as one
abbrev pub AreAlike : Owed → List ℕ → List ℕ → List ℕ → Type 0
AreAlike (read profile asked) t text other = (judgement_of asked).alike (input_of profile t) text other
AreAlike (alone right tells) t text other = text ≡ other

-- ---- how a run ends

-- a sink that held `held` and holds `now`, where told, has a prefix of a text that begins a right answer
abbrev pub WritesPrefix : Owed → Option (List ℕ) → Option (List ℕ) → Option (List ℕ) → Option (List ℕ) → Type 0
WritesPrefix o left rest held now = (answer : Answer) × (text : List ℕ) × BeginsOwed o left rest answer text × AppendsPrefix held now text

-- How a run ends to which this is owed: with a right answer, whose text is written whole; with a fault of the source, if it is
-- read, and then nothing is written; with a fault of the sink, and then a prefix of a right answer's text is written; out of
-- memory, and then such a prefix is written, or nothing. Where the source or the sink failed, its count of faults rose.
abbrev pub Ends : Owed → Option (List ℕ) → Option (List ℕ) → Option (List ℕ) → Option (List ℕ) → Type 0 → Type 0 → Status → Type 0
Ends o left rest held now source_rose sink_rose (Ok answer) = (text : List ℕ) × AnswersOwed o left rest answer text × Appends held now text
Ends o left rest held now source_rose sink_rose (Err ReadFault) = source_rose × IsTrue (reads_source o) × Keeps held now
Ends o left rest held now source_rose sink_rose (Err WriteFault) = sink_rose × WritesPrefix o left rest held now
Ends o left rest held now source_rose sink_rose (Err Memory) = Keeps held now ⊎ WritesPrefix o left rest held now

-- ---- which answer is due

-- the number is that of this answer, or of a failure, to which every answer yields
abbrev pub AnswersOrFails : Answer → ℕ → Type 0
AnswersOrFails answer code = (code ≡ answer_code answer) ⊎ ((failure : Failure) × (code ≡ failure_code failure))

-- the number is that of an end whose limits the input keeps or passes so, or of a failure
abbrev pub EndsOrFails : Search → Input → ℕ → Type 0
EndsOrFails s t code = ((kind : EndKind) × (c : CanEnd s.limits t kind) × (code ≡ answer_code (answer_at s t kind c)))
    ⊎ ((failure : Failure) × (code ≡ failure_code failure))

-- where the source is read, and tells what it had left, this holds of the input
abbrev pub OfInput : Owed → Option (List ℕ) → (Input → Type 0) → Type 0
OfInput (read profile asked) left P = IfSome left (λ t. P (input_of profile t))
OfInput (alone answer tells) left P = Unit {0}

-- where a search is asked for, this holds of it and an input
abbrev pub OfAsked : Asked → (Search → Input → Type 0) → Input → Type 0
OfAsked (searched s) P t = P s t
OfAsked (judged j) P t = Unit {0}

-- where a search is owed, and the source tells what it had left, this holds of the search and its input
abbrev pub OfSearch : Owed → Option (List ℕ) → (Search → Input → Type 0) → Type 0
OfSearch (read profile asked) left P = IfSome left (λ t. OfAsked asked P (input_of profile t))
OfSearch (alone answer tells) left P = Unit {0}

-- where one answer is owed, this holds of it
abbrev pub OfAlone : Owed → (Answer → Type 0) → Type 0
OfAlone (read profile asked) P = Unit {0}
OfAlone (alone answer tells) P = P answer
