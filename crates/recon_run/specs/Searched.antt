-- Problems that are found in inputs and searched, and what is written of them.
use Rattle.std.specs.Prelude.{◌≡◌, ◌≤◌, Bool, ℕ, List, length, Option, Some}
use Rattle.dxf_groups.specs.Pairs.{rest_of_text}
use Rattle.page_calls.specs.Those.{AreThose}
use Rattle.dxf_entities.specs.declared.layer_set.LayerSet.{LayerSet}
use Rattle.dxf_entities.specs.declared.layer_set.LayerSet.TheVariants.{Main, Six, Sections}
use Rattle.file_problem.specs.Inputs.{HasFurther, Input, IsFileFault}
use Rattle.further_views.specs.Further.{FurtherRuns}
use Rattle.six_views.specs.Further.{FitsChoice}
use Rattle.recon_run.specs.declared.found.Found.{Found}
use Rattle.recon_run.specs.declared.found.Found.TheVariants.{Problem, Fault}
use Rattle.recon_run.specs.declared.sought.Sought.{Sought}
use Rattle.recon_run.specs.declared.export.Export.{Export}
use Rattle.recon_run.specs.declared.export.Export.TheVariants.{Drawing, Triangles}
use Rattle.recon_run.specs.declared.question.Question.{Question}
use Rattle.recon_run.specs.declared.question.Question.TheVariants as question
use Rattle.recon_run.specs.Answers.{TellsNumbered, numbered_answer}
use Rattle.recon_run.specs.Endings.{Ends}
use Rattle.recon_run.specs.Readers.{TellsListed}
use Rattle.replies.specs.declared.status.Answer.TheVariants as answers
use Rattle.replies.specs.Status.{end_answer}
use Rattle.search_end.specs.declared.ending.SearchEnd.{SearchEnd as EndOfSearch}
use Rattle.search_end.specs.declared.ending.SearchEnd.TheVariants.{Ended, Stopped}
use Rattle.recon_run.specs.Owed.{Asked, Owed, ProfileParts, alone, blocks_judgement, input_of, judged, judgement_of, log_judgement, read, search_for_all, search_for_log, search_for_one, searched, session_judgement}
use Rattle.redraw.specs.Files.{IsFileOf}
use Rattle.replies.specs.Status.{Status}
use Rattle.replies.specs.Writings.{EndsWriting}
use Rattle.stl_out.specs.SolidStl.{IsSolidStl}
use Rattle.replies.specs.declared.status.Answer.{Answer}
use Rattle.replies.specs.declared.status.Failure.{Failure}
use Rattle.replies.specs.declared.status.Failure.TheVariants.{WriteFault, Memory}
use Rattle.report.specs.Texts.{fitting_text, head_text, stopped_text, yes_text}
use Rattle.page_calls.specs.declared.page_out.RunFault.{RunFault}
use Rattle.page_calls.specs.declared.page_out.RunFault.TheVariants as run_fault
use Rattle.solid_model.specs.declared.cell.Cell.{Cell}
use Rattle.solid_model.specs.declared.segment.Segment.{Segment}
use Rattle.solid_model.specs.declared.segment.Style.{Style}
use Rattle.solid_model.specs.Blocks.{ProblemParts}
use Rattle.solid_model.specs.Choices.{AreSolidsOfChoices}
use Rattle.solid_model.specs.Forcing.{is_live}
use Rattle.solid_model.specs.Limits.{most_solid_limit}
use Rattle.lemmas.specs.Lists.{Each}
use Rattle.tv_base.specs.Faults.{Rose}
use Rattle.solid_model.specs.Matching.{Matches}
use Rattle.solid_model.specs.Orders.{IsInStatedForm}
use Rattle.solid_model.specs.Panels.{coordinates_of, IsGridOf}
use Rattle.solid_model.specs.Search.{SearchLimits}
use Rattle.solid_model.specs.SearchEnds.{EndsSearch, SearchEnd}

-- this is sought by an input: its problem, and its further views and sections
abbrev pub IsSoughtBy : Input → Sought → Type 0
IsSoughtBy t sought = HasFurther t sought.problem sought.further

-- what is found in an input: what is sought by it and what stands behind its drawing, or its first fault
abbrev pub IsFoundIn : Input → Found → Type 0
IsFoundIn t (Problem found) = IsSoughtBy t found.sought × (rest_of_text t.bytes ≡ Some found.rest.items)
IsFoundIn t (Fault fault) = IsFileFault t fault

-- ---- searches

-- a problem, and how the search of it ended
pub record SearchedParts : Type 0 where
  pub problem : ProblemParts
  pub ended : SearchEnd

-- no search finds more solids than a limit can be
abbrev pub HasFewSolids : SearchedParts → Type 0
HasFewSolids s = length s.ended.solids ≤ most_solid_limit

-- a search of the problem within limits has ended so
abbrev pub IsSearchOf : SearchLimits → ProblemParts → SearchedParts → Type 0
IsSearchOf limits p s = (s.problem ≡ p) × EndsSearch (is_live p) p.blocks.count limits s.ended

-- the second one is the first one with those choices alone whose solids show these further views and sections
pub record IsFittingOf (further : FurtherRuns) (all fitting : SearchedParts) : Type 0 where
  pub problem : fitting.problem ≡ all.problem
  pub kind : fitting.ended.kind ≡ all.ended.kind
  pub opened : fitting.ended.opened ≡ all.ended.opened
  pub those : AreThose (FitsChoice all.problem further) all.ended.solids fitting.ended.solids

-- a search for what is sought has ended within limits: of the choices of the problem those are kept that fit these
abbrev pub IsFittingSearchOf : SearchLimits → Sought → SearchedParts → Type 0
IsFittingSearchOf limits sought s = (all : SearchedParts) × IsSearchOf limits sought.problem all × IsFittingOf sought.further all s

-- the same, and the text is one of these of its choices
abbrev pub TellsSearch : SearchLimits → Sought → (List (List Bool) → List ℕ → Type 0) → SearchedParts → List ℕ → Type 0
TellsSearch limits sought texts s text = IsFittingSearchOf limits sought s × texts s.ended.solids text

-- the first line that is told of a search
abbrev pub search_head : SearchLimits → SearchedParts → List ℕ
search_head limits s = head_text limits s.ended.kind (length s.ended.solids) s.ended.opened s.problem.blocks.count

-- why a run fails whose search failed so
abbrev pub run_failure : RunFault → Failure
run_failure run_fault.PageFault = WriteFault
run_failure run_fault.Memory = Memory

-- ---- logs

-- how many of these choices fit what is sought, and which
abbrev pub TellsWhichFit : Sought → List (List Bool) → List ℕ → Type 0
TellsWhichFit sought choices text = (fitting : List (List Bool)) × AreThose (FitsChoice sought.problem sought.further) choices fitting
    × (text ≡ fitting_text (length choices) fitting)

-- what is told of the choices that a log shows to be all, by which layers are read: all of them, or those that fit what is sought
abbrev pub TellsRight : LayerSet → Sought → List (List Bool) → List ℕ → Type 0
TellsRight Main sought choices text = text ≡ yes_text choices
TellsRight Six sought choices text = TellsWhichFit sought choices text
TellsRight Sections sought choices text = TellsWhichFit sought choices text

-- ---- sessions

-- this text tells how the search of a problem ended beside which readers were asked, and the solids that are listed
abbrev pub TellsEndOf : TellsListed → ℕ → ProblemParts → SearchLimits → EndOfSearch → List (List Cell) → Answer → List ℕ → Type 0
TellsEndOf tells decimals p limits (Ended ended desk) solids answer text = (answer ≡ end_answer ended.kind)
    × tells (search_head limits (record { problem = p; ended = ended })) decimals ended.solids solids text
TellsEndOf tells decimals p limits (Stopped desk choices) solids answer text = (answer ≡ answers.Stopped)
    × tells (stopped_text (length choices.items)) decimals choices.items solids text

-- ---- its solids

-- choices of a problem's blocks fill these solids, which match a drawing whose grid is the problem's
pub record FillSolids (p : ProblemParts) (choices : List (List Bool)) (solids : List (List Cell)) : Type 0 where
  pub drawing : Segment → Style
  pub grid : IsGridOf drawing p.grid
  pub filled : AreSolidsOfChoices (coordinates_of p.grid) p.blocks.numbers p.blocks.count choices solids
  pub matching : Each (λ s. Matches drawing s × IsInStatedForm s) solids

-- the answer where the solid of a number is asked for, among these, and a text that tells it
abbrev pub AnswersNumbered : (List Cell → List ℕ → Type 0) → ℕ → List (List Cell) → Answer → List ℕ → Type 0
AnswersNumbered writes which solids answer text =
    (answer ≡ numbered_answer which (length solids)) × TellsNumbered writes which solids text

-- ---- questions

-- what is written of a solid in a form, with so many decimals
abbrev pub writes_of : Export → ℕ → List Cell → List ℕ → Type 0
writes_of Drawing = IsFileOf
writes_of Triangles = λ decimals. IsSolidStl

-- what a question asks of an input
abbrev pub asked_of : Question → Asked
asked_of (question.AllSolids all) = searched (search_for_all all.pages all.limits)
asked_of (question.OneSolid one) = searched (search_for_one (writes_of one.export) one.which one.limits)
asked_of (question.Log limits) = searched (search_for_log limits)
asked_of question.Check = judged log_judgement
asked_of question.Blocks = judged blocks_judgement
asked_of (question.Session limits) = judged (session_judgement limits)

-- what is owed is read so
abbrev pub ReadsIn : Owed → ProfileParts → Type 0
ReadsIn (read profile asked) made = made ≡ profile
ReadsIn (alone answer tells) made = ⊥

-- what is owed asks this: what answers the question ends as it is owed, whatever faults were counted
abbrev pub AsksFor : Owed → Question → Type 0
AsksFor (read profile asked) q = (left rest held now : Option (List ℕ)) (read_before read_after written_before written_after : ℕ) (status : Status)
    → Ends (read profile (asked_of q)) left rest held now (Rose read_before read_after) (Rose written_before written_after) status
    → Ends (read profile asked) left rest held now (Rose read_before read_after) (Rose written_before written_after) status
AsksFor (alone answer tells) q = ⊥

-- so ends the writing of what answers a question about an input that is read so and by which this is sought
abbrev pub AnswersQuestion : Question → ProfileParts → Sought → Option (List ℕ) → Option (List ℕ) → Type 0 → Status → Type 0
AnswersQuestion q profile sought held now rose status = (t : List ℕ) → IsSoughtBy (input_of profile t) sought
    → EndsWriting ((judgement_of (asked_of q)).tells (input_of profile t)) ((judgement_of (asked_of q)).begins (input_of profile t)) held now rose status

-- the same where these bytes stand behind its drawing
abbrev pub AnswersBehind : Question → ProfileParts → Sought → List ℕ → Option (List ℕ) → Option (List ℕ) → Type 0 → Status → Type 0
AnswersBehind q profile sought rest held now rose status = (t : List ℕ) → IsSoughtBy (input_of profile t) sought → rest_of_text t ≡ Some rest
    → EndsWriting ((judgement_of (asked_of q)).tells (input_of profile t)) ((judgement_of (asked_of q)).begins (input_of profile t)) held now rose status
