-- What `solve` answers to the bytes of a file, by its status.
use Rattle.std.specs.Prelude.{◌≡◌, ℕ, ◌<◌, ◌≤◌, Bool, List, length, ◌++◌, Option, Some}
use Rattle.std.specs.Io.KnownBytes.{Appends}
use Rattle.file_problem.specs.Inputs.{HasProblem, Input, IsFileFault}
use Rattle.recon_run.specs.Answers.{AreSomeTold, AreTold, AsksNoView, TellsSolids, node_count}
use Rattle.recon_run.specs.Owed.{drawing_profile, input_of, layers_or}
use Rattle.recon_run.specs.Pages.{TellsPages}
use Rattle.replies.specs.declared.status.Answer.{Answer}
use Rattle.replies.specs.declared.status.Answer.TheVariants.{Done, Faulty, Usage, CutNodes, CutSolids, NoSolid, Refused, Stopped, NotAsked}
use Rattle.replies.specs.Status.{answer_code}
use Rattle.dxf_entities.specs.declared.layer_set.LayerSet.TheVariants.{Six}
use Rattle.report.specs.FaultText.{fault_text}
use Rattle.report.specs.Texts.{head_text}
use Rattle.solid_model.specs.declared.cell.Cell.{Cell}
use Rattle.solid_model.specs.declared.ended.EndKind.TheVariants as ends
use Rattle.solid_model.specs.declared.ended.EndKind.{EndKind}
use Rattle.solid_model.specs.declared.fault.Fault.{Fault}
use Rattle.solid_model.specs.Blocks.{ProblemParts}
use Rattle.solid_model.specs.Choices.{AreSolidsOfChoices}
use Rattle.solid_model.specs.Drawings.{drawing_of}
use Rattle.solid_model.specs.Matching.{AreSolidsOf}
use Rattle.solid_model.specs.Panels.{coordinates_of}
use Rattle.solid_model.specs.Search.{SearchLimits}
use Rattle.words.specs.declared.job.Job.TheVariants as job
use Rattle.words.specs.Jobs.{job_said}

-- an input without a fault: its problem, and all solids that match its drawing
pub record Drawn (t : Input) : Type 0 where
  pub problem : ProblemParts
  pub has : HasProblem t problem
  pub matching : List (List Cell)
  pub all : AreSolidsOf (drawing_of has.lines) matching

-- The text lists solids: pages of the choices of blocks that fill them, if they are asked for; then the first line, by how the
-- search ended; then each solid with its number, its choice, its volume and its faces.
abbrev pub Lists : Bool → SearchLimits → {t : Input} → Drawn t → EndKind → List (List Cell) → List ℕ → Type 0
Lists paged limits {t} d kind solids text = (choices : List (List Bool))
    × AreSolidsOfChoices (coordinates_of d.problem.grid) d.problem.blocks.numbers d.problem.blocks.count choices solids
    × (pages : List ℕ) × TellsPages paged choices pages × (listed : List ℕ) × TellsSolids t.decimals 1 choices solids listed
    × (text ≡ pages ++ (head_text limits kind (length solids) (node_count d.problem) d.problem.blocks.count ++ listed))

-- The answers to an input, each with its texts: its first fault; all solids that match and fit, where both limits are kept; or
-- some of them, where one is passed.
abbrev pub SolveAnswers : Bool → SearchLimits → Input → Answer → List ℕ → Type 0
SolveAnswers paged limits t Faulty text = (fault : Fault) × IsFileFault t fault × (text ≡ fault_text fault)
SolveAnswers paged limits t Done text = (d : Drawn t) × (node_count d.problem ≤ limits.nodes) × (length d.matching ≤ limits.solids)
    × (solids : List (List Cell)) × AreTold d.has solids × Lists paged limits d ends.Whole solids text
SolveAnswers paged limits t CutNodes text = (d : Drawn t) × (limits.nodes < node_count d.problem)
    × (solids : List (List Cell)) × AreSomeTold limits d.has solids × Lists paged limits d ends.CutNodes solids text
SolveAnswers paged limits t CutSolids text = (d : Drawn t) × (limits.solids < length d.matching) × (solids : List (List Cell))
    × AreSomeTold limits d.has solids × (AsksNoView d.has → length solids ≡ limits.solids) × Lists paged limits d ends.CutSolids solids text
SolveAnswers paged limits t Usage text = ⊥
SolveAnswers paged limits t NoSolid text = ⊥
SolveAnswers paged limits t Refused text = ⊥
SolveAnswers paged limits t Stopped text = ⊥
SolveAnswers paged limits t NotAsked text = ⊥

-- Where the words ask for `solve`, and the source tells what it had left: if the number is that of an answer, the bytes have this
-- answer, and a sink that tells what it holds got its text whole.
abbrev pub Solves : List (List ℕ) → Option (List ℕ) → Option (List ℕ) → Option (List ℕ) → ℕ → Type 0
Solves words left held now code = (workers decimals : ℕ) (limits : SearchLimits) (pages two sections : Bool) (bytes : List ℕ) (answer : Answer)
    → job_said words ≡ Some (job.Solve workers limits pages decimals two sections) → left ≡ Some bytes → code ≡ answer_code answer
    → (text : List ℕ) × SolveAnswers pages limits (input_of (drawing_profile (layers_or sections Six) decimals two) bytes) answer text
    × Appends held now text
