-- What commands answer to an input.
use Rattle.std.specs.Prelude.{◌≡◌, ◌⊎◌, ℕ, nat_lt, ◌+◌, ◌-◌, ◌<◌, ◌≤◌, List, [], ◌∷◌, ◌++◌, Bool, length, take, slice_get, Some, codes, if◌then◌else◌}
use Rattle.block_texts.specs.BlockTexts.{blocks_text}
use Rattle.completeness_logs.specs.LogTexts.{IsLog}
use Rattle.drawing_maker.specs.Made.{made_solid}
use Rattle.dxf_groups.specs.Pairs.{rest_of_text}
use Rattle.dxf_entities.specs.declared.layer.Layer.{Layer}
use Rattle.dxf_entities.specs.declared.layer_set.LayerSet.{LayerSet}
use Rattle.dxf_entities.specs.declared.layer_set.LayerSet.TheVariants.{Main, Six, Sections}
use Rattle.file_problem.specs.Inputs.{HasProblem, Input}
use Rattle.further_views.specs.Further.{further_lines}
use Rattle.six_views.specs.Fits.{AreFittingSolids, AreSomeFittingSolids}
use Rattle.proof_check.specs.declared.fault.LogKind.{LogKind}
use Rattle.proof_check.specs.declared.fault.LogKind.TheVariants.{BadLine, BadBlock, Unproved, Unsolid, TooMany, BadCount, Short, Long}
use Rattle.proof_check.specs.Refusals.{IsLogRefused}
use Rattle.replies.specs.declared.status.Answer.{Answer}
use Rattle.replies.specs.declared.status.Answer.TheVariants as answers
use Rattle.recon_run.specs.Pages.{BeginsPages, TellsPages}
use Rattle.report.specs.Texts.{fitting_text, head_text, no_solid_text, refusal_text, solid_text, trial_text, yes_text}
use Rattle.solid_model.specs.declared.cell.Cell.{Cell}
use Rattle.solid_model.specs.declared.ended.EndKind.{EndKind}
use Rattle.solid_model.specs.declared.ended.EndKind.TheVariants.{Whole, CutNodes, CutSolids}
use Rattle.solid_model.specs.declared.segment.Segment.{Segment}
use Rattle.solid_model.specs.declared.segment.Style.{Style}
use Rattle.solid_model.specs.Blocks.{ProblemParts, IsBlocksOf}
use Rattle.solid_model.specs.Cells.{is_full}
use Rattle.solid_model.specs.Choices.{AreSolidsOfChoices}
use Rattle.solid_model.specs.Forcing.{is_live}
use Rattle.solid_model.specs.Drawings.{drawing_of, IsEmptyView}
use Rattle.solid_model.specs.DrawnStyle.{solid_drawing}
use Rattle.solid_model.specs.Faces.{FaceParts, AreFacesOf}
use Rattle.solid_model.specs.Matching.{AreSolidsOf}
use Rattle.solid_model.specs.Panels.{coordinates_of, IsGridOf}
use Rattle.solid_model.specs.Search.{SearchLimits, default_limits}
use Rattle.solid_model.specs.Tree.{live_count}

-- ---- the ends of a search

-- the number of live prefixes of a problem
abbrev pub node_count : ProblemParts → ℕ
node_count p = live_count (is_live p) p.blocks.count []

-- which limits the problem of an input keeps or passes, where a search of it ends so: whole where it keeps both, and else cut
-- where it passes one
abbrev pub AllowsEnd : SearchLimits → ProblemParts → List (List Cell) → EndKind → Type 0
AllowsEnd limits p solids Whole = (node_count p ≤ limits.nodes) × (length solids ≤ limits.solids)
AllowsEnd limits p solids CutNodes = limits.nodes < node_count p
AllowsEnd limits p solids CutSolids = limits.solids < length solids

-- the solids of an input that are told: all that match its drawing in the views that are drawn, and fit the further views and
-- sections it asks for
abbrev pub AreTold : {t : Input} {p : ProblemParts} → HasProblem t p → List (List Cell) → Type 0
AreTold has solids = AreFittingSolids (drawing_of has.lines) (further_lines has.further) solids

-- those that are told at an end of this kind: all where it is whole; a cut leaves open which are
abbrev pub AreToldAt : EndKind → {t : Input} {p : ProblemParts} → HasProblem t p → List (List Cell) → Type 0
AreToldAt Whole has solids = AreTold has solids
AreToldAt CutNodes has solids = solids ≡ []
AreToldAt CutSolids has solids = solids ≡ []

-- The input has no fault, and its live prefixes and the solids that match its drawing keep or pass the limits so. A search counts
-- all that match; where it is whole it tells `solids`.
pub record CanEnd (limits : SearchLimits) (t : Input) (kind : EndKind) : Type 0 where
  pub problem : ProblemParts
  pub has : HasProblem t problem
  pub counted : List (List Cell)
  pub all : AreSolidsOf (drawing_of has.lines) counted
  pub allows : AllowsEnd limits problem counted kind
  pub solids : List (List Cell)
  pub told : AreToldAt kind has solids

-- ---- the answers

-- the usage line
abbrev pub usage_text : List ℕ
usage_text = codes "usage: recon solve|redraw|make|trial\n"

-- the first line, where a search of the input ends so
abbrev pub head_of : {limits : SearchLimits} {t : Input} {kind : EndKind} → CanEnd limits t kind → List ℕ
head_of {limits} {t} {kind} c = head_text limits kind (length c.solids) (node_count c.problem) c.problem.blocks.count

-- ---- `solve`

-- some of the solids of an input that are told, no more than the limit
abbrev pub AreSomeTold : SearchLimits → {t : Input} {p : ProblemParts} → HasProblem t p → List (List Cell) → Type 0
AreSomeTold limits has solids = AreSomeFittingSolids (drawing_of has.lines) (further_lines has.further) solids × (length solids ≤ limits.solids)

-- the input asks for no further view or section
abbrev pub AsksNoView : {t : Input} {p : ProblemParts} → HasProblem t p → Type 0
AsksNoView has = (l : Layer) → IsEmptyView (further_lines has.further l) l.view

-- what is listed at an end: all solids that are told; or, at a cut, some, at a cut at solids as many as the limit where none of
-- these is asked for
abbrev pub AreListed : SearchLimits → {t : Input} {p : ProblemParts} → HasProblem t p → EndKind → List (List Cell) → Type 0
AreListed limits has Whole solids = AreTold has solids
AreListed limits has CutNodes solids = AreSomeTold limits has solids
AreListed limits has CutSolids solids = AreSomeTold limits has solids × (AsksNoView has → length solids ≡ limits.solids)

-- solids that the input's drawing shows, as an end of this kind lists them, and the choices of blocks that fill them
pub record ListedSolids (limits : SearchLimits) (t : Input) (kind : EndKind) : Type 0 where
  pub problem : ProblemParts
  pub has : HasProblem t problem
  pub solids : List (List Cell)
  pub listed : AreListed limits has kind solids
  pub choices : List (List Bool)
  pub filled : AreSolidsOfChoices (coordinates_of problem.grid) problem.blocks.numbers problem.blocks.count choices solids

-- the text of a solid of this number, with so many decimals: it tells the choice that fills it, its number of unit cells, and its
-- faces
abbrev pub TellsSolid : ℕ → ℕ → List Bool → List Cell → List ℕ → Type 0
TellsSolid decimals number choice s text =
    (faces : List FaceParts) × AreFacesOf (is_full s) faces × (text ≡ solid_text decimals number choice (length s) faces)

-- the texts of solids, numbered from this number on
abbrev pub TellsSolids : ℕ → ℕ → List (List Bool) → List (List Cell) → List ℕ → Type 0
TellsSolids decimals number [] [] text = text ≡ []
TellsSolids decimals number (choice ∷ choices) (s ∷ solids) text = (first : List ℕ) × TellsSolid decimals number choice s first
    × (rest : List ℕ) × TellsSolids decimals (number + 1) choices solids rest × (text ≡ first ++ rest)
TellsSolids decimals number _ _ text = ⊥

-- this first line, and then the texts of solids
abbrev pub TellsAll : List ℕ → ℕ → List (List Bool) → List (List Cell) → List ℕ → Type 0
TellsAll head decimals choices solids text =
    (texts : List ℕ) × TellsSolids decimals 1 choices solids texts × (text ≡ head ++ texts)

-- or of the first of them
abbrev pub BeginsAll : List ℕ → ℕ → List (List Bool) → List (List Cell) → List ℕ → Type 0
BeginsAll head decimals choices solids text = (first : ℕ) × TellsAll head decimals (take first choices) (take first solids) text

-- Where a search ends so, the text lists solids, as an end of this kind has it: pages of them, if they are asked for; then how
-- the search ended, and then all of them.
abbrev pub ListsSolids : Bool → (limits : SearchLimits) (t : Input) (kind : EndKind) → CanEnd limits t kind → List ℕ → Type 0
ListsSolids paged limits t kind c text = (l : ListedSolids limits t kind) × (before : List ℕ) × TellsPages paged l.choices before
    × (rest : List ℕ) × TellsAll (head_of c) t.decimals l.choices l.solids rest × (text ≡ before ++ rest)

-- The text begins to list them: it has the first of the pages; or all pages, how the search ended, and then the first of the
-- solids.
abbrev pub BeginsToList : Bool → (limits : SearchLimits) (t : Input) (kind : EndKind) → CanEnd limits t kind → List ℕ → Type 0
BeginsToList paged limits t kind c text = (l : ListedSolids limits t kind) × (BeginsPages paged l.choices text
    ⊎ ((before : List ℕ) × TellsPages paged l.choices before
    × (rest : List ℕ) × BeginsAll (head_of c) t.decimals l.choices l.solids rest × (text ≡ before ++ rest)))

-- ---- `redraw`

-- the solid of a number, counted from 1
abbrev pub IsNumbered : List (List Cell) → ℕ → List Cell → Type 0
IsNumbered solids which s = (1 ≤ which) × (slice_get solids (which - 1) ≡ Some s)

-- the answer where the solid of a number is asked for, among so many
abbrev pub numbered_answer : ℕ → ℕ → Answer
numbered_answer which solids = if nat_lt solids which then answers.NoSolid else answers.Done

-- the text that is written of the solid of a number, among these; or where they are fewer, that there is none
abbrev pub TellsNumbered : (List Cell → List ℕ → Type 0) → ℕ → List (List Cell) → List ℕ → Type 0
TellsNumbered writes which solids text = ((s : List Cell) × IsNumbered solids which s × writes s text)
    ⊎ ((length solids < which) × (text ≡ no_solid_text which (length solids)))

-- ---- `prove`

-- the text is a log of a problem
abbrev pub IsSomeLog : ProblemParts → List ℕ → Type 0
IsSomeLog p text = (listed : List (List Bool)) × IsLog p text listed

-- two texts are one, or both are logs of the input's problem
abbrev pub AreSomeLogs : Input → List ℕ → List ℕ → Type 0
AreSomeLogs t text other = (text ≡ other) ⊎ ((p : ProblemParts) × HasProblem t p × IsSomeLog p text × IsSomeLog p other)

-- ---- `check`

-- the number and the name of what is wrong with a line of a log
abbrev pub log_kind_name : LogKind → List ℕ
log_kind_name BadLine = codes "G1 BadLine"
log_kind_name BadBlock = codes "G2 BadBlock"
log_kind_name Unproved = codes "G3 Unproved"
log_kind_name Unsolid = codes "G4 Unsolid"
log_kind_name TooMany = codes "G5 TooMany"
log_kind_name BadCount = codes "G6 BadCount"
log_kind_name Short = codes "G7 Short"
log_kind_name Long = codes "G8 Long"

-- The bytes are a log of the input's problem, whoever wrote it, and the text says yes: it tells the choices of blocks that fill
-- the solids of the input's drawing, all of them.
abbrev pub SaysYes : {t : Input} {p : ProblemParts} → HasProblem t p → List ℕ → List ℕ → Type 0
SaysYes {t} {p} has log text = IsSomeLog p log × (solids : List (List Cell)) × AreSolidsOf (drawing_of has.lines) solids
    × (choices : List (List Bool)) × AreSolidsOfChoices (coordinates_of p.grid) p.blocks.numbers p.blocks.count choices solids
    × (text ≡ yes_text choices)

-- The same where further views and sections are read: it tells how many of all these solids fit them, and the choices that fill
-- those that do, all of them.
abbrev pub SaysWhichFit : {t : Input} {p : ProblemParts} → HasProblem t p → List ℕ → List ℕ → Type 0
SaysWhichFit {t} {p} has log text = IsSomeLog p log × (solids : List (List Cell)) × AreSolidsOf (drawing_of has.lines) solids
    × (fitting : List (List Cell)) × AreTold has fitting
    × (choices : List (List Bool)) × AreSolidsOfChoices (coordinates_of p.grid) p.blocks.numbers p.blocks.count choices fitting
    × (text ≡ fitting_text (length solids) choices)

-- either, by which layers are read
abbrev pub SaysRight : LayerSet → {t : Input} {p : ProblemParts} → HasProblem t p → List ℕ → List ℕ → Type 0
SaysRight Main has log text = SaysYes has log text
SaysRight Six has log text = SaysWhichFit has log text
SaysRight Sections has log text = SaysWhichFit has log text

-- or they are none, and it tells the first line that is refused, and why
abbrev pub SaysRefused : ProblemParts → List ℕ → List ℕ → Type 0
SaysRefused p log text = (kind : LogKind) × (line : ℕ) × IsLogRefused p log kind line × (text ≡ refusal_text (codes "log") (log_kind_name kind) line)

-- what is answered to an input whose drawing has these bytes behind it
abbrev pub SaysChecked : {t : Input} {p : ProblemParts} → HasProblem t p → List ℕ → Answer → List ℕ → Type 0
SaysChecked {t} {p} has log answer text = ((answer ≡ answers.Done) × SaysRight t.layers has log text) ⊎ ((answer ≡ answers.Refused) × SaysRefused p log text)

-- what is answered to an input, by its problem and what stands behind its drawing
abbrev pub TellsChecked : Input → Answer → List ℕ → Type 0
TellsChecked t answer text = (p : ProblemParts) × (has : HasProblem t p)
    × (log : List ℕ) × (rest_of_text t.bytes ≡ Some log) × SaysChecked has log answer text

-- ---- `blocks`

-- the text tells where the blocks of the input's problem are
abbrev pub TellsBlocks : Input → Answer → List ℕ → Type 0
TellsBlocks t answer text = (answer ≡ answers.Done) × (p : ProblemParts) × HasProblem t p × (text ≡ blocks_text t.decimals p)

-- ---- `trial`

-- the drawing that is made from a number
abbrev pub made_drawing : ℕ → Segment → Style
made_drawing n = solid_drawing (made_solid n)

-- the volume of the first solid of a list
abbrev pub first_volume : List (List Cell) → ℕ
first_volume [] = 0
first_volume (s ∷ solids) = length s

-- The figures of the search for the solids of the drawing that is made from a number, within these limits, which it keeps: its
-- blocks, its solids, its live prefixes, and the volume of its first solid.
pub record IsTried (n : ℕ) (text : List ℕ) : Type 0 where
  pub problem : ProblemParts
  pub grid : IsGridOf (made_drawing n) problem.grid
  pub blocks : IsBlocksOf problem.grid problem.blocks
  pub solids : List (List Cell)
  pub all : AreSolidsOf (made_drawing n) solids
  pub allows : AllowsEnd default_limits problem solids Whole
  pub told : text ≡ trial_text n problem.blocks.count (length solids) (node_count problem) (first_volume solids)
