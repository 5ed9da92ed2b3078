-- What is asked of a file: its first fault, or its problem.
use Rattle.std.specs.Prelude.{◌≡◌, ◌⊎◌, ℕ, ◌<◌, ◌≤◌, Bool, List, length, Some, None, Result, Ok, Err}
use Rattle.dxf_entities.specs.declared.layer_line.LayerLine.{LayerLine}
use Rattle.dxf_entities.specs.declared.layer_set.LayerSet.{LayerSet}
use Rattle.dxf_entities.specs.Apart.{lines_read}
use Rattle.dxf_entities.specs.Forms.{FormParts}
use Rattle.file_problem.specs.Cuts.{first_uncut}
use Rattle.further_views.specs.Further.{further_lines, AreFurtherOf, FurtherRuns}
use Rattle.solid_model.specs.declared.cell.Axis.{Axis}
use Rattle.solid_model.specs.declared.fault.Fault.{Fault}
use Rattle.solid_model.specs.declared.fault.Fault.TheVariants.{EmptyView, NoCut, TooFine, TooLong, TooManyBlocks}
use Rattle.solid_model.specs.declared.frame.View.{View}
use Rattle.solid_model.specs.Blocks.{ProblemParts, IsBlocksOf, HasTooManyBlocks}
use Rattle.solid_model.specs.Drawings.{drawing_of, IsShown, LacksView}
use Rattle.solid_model.specs.Grid.{IsFirstTooFine}
use Rattle.solid_model.specs.Limits.{most_blocks}
use Rattle.solid_model.specs.Line.{Line}
use Rattle.solid_model.specs.Panels.{GridParts, IsGridOf}

-- an input: the bytes of a file, how many decimals its coordinates are read with, which of its layers are read, whether one view
-- may be missing, and how many bytes it may have at most
pub record Input : Type 0 where
  pub bytes : List ℕ
  pub decimals : ℕ
  pub layers : LayerSet
  pub two : Bool
  pub most : ℕ

-- these bytes, at most so many, read in this form, where one view may be missing or none
abbrev pub input_in : FormParts → Bool → ℕ → List ℕ → Input
input_in form two most bytes = record { bytes = bytes; decimals = form.decimals; layers = form.layers; two = two; most = most }

-- the form in which it is read
abbrev pub form_of : Input → FormParts
form_of t = record { decimals = t.decimals; layers = t.layers }

-- ---- the faults of an input

-- lines lack this view
abbrev pub HasEmptyView : Bool → List Line → Fault → Type 0
HasEmptyView two ls fault = (v : View) × LacksView two ls v × (fault ≡ EmptyView v)

-- lines lack no view, and this axis of their drawing is the first that is too fine
abbrev pub HasFineAxis : Bool → List Line → Fault → Type 0
HasFineAxis two ls fault = IsShown two ls × (a : Axis) × (count : ℕ) × IsFirstTooFine (drawing_of ls) a count × (fault ≡ TooFine a count)

-- lines lack no view, and the grid of their drawing has too many blocks
abbrev pub HasManyBlocks : Bool → List Line → Fault → Type 0
HasManyBlocks two ls fault = IsShown two ls × (g : GridParts) × IsGridOf (drawing_of ls) g
    × (count : ℕ) × HasTooManyBlocks g count × (fault ≡ TooManyBlocks count)

-- the first fault of lines that are kept, where one view may be missing or none: the view that they lack; else the first axis that
-- is too fine; else too many blocks
abbrev pub IsFaultOfLines : Bool → List Line → Fault → Type 0
IsFaultOfLines two ls fault = HasEmptyView two ls fault ⊎ (HasFineAxis two ls fault ⊎ HasManyBlocks two ls fault)

-- lines of the three views have no fault, and of those of all other layers one is the first whose plane doesn't cut the grid's box
pub record HasNoCut (two : Bool) (ls : List Line) (others : List LayerLine) (fault : Fault) : Type 0 where
  pub problem : ProblemParts
  pub shown : IsShown two ls
  pub grid : IsGridOf (drawing_of ls) problem.grid
  pub blocks : IsBlocksOf problem.grid problem.blocks
  pub few : problem.blocks.count ≤ most_blocks
  pub line : ℕ
  pub first : first_uncut problem.grid others ≡ Some line
  pub is : fault ≡ NoCut line

-- the first fault of a file that reads so: what the reading found; else that of the lines of the three views; else a plane that
-- doesn't cut
abbrev pub IsFaultAfter : Bool → Result (List Line × List LayerLine) Fault → Fault → Type 0
IsFaultAfter two (Err found) fault = fault ≡ found
IsFaultAfter two (Ok read) fault = IsFaultOfLines two read.0 fault ⊎ HasNoCut two read.0 read.1 fault

-- the first fault of an input: its file is too long, or else that of what it reads as
abbrev pub IsFileFault : Input → Fault → Type 0
IsFileFault t fault = ((t.most < length t.bytes) × (fault ≡ TooLong))
    ⊎ ((length t.bytes ≤ t.most) × IsFaultAfter t.two (lines_read (form_of t) t.bytes) fault)

-- the input has no fault
abbrev pub HasNoFault : Input → Type 0
HasNoFault t = (fault : Fault) → IsFileFault t fault → ⊥

-- ---- the problem of an input

-- an input without a fault: its lines, those of all other layers, and the grid of the drawing of the former with its blocks
pub record HasProblem (t : Input) (p : ProblemParts) : Type 0 where
  pub short : length t.bytes ≤ t.most
  pub lines : List Line
  pub further : List LayerLine
  pub reads : lines_read (form_of t) t.bytes ≡ Ok (lines, further)
  pub shown : IsShown t.two lines
  pub grid : IsGridOf (drawing_of lines) p.grid
  pub blocks : IsBlocksOf p.grid p.blocks
  pub few : p.blocks.count ≤ most_blocks
  pub cuts : first_uncut p.grid further ≡ None

-- and this is what its other layers ask for
abbrev pub HasFurther : Input → ProblemParts → FurtherRuns → Type 0
HasFurther t p further = (has : HasProblem t p) × AreFurtherOf (further_lines has.further) further
